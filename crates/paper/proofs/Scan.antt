-- The loop over one clause's literals, read from its bytes: those that are not false, by the one at the place and what is left.
-- Assumes nothing.
use Prim.Native.Nat.{ℕ, zero, suc, ◌+◌, ◌-◌, ◌%◌, ◌/◌, ◌≤◌, ◌<◌}
use mathlib.Core.Path.{◌≡◌, refl, sym, ap, ◌∙◌}
use mathlib.Core.Logic.{◌≢◌}
use mathlib.Core.Bool.{Bool, true, false}
use mathlib.Core.List.Memᴰ
use mathlib.Core.List.{List, [], ◌∷◌}
use native.Mathlib.Omega.{arith}
use native.Mathlib.Numerals.{add-one, add-two}
use lib.ListN.{length, get_or, take, drop, length-take, length-drop}
use lib.Seq.{drop-cons}
use Rattle.paper.specs.declared.Extent.{Extent}
use Rattle.paper.specs.Atoms.{complement, ◌∈◌, Clause}
use Rattle.paper.specs.Files.{codes, two, payload, past}
use Rattle.paper.specs.Sweeps.{Values, is_true, not_false, State, visit}
use Rattle.paper.proofs.Lists.{complement_half, complement_mod}
use Rattle.paper.proofs.Values.{at_true, truth_at}
use Rattle.paper.proofs.Propagation.{setting, visit_true, visit_set, visit_more}

-- 1. The code's tests of a literal, by its variable's value.
false_by_sum : (vs : Values) (l : ℕ) → get_or vs (l / 2) 0 + l % 2 ≡ 2 → is_true vs (complement l) ≡ true
false_by_sum vs l e = at_true vs (complement l) (simp (complement_half, complement_mod) (omega arith))

not_false_by_sum : (vs : Values) (l : ℕ) → get_or vs (l / 2) 0 + l % 2 ≢ 2 → is_true vs (complement l) ≡ false
not_false_by_sum vs l ne = go (is_true vs (complement l)) refl
  where
    go : (b : Bool) → is_true vs (complement l) ≡ b → is_true vs (complement l) ≡ false
    go true e = let a = simp (complement_half, complement_mod) at (truth_at vs (complement l) e) in absurd (omega arith)
    go false e = e

pub true_by_value : (vs : Values) (l : ℕ) → get_or vs (l / 2) 0 ≡ l % 2 + 1 → is_true vs l ≡ true
true_by_value vs l e = at_true vs l (omega arith)

pub not_true_by_value : (vs : Values) (l : ℕ) → get_or vs (l / 2) 0 ≢ l % 2 + 1 → is_true vs l ≡ false
not_true_by_value vs l ne = go (is_true vs l) refl
  where
    go : (b : Bool) → is_true vs l ≡ b → is_true vs l ≡ false
    go true e = let a = truth_at vs l e in absurd (omega arith)
    go false e = e

-- 2. The literals that are not false, by the first literal; the visit, by the first of them.
first_false : (vs : Values) (l : ℕ) (D : Clause) → is_true vs (complement l) ≡ true → not_false vs (l ∷ D) ≡ not_false vs D
unfolding not_false
first_false vs l D e = rw (e, not_false)

first_not_false : (vs : Values) (l : ℕ) (D : Clause) → is_true vs (complement l) ≡ false → not_false vs (l ∷ D) ≡ l ∷ not_false vs D
unfolding not_false
first_not_false vs l D e = rw (e, not_false)

-- no code, no literal
pub not_false_none : (vs : Values) (here : Clause) → here ≡ [] → not_false vs here ≡ []
unfolding not_false
not_false_none vs here e = rw e

-- a true literal: the clause changes nothing
pub visit_first_true : (l : ℕ) (r : Clause) (s : State) → is_true s.values l ≡ true → visit (l ∷ r) s ≡ s
visit_first_true l [] s t = visit_true l s t
visit_first_true l (k ∷ r) s t = visit_more l k r s

-- the first is not true: set where there is no second
pub visit_first_alone : (l : ℕ) (r : Clause) (s : State) → is_true s.values l ≡ false → length r ≡ 0 → visit (l ∷ r) s ≡ setting l s
visit_first_alone l [] s t e = visit_set l s t
visit_first_alone l (k ∷ r) s t e = absurd (omega arith)

pub visit_second : (l : ℕ) (r : Clause) (s : State) → length r ≢ 0 → visit (l ∷ r) s ≡ s
visit_second l [] s ne = absurd (ne refl)
visit_second l (k ∷ r) s ne = visit_more l k r s

-- 3. The loop's turn over a clause's bytes, from the place i on.
pub codes_next : (bs : List ℕ) (i : ℕ) → i + 1 < length bs → codes (drop i bs) ≡ two bs i ∷ codes (drop (i + 2) bs)
unfolding codes two
codes_next bs i h = rw (drop-cons bs i 0 (omega arith), drop-cons bs (suc i) 0 (omega arith), add-one, add-two)

pub codes_end : (bs : List ℕ) (i : ℕ) → length bs ≤ i + 1 → codes (drop i bs) ≡ []
unfolding codes
codes_end [] zero h = refl
codes_end [] (suc i) h = refl
codes_end (a ∷ []) zero h = refl
codes_end (a ∷ b ∷ bs) zero h = absurd (omega arith)
codes_end (a ∷ bs) (suc i) h = codes_end bs i (omega arith)

-- the same with the code as the loop has read it
pub next_code : (bs : List ℕ) (i l : ℕ) → i + 1 < length bs → l ≡ two bs i → codes (drop i bs) ≡ l ∷ codes (drop (i + 2) bs)
next_code bs i l h e = codes_next bs i h ∙ ap (λ (k : ℕ). k ∷ codes (drop (i + 2) bs)) (sym e)

-- A part of a file read as codes: from i to e.
codes_short : (n : ℕ) (xs : List ℕ) → n ≤ 1 → codes (take n xs) ≡ []
unfolding codes
codes_short zero xs h = refl
codes_short (suc zero) [] h = refl
codes_short (suc zero) (x ∷ xs) h = refl
codes_short (suc (suc n)) xs h = absurd (omega arith)

pub part_end : (fs : List ℕ) (i e : ℕ) → e ≤ i + 1 → codes (take (e - i) (drop i fs)) ≡ []
part_end fs i e h = codes_short (e - i) (drop i fs) (omega arith)

pub part_next : (fs : List ℕ) (i e : ℕ) → i + 1 < e → e ≤ length fs
    → codes (take (e - i) (drop i fs)) ≡ two fs i ∷ codes (take (e - (i + 2)) (drop (i + 2) fs))
unfolding codes two
part_next fs i e h g = rw (pair, drop-cons fs i 0 (omega arith), drop-cons fs (suc i) 0 (omega arith), add-one, add-two)
  where
    pair : e - i ≡ suc (suc (e - (i + 2)))
    pair = omega arith

pub part_code : (fs : List ℕ) (i e l : ℕ) → i + 1 < e → e ≤ length fs → l ≡ two fs i
    → codes (take (e - i) (drop i fs)) ≡ l ∷ codes (take (e - (i + 2)) (drop (i + 2) fs))
part_code fs i e l h g q = part_next fs i e h g ∙ ap (λ (k : ℕ). k ∷ codes (take (e - (i + 2)) (drop (i + 2) fs))) (sym q)

-- a payload is such a part
pub payload_part : (f : List ℕ) (x : Extent) → payload f x ≡ take (past x - x.start) (drop x.start f)
unfolding payload past
payload_part f x = let e : x.start + x.size - x.start ≡ x.size = omega arith in rw e

pub length_payload : (f : List ℕ) (x : Extent) → past x ≤ length f → length (payload f x) ≡ x.size
unfolding payload past
length_payload f x h = simp (length-take, length-drop) (omega arith)

-- 4. A turn of the loop, for any list of codes that goes on with l: `next_code` and `part_code` say that one does.
module _ (l : ℕ) {here rest : Clause} (step : here ≡ l ∷ rest) where
  -- what holds of all that is left holds of l, and of what is left after it
  pub step_now : {P : ℕ → Type 0} → ((k : ℕ) → k ∈ here → P k) → P l
  step_now inv = inv l (rw step (Memᴰ.head refl))

  pub step_later : {P : ℕ → Type 0} → ((k : ℕ) → k ∈ here → P k) → (k : ℕ) → k ∈ rest → P k
  step_later inv k m = inv k (rw step (Memᴰ.tail m))

  module _ (vs : Values) (v : ℕ) (ev : v ≡ get_or vs (l / 2) 0) where
    pub step_false : v + l % 2 ≡ 2 → not_false vs here ≡ not_false vs rest
    step_false e = ap (not_false vs) step ∙ first_false vs l rest (false_by_sum vs l (rw ev at e))

    pub step_not_false : v + l % 2 ≢ 2 → not_false vs here ≡ l ∷ not_false vs rest
    step_not_false ne = ap (not_false vs) step ∙ first_not_false vs l rest (not_false_by_sum vs l (rw ev at ne))
