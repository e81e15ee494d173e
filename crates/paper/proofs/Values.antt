-- Values of the variables: what is true after a literal is put, which literals of a clause are not false, and how long the values are.
-- Assumes nothing.
use Prim.Native.Nat.{ℕ, suc, ◌-◌, ◌%◌, ◌/◌, ◌<◌}
use mathlib.Core.Path.{◌≡◌, refl, sym, ap, ◌∙◌}
use mathlib.Core.Logic.{◌≢◌, ◌⊎◌, inl, inr}
use mathlib.Core.Bool.{Bool, true, false, true≢false, false≢true}
use mathlib.Core.List.Memᴰ
use mathlib.Core.List.{[], ◌∷◌}
use native.Mathlib.Omega.{arith}
use native.Mathlib.Nat.{suc_inj}
use native.Mathlib.Decide.{ℕ_discrete, dec_lt}
use lib.ListN.{length, get_or, set, length-set, get_or-eq_default}
use lib.Seq.{get_or-set_same, get_or-set_other, set_out}
use Rattle.paper.specs.Atoms.{complement, ◌∈◌, Clause}
use Rattle.paper.specs.Sweeps.{Values, is_true, put, not_false}
use Rattle.paper.specs.Valid.{Distinct}
use Rattle.paper.proofs.Lists.{complement_half, complement_mod, same_half, eqb_yes, eqb_no, eqb_same}

-- the branch that a test picks
pub when_true : {A : Type 0} (b : Bool) (x y : A) → b ≡ true → elim b [ true ↦ x | false ↦ y ] ≡ x
when_true true x y e = refl
when_true false x y e = absurd (false≢true e)

pub when_false : {A : Type 0} (b : Bool) (x y : A) → b ≡ false → elim b [ true ↦ x | false ↦ y ] ≡ y
when_false true x y e = absurd (true≢false e)
when_false false x y e = refl

-- the literal l is true exactly where its variable's value is 1 for 2v, and 2 for 2v + 1
pub truth_at : (vs : Values) (l : ℕ) → is_true vs l ≡ true → get_or vs (l / 2) 0 ≡ suc (l % 2)
unfolding is_true
truth_at vs l t = eqb_yes (get_or vs (l / 2) 0) (suc (l % 2)) t

pub at_true : (vs : Values) (l : ℕ) → get_or vs (l / 2) 0 ≡ suc (l % 2) → is_true vs l ≡ true
unfolding is_true
at_true vs l e = eqb_same (get_or vs (l / 2) 0) (suc (l % 2)) e

pub not_true_at : (vs : Values) (l : ℕ) → is_true vs l ≡ false → get_or vs (l / 2) 0 ≢ suc (l % 2)
unfolding is_true
not_true_at vs l e = eqb_no (get_or vs (l / 2) 0) (suc (l % 2)) e

-- a literal and its complement are not both true
pub never_both : (vs : Values) (l : ℕ) → is_true vs l ≡ true → is_true vs (complement l) ≡ true → ⊥
never_both vs l p q =
    let a = truth_at vs l p in
    let b = simp (complement_half, complement_mod) at (truth_at vs (complement l) q) in
    omega arith

-- only the literal put became true
pub put_out : (vs : Values) (l k : ℕ) → is_true (put vs l) k ≡ true → (k ≡ l) ⊎ (is_true vs k ≡ true)
unfolding put
put_out vs l k t = go (ℕ_discrete (k / 2) (l / 2)) (dec_lt (l / 2) (length vs))
  where
    e : get_or (set vs (l / 2) (suc (l % 2))) (k / 2) 0 ≡ suc (k % 2)
    e = truth_at (put vs l) k t

    go : Dec (k / 2 ≡ l / 2) → Dec (l / 2 < length vs) → (k ≡ l) ⊎ (is_true vs k ≡ true)
    go (yes h) (yes r) = inl (same_half k l h (suc_inj (sym e ∙ rw h (get_or-set_same vs (l / 2) (suc (l % 2)) 0 r))))
    go (yes h) (no r) = inr (at_true vs k (sym (ap (λ (x : Values). get_or x (k / 2) 0) (set_out vs (l / 2) (suc (l % 2)) (omega arith))) ∙ e))
    go (no h) d = inr (at_true vs k (sym (get_or-set_other vs (l / 2) (k / 2) (suc (l % 2)) 0 h) ∙ e))

pub put_in : (vs : Values) (l : ℕ) → l / 2 < length vs → is_true (put vs l) l ≡ true
unfolding put
put_in vs l r = at_true (put vs l) l (get_or-set_same vs (l / 2) (suc (l % 2)) 0 r)

-- a value that is not 0 stands in the list
in_reach : (vs : Values) (i v : ℕ) → get_or vs i 0 ≡ suc v → i < length vs
in_reach vs i v e = go (dec_lt i (length vs))
  where
    go : Dec (i < length vs) → i < length vs
    go (yes h) = h
    go (no h) = absurd (far (get_or-eq_default vs 0 {n = i} (omega arith)))
      where
        far : get_or vs i 0 ≡ 0 → ⊥
        far z = omega arith

-- what was true stays true, if what is put was not false
pub put_keep : (vs : Values) (l k : ℕ) → is_true vs (complement l) ≡ false → is_true vs k ≡ true → is_true (put vs l) k ≡ true
unfolding put
put_keep vs l k f t = go (ℕ_discrete (k / 2) (l / 2)) (ℕ_discrete (k % 2) (l % 2))
  where
    e : get_or vs (k / 2) 0 ≡ suc (k % 2)
    e = truth_at vs k t

    ne : get_or vs (l / 2) 0 ≢ suc (1 - l % 2)
    ne = simp (complement_half, complement_mod) at (not_true_at vs (complement l) f)

    go : Dec (k / 2 ≡ l / 2) → Dec (k % 2 ≡ l % 2) → is_true (put vs l) k ≡ true
    go (yes h) (yes m) = rw (same_half k l h m) (put_in vs l (rw h at (in_reach vs (k / 2) (k % 2) e)))
    go (yes h) (no m) = absurd (ne (rw h at e ∙ ap suc (omega arith)))
    go (no h) d = at_true (put vs l) k (get_or-set_other vs (l / 2) (k / 2) (suc (l % 2)) 0 h ∙ e)

pub length_put : (vs : Values) (l : ℕ) → length (put vs l) ≡ length vs
unfolding put
length_put vs l = length-set vs (l / 2) (suc (l % 2))

-- the literals that are not false
pub not_false_out : (vs : Values) (D : Clause) {k : ℕ} → k ∈ not_false vs D → (k ∈ D) × (is_true vs (complement k) ≡ false)
unfolding not_false
not_false_out vs [] m = elim m [ ]
not_false_out vs (l ∷ D) {k} m = go (λ q. not_false_out vs D {k = k} q) (is_true vs (complement l)) refl m
  where
    tail : (k ∈ not_false vs D → (k ∈ D) × (is_true vs (complement k) ≡ false)) → k ∈ not_false vs D → (k ∈ l ∷ D) × (is_true vs (complement k) ≡ false)
    tail below m = (Memᴰ.tail (below m).0, (below m).1)

    go : (k ∈ not_false vs D → (k ∈ D) × (is_true vs (complement k) ≡ false)) → (b : Bool) → is_true vs (complement l) ≡ b
        → k ∈ elim b [ true ↦ not_false vs D | false ↦ l ∷ not_false vs D ] → (k ∈ l ∷ D) × (is_true vs (complement k) ≡ false)
    go below true e m = tail below m
    go below false e (Memᴰ.head p) = (Memᴰ.head p, ap (λ (x : ℕ). is_true vs (complement x)) p ∙ e)
    go below false e (Memᴰ.tail m) = tail below m

pub not_false_in : (vs : Values) (D : Clause) {k : ℕ} → k ∈ D → (is_true vs (complement k) ≡ true) ⊎ (k ∈ not_false vs D)
unfolding not_false
not_false_in vs [] m = elim m [ ]
not_false_in vs (l ∷ D) {k} m = go (λ q. not_false_in vs D {k = k} q) (is_true vs (complement l)) refl m
  where
    up : (is_true vs (complement k) ≡ true) ⊎ (k ∈ not_false vs D) → (is_true vs (complement k) ≡ true) ⊎ (k ∈ l ∷ not_false vs D)
    up (inl e) = inl e
    up (inr m) = inr (Memᴰ.tail m)

    go : (k ∈ D → (is_true vs (complement k) ≡ true) ⊎ (k ∈ not_false vs D)) → (b : Bool) → is_true vs (complement l) ≡ b
        → k ∈ l ∷ D → (is_true vs (complement k) ≡ true) ⊎ (k ∈ elim b [ true ↦ not_false vs D | false ↦ l ∷ not_false vs D ])
    go below true e (Memᴰ.head p) = inl (ap (λ (x : ℕ). is_true vs (complement x)) p ∙ e)
    go below true e (Memᴰ.tail m) = below m
    go below false e (Memᴰ.head p) = inr (Memᴰ.head p)
    go below false e (Memᴰ.tail m) = up (below m)

pub not_false_distinct : (vs : Values) (D : Clause) → Distinct D → Distinct (not_false vs D)
unfolding not_false
not_false_distinct vs [] d = tt
not_false_distinct vs (l ∷ D) d = go (not_false_distinct vs D d.1) (is_true vs (complement l))
  where
    go : Distinct (not_false vs D) → (b : Bool) → Distinct (elim b [ true ↦ not_false vs D | false ↦ l ∷ not_false vs D ])
    go below true = below
    go below false = (λ m. d.0 (not_false_out vs D m).0, below)
