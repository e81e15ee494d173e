-- The clause of a word, and the number at which to go on, by the tests that the code makes.
-- Assumes nothing.
use Prim.Native.Nat.{ℕ, zero, suc, ◌+◌, ◌-◌, ◌%◌, ◌≤◌, ◌<◌, max}
use mathlib.Core.Path.{◌≡◌, refl, sym, ap, ◌∙◌}
use mathlib.Core.Bool.{Bool, true, false}
use mathlib.Core.List.{List}
use native.Mathlib.Omega.{arith}
use native.Mathlib.Numerals.{unary_clauses}
use lib.Dec.{leb}
use lib.ListN.{length, get_or, set, drop, length-drop, get_or-eq_default}
use lib.Seq.{length-take-le}
use Rattle.paper.specs.declared.Reason.{Reason}
use Rattle.paper.specs.declared.Extent.{Extent}
use Rattle.paper.specs.Files.{File, ok, two, payload, field, even}
use Rattle.paper.proofs.Lists.{eqb_yes, leb_yes, leb_no, leb_within, leb_beyond}
use Rattle.field.specs.Field.{extent_at}
use Rattle.field.proofs.Laws.{stands}
use Rattle.lookup.specs.Clause.{formula_word, proof_word, Entered, clause_bytes, Whole, Stands, onward, lowered}

-- the clause of the word w
module _ (f p : File) (w : ℕ) where
  pub clause_formula : w < 2097152 → payload f (extent_at f (w % 1048576)) ≡ clause_bytes f p w
  unfolding clause_bytes
  clause_formula h = rw (leb_beyond 2097152 w h, clause_bytes)

  pub clause_proof : 2097152 ≤ w → payload p (extent_at p (w % 1048576)) ≡ clause_bytes f p w
  unfolding clause_bytes
  clause_proof h = rw (leb_within 2097152 w h, clause_bytes)

-- the field lies whole in its file, by the paper's reading of it
module _ (why : Reason) (tag : ℕ) (f : File) (at : ℕ) (e : Extent) (q : field why tag even f at ≡ ok e) where
  whole_of : Whole f at
  unfolding even
  whole_of =
      let s = stands why tag even f at e q in
      let i : e.start + e.size ≤ length f = s.within in
      let a : e.start ≡ at + 3 = s.start in
      let b : e.size ≡ two f (at + 1) = s.size in
      let z : e.size % 2 ≡ 0 = eqb_yes (e.size % 2) 0 s.length_allowed in
      record { inside = omega arith; even = omega arith }

  payload_of : payload f (extent_at f at) ≡ payload f e
  unfolding extent_at payload
  payload_of = let s = stands why tag even f at e q in rw (s.start, s.size)

-- The clause of a word is the payload of the field that the paper's reading finds, and it stands in its file.
module _ (why : Reason) (tag : ℕ) (f p : File) (at : ℕ) (e : Extent) (small : at < 1048576) where
  pub clause_of_formula : field why tag even f at ≡ ok e → clause_bytes f p (formula_word at) ≡ payload f e
  clause_of_formula q =
      let place : (1048576 + at) % 1048576 ≡ at = omega arith in
      sym (clause_formula f p (formula_word at) (omega arith)) ∙ rw place (payload_of why tag f at e q)

  pub clause_of_proof : field why tag even p at ≡ ok e → clause_bytes f p (proof_word at) ≡ payload p e
  clause_of_proof q =
      let place : (2097152 + at) % 1048576 ≡ at = omega arith in
      sym (clause_proof f p (proof_word at) (omega arith)) ∙ rw place (payload_of why tag p at e q)

  pub formula_stands : field why tag even f at ≡ ok e → Stands f p (formula_word at)
  formula_stands q =
      let place : (1048576 + at) % 1048576 ≡ at = omega arith in
      record { in_formula = λ h. rw place (whole_of why tag f at e q); in_proof = λ h. absurd (omega arith) }

  pub proof_stands : field why tag even p at ≡ ok e → Stands f p (proof_word at)
  proof_stands q =
      let place : (2097152 + at) % 1048576 ≡ at = omega arith in
      record { in_formula = λ h. absurd (omega arith); in_proof = λ h. rw place (whole_of why tag p at e q) }

-- a clause that stands has an even number of bytes
payload_length : (f : File) (at : ℕ) → Whole f at → length (payload f (extent_at f at)) ≡ two f (at + 1)
unfolding payload extent_at
payload_length f at w =
    let i = w.inside in
    let rest : length (drop (at + 3) f) ≡ length f - (at + 3) = length-drop (at + 3) f in
    length-take-le (two f (at + 1)) (drop (at + 3) f) (omega arith)

pub clause_even : (f p : File) (w : ℕ) → Stands f p w → length (clause_bytes f p w) % 2 ≡ 0
unfolding clause_bytes
clause_even f p w s = go (leb 2097152 w) refl
  where
    go : (b : Bool) → leb 2097152 w ≡ b
        → length {A = ℕ} (elim b [ true ↦ payload p (extent_at p (w % 1048576)) | false ↦ payload f (extent_at f (w % 1048576)) ]) % 2 ≡ 0
    go true q =
        let h : Whole p (w % 1048576) = s.in_proof (leb_yes 2097152 w q) in
        ap (λ (n : ℕ). n % 2) (payload_length p (w % 1048576) h) ∙ h.even
    go false q =
        let h : Whole f (w % 1048576) = s.in_formula (leb_no 2097152 w q) in
        ap (λ (n : ℕ). n % 2) (payload_length f (w % 1048576) h) ∙ h.even

-- the number at which to go on, by the word w of the number n, or 0 beyond the table
module _ (ws : List ℕ) (n w : ℕ) (e : w ≡ get_or ws n 0) where
  pub onward_live : Entered w → n ≡ onward ws n
  unfolding onward
  onward_live h = rw (leb_within 1048576 (get_or ws n 0) (omega arith), onward)

  pub onward_further : w < 1048576 → max n w ≡ onward ws n
  unfolding onward
  onward_further h = rw (e, leb_beyond 1048576 (get_or ws n 0) (omega arith), onward)

  pub onward_here : w < 1048576 → w < n → n ≡ onward ws n
  onward_here h k = let m : n ≡ max n w = omega arith in m ∙ onward_further h

  pub onward_later : w < 1048576 → n ≤ w → w ≡ onward ws n
  onward_later h k = let m : w ≡ max n w = omega arith in m ∙ onward_further h

pub onward_beyond : (ws : List ℕ) (n : ℕ) → length ws ≤ n → n ≡ onward ws n
onward_beyond ws n h =
    let m : n ≡ max n 0 = omega arith in
    m ∙ onward_further ws n 0 (sym (get_or-eq_default ws 0 h)) (omega arith)

-- the words right below a number that was cleared: one that is that of a clause, one that is not, and the end
module _ (ws : List ℕ) (e : ℕ) where
  pub lowered_stop : (k : ℕ) → 0 < k → Entered (get_or ws (k - 1) 0) → lowered ws k e ≡ ws
  unfolding lowered
  lowered_stop zero h in_use = absurd (omega arith)
  lowered_stop (suc k) h in_use = rw (leb_within 1048576 (get_or ws k 0) (simp unary_clauses at in_use), lowered)

  pub lowered_next : (k : ℕ) → 0 < k → get_or ws (k - 1) 0 < 1048576 → lowered (set ws (k - 1) e) (k - 1) e ≡ lowered ws k e
  unfolding lowered
  lowered_next zero h none = absurd (omega arith)
  lowered_next (suc k) h none = simp unary_clauses (rw (leb_beyond 1048576 (get_or ws k 0) (simp unary_clauses at none), lowered))

  pub lowered_end : (k : ℕ) → k ≤ 0 → lowered ws k e ≡ ws
  unfolding lowered
  lowered_end zero h = refl
  lowered_end (suc k) h = absurd (omega arith)
