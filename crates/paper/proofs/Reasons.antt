-- Which reasons each part of the answer can give: those that the paper's order names there, and no others.
-- Assumes nothing.
use Prim.Native.Nat.{ℕ, zero, suc, ◌+◌, ◌*◌, ◌/◌, ◌≤◌}
use mathlib.Core.Path.{◌≡◌, refl, subst}
use mathlib.Core.Logic.{◌≢◌, ◌⊎◌, inl, inr}
use mathlib.Core.Bool.{Bool, true, false, ◌&&◌, ◌||◌}
use mathlib.Core.List.{List, [], ◌∷◌, map}
use native.Mathlib.Omega.{arith}
use lib.Dec.{eqb, leb, ltb}
use lib.ListN.{length, get_or}
use Rattle.paper.specs.declared.Reason.{Reason}
use Rattle.paper.specs.declared.Reason.TheVariants.{WorkShort, FileLong, FormulaField, OverLimit, FormulaCode, FormulaTwice, FormulaEnd, ProofField, ProofCode, ProofTwice, NumberNotLive, NumbersUsedUp, NotRup, NotTrivialised, NotPassing}
use Rattle.paper.specs.declared.Verdict.{Verdict}
use Rattle.paper.specs.declared.Verdict.TheVariants.{Refuted, Held, Refused}
use Rattle.paper.specs.Atoms.{Clause, Formula, Witness}
use Rattle.paper.specs.Files.{File, Read, bad, ◌>>=◌, ◌>>◌, need, two, payload, past, field, four, even, fours, codes, mappings, Step}
use Rattle.paper.specs.Refusals.{each, no_two, between, check_clause, read_clauses, read_formula, field_if, read_fields, check_mappings, is_live, check_numbers, read_step}
use Rattle.paper.specs.Answers.{number_of, verdict_numbers, stops, Judged, not_rup, not_trivialised, sr_lowest, wsr_lowest, wsr_new, Steps, refuted, held, unread, judged, goes_on, Answer, work_short, file_long, formula_bad, proof_judged}
use Rattle.paper.proofs.Reading.{Reads, reads_bind, reads_seq, reads_each, reads_no_two}

-- the reasons in the order of the paper's table
pub reasons_numbered : map number_of (WorkShort ∷ FileLong ∷ FormulaField ∷ OverLimit ∷ FormulaCode ∷ FormulaTwice ∷ FormulaEnd ∷ ProofField ∷ ProofCode
    ∷ ProofTwice ∷ NumberNotLive ∷ NumbersUsedUp ∷ NotRup ∷ NotTrivialised ∷ NotPassing ∷ [])
    ≡ 1 ∷ 2 ∷ 3 ∷ 4 ∷ 5 ∷ 6 ∷ 7 ∷ 8 ∷ 9 ∷ 10 ∷ 11 ∷ 12 ∷ 13 ∷ 14 ∷ 15 ∷ []
reasons_numbered = refl

-- what holds of the reason, where there is one
abbrev Else : {A : Type 0} → (Reason → Type 0) → Read A → Type 0
Else P m = Reads (λ _. Unit {0}) (λ r p. P r) m

module _ (P : Reason → Type 0) where
  else_bind : {A B : Type 0} (m : Read A) (f : A → Read B) → Else P m → ((a : A) → Else P (f a)) → Else P (m >>= f)
  else_bind m f p k = reads_bind (λ r q. P r) _ _ m f p (λ a _. k a)

  else_seq : {A B : Type 0} (m : Read A) (n : Read B) → Else P m → Else P n → Else P (m >> n)
  else_seq m n p k = reads_seq (λ r q. P r) _ _ m n p (λ a _. k)

  else_need : (b : Bool) (r : Reason) (p : ℕ) → P r → Else P (need b r p)
  unfolding need
  else_need true r p h = tt
  else_need false r p h = h

  else_field : (r : Reason) (tag : ℕ) (allowed : ℕ → Bool) (f : File) (at : ℕ) → P r → Else P (field r tag allowed f at)
  unfolding field
  else_field r tag allowed f at h =
      else_seq _ _ (else_need (leb (at + 3) (length f)) r at h)
      (else_seq _ _ (else_need (eqb (get_or f at 0) tag) r at h)
      (else_seq _ _ (else_need (allowed (two f (at + 1))) r at h)
      (else_seq _ _ (else_need (leb (at + 3 + two f (at + 1)) (length f)) r at h) tt)))

  else_each : (r : Reason) (good : ℕ → Bool) (u p : ℕ) (C : List ℕ) → P r → Else P (each r good u p C)
  else_each r good u p C h = reads_each (λ q at. P q) r (λ at. h) good u p C

  else_no_two : (r : Reason) (seen : List ℕ) (u p : ℕ) (C : List ℕ) → P r → Else P (no_two r seen u p C)
  else_no_two r seen u p C h = reads_no_two (λ q at. P q) r (λ at. h) seen u p C

  else_clause : (range twice : Reason) (vars p : ℕ) (C : Clause) → P range → P twice → Else P (check_clause range twice vars p C)
  unfolding check_clause
  else_clause range twice vars p C a b =
      else_seq _ _ (else_each range (between 2 (2 * vars + 1)) 2 p C a) (else_no_two twice [] 2 p (map (λ l. l / 2) C) b)

  else_field_if : (b : Bool) (tag : ℕ) (allowed : ℕ → Bool) (f : File) (at : ℕ) → P ProofField → Else P (field_if b tag allowed f at)
  unfolding field_if
  else_field_if true tag allowed f at h = else_field ProofField tag allowed f at h
  else_field_if false tag allowed f at h = tt

  else_fields : (f : File) (at : ℕ) → P ProofField → Else P (read_fields f at)
  unfolding read_fields
  else_fields f at h =
      else_seq _ _ (else_need (between 0x11 0x14 (get_or f at 0)) ProofField at h)
      (else_bind _ _ (else_field ProofField (get_or f at 0) even f at h) λ c.
      else_bind _ _ (else_field_if (between 0x12 0x13 (get_or f at 0)) 0x21 fours f (past c) h) λ w.
      else_bind _ _ (else_field_if (eqb (get_or f at 0) 0x13) 0x22 even f (past w) h) λ n. tt)

-- the fields of a step are refused for reason 8 only
pub fields_reason : (f : File) (at : ℕ) (r : Reason) (p : ℕ) → read_fields f at ≡ bad r p → r ≡ ProofField
fields_reason f at r p e = subst (Else (λ q. q ≡ ProofField)) e (else_fields (λ q. q ≡ ProofField) f at refl)

-- "In the formula: HEAD 3, 4; for each clause 7 (bytes at an end), 3, 5, 6 ..; after clause m, 7."
abbrev pub OfFormula : Reason → Type 0
OfFormula r = (3 ≤ number_of r) × (number_of r ≤ 7)

else_clauses : (f : File) (vars m n at : ℕ) → Else OfFormula (read_clauses f vars m n at)
unfolding read_clauses
else_clauses f vars zero n at = tt
else_clauses f vars (suc m) n at =
    else_seq OfFormula _ _ (else_need OfFormula (ltb at (length f)) FormulaEnd at (omega arith, omega arith))
    (else_bind OfFormula _ _ (else_field OfFormula FormulaField 0x02 even f at (omega arith, omega arith)) λ e.
    else_seq OfFormula _ _
    (else_clause OfFormula FormulaCode FormulaTwice vars e.start (codes (payload f e)) (omega arith, omega arith) (omega arith, omega arith))
    (else_bind OfFormula _ _ (else_clauses f vars m (suc n) (past e)) λ more. tt))

else_formula : (f : File) → Else OfFormula (read_formula f)
unfolding read_formula
else_formula f =
    else_bind OfFormula _ _ (else_field OfFormula FormulaField 0x01 four f 0 (omega arith, omega arith)) λ e.
    else_seq OfFormula _ _ (else_need OfFormula (leb (two f 3) 4095 && leb (two f 5) 16383) OverLimit 0 (omega arith, omega arith))
    (else_bind OfFormula _ _ (else_clauses f (two f 3) (two f 5) 1 (past e)) λ F.
    else_seq OfFormula _ _ (else_need OfFormula (leb (length f) F.1) FormulaEnd F.1 (omega arith, omega arith)) tt)

pub formula_reasons : (f : File) (r : Reason) (p : ℕ) → read_formula f ≡ bad r p → OfFormula r
formula_reasons f r p e = subst (Else OfFormula) e (else_formula f)

-- "In a step: 8 over all its fields; the clause 9, 10 ..; the witness 9, 10; the numbers 11; then 12; then 13, or 14 before 15."
abbrev pub OfStep : Reason → Type 0
OfStep r = (8 ≤ number_of r) × (number_of r ≤ 15)

else_mappings : (vars p : ℕ) (s : Witness) → Else OfStep (check_mappings vars p s)
unfolding check_mappings
else_mappings vars p [] = tt
else_mappings vars p (m ∷ s) =
    else_seq OfStep _ _ (else_need OfStep (between 1 vars m.0) ProofCode p (omega arith, omega arith))
    (else_seq OfStep _ _ (else_need OfStep (leb m.1 (2 * vars + 1)) ProofCode (p + 2) (omega arith, omega arith)) (else_mappings vars (p + 4) s))

else_numbers : (F : Formula) (last p : ℕ) (ns : List ℕ) → Else OfStep (check_numbers F last p ns)
unfolding check_numbers
else_numbers F last p [] = tt
else_numbers F last p (n ∷ ns) =
    else_seq OfStep _ _ (else_need OfStep (is_live n F && ltb last n) NumberNotLive p (omega arith, omega arith)) (else_numbers F n (p + 2) ns)

else_step : (f : File) (vars : ℕ) (F : Formula) (next at : ℕ) → Else OfStep (read_step f vars F next at)
unfolding read_step
else_step f vars F next at =
    else_bind OfStep _ _ (else_fields OfStep f at (omega arith, omega arith)) λ x.
    else_seq OfStep _ _ (else_clause OfStep ProofCode ProofTwice vars x.clause.start (codes (payload f x.clause)) (omega arith, omega arith) (omega arith, omega arith))
    (else_seq OfStep _ _ (else_mappings vars x.witness.start (mappings (codes (payload f x.witness))))
    (else_seq OfStep _ _
    (else_no_two OfStep ProofTwice [] 4 x.witness.start (map (λ (m : ℕ × ℕ). m.0) (mappings (codes (payload f x.witness)))) (omega arith, omega arith))
    (else_seq OfStep _ _ (else_numbers F 0 x.numbers.start (codes (payload f x.numbers)))
    (else_seq OfStep _ _ (else_need OfStep (eqb (get_or f at 0) 0x14 || ltb next 16384) NumbersUsedUp at (omega arith, omega arith)) tt))))

judged_reasons : {F : Formula} {next : ℕ} {t : Step} {r : Reason} {p : ℕ} → Judged F next t (stops r p) → OfStep r
judged_reasons (not_rup j) = (omega arith, omega arith)
judged_reasons (not_trivialised j) = (omega arith, omega arith)
judged_reasons (sr_lowest a j) = (omega arith, omega arith)
judged_reasons (wsr_lowest j) = (omega arith, omega arith)
judged_reasons (wsr_new a j) = (omega arith, omega arith)

-- what a verdict names: nothing, or a reason of a step at a step that counts
abbrev pub OfSteps : Verdict → Type 0
OfSteps (Refuted n) = Unit {0}
OfSteps (Held n) = Unit {0}
OfSteps (Refused f) = OfStep f.reason × (1 ≤ f.step)

pub steps_reasons : {proof : File} {vars : ℕ} {F : Formula} {next done at : ℕ} {v : Verdict} → Steps proof vars F next done at v → OfSteps v
steps_reasons (refuted a b) = tt
steps_reasons (held a b) = tt
steps_reasons {proof} {vars} {F} {next} {done} {at} (unread a e) = (subst (Else OfStep) e (else_step proof vars F next at), omega arith)
steps_reasons (judged a b j) = (judged_reasons j, omega arith)
steps_reasons (goes_on a b j x) = steps_reasons x

-- reason 1 is said of short work memory only: otherwise the work memory is zeroed
pub not_reason_1 : {words bytes : ℕ} {formula proof : File} {v : Verdict} → 16384 ≤ words → 8192 ≤ bytes → Answer words bytes formula proof v
    → (verdict_numbers v).reason ≢ 1
not_reason_1 w b (work_short (inl h)) e = absurd (omega arith)
not_reason_1 w b (work_short (inr h)) e = absurd (omega arith)
not_reason_1 w b (file_long x y z) e = absurd (omega arith)
not_reason_1 {formula} w b (formula_bad {r} {p} i q) e = side (formula_reasons formula r p q)
  where
    side : OfFormula r → ⊥
    side h = omega arith
not_reason_1 {v} w b (proof_judged i q s) e = side v (steps_reasons s) e
  where
    side : (x : Verdict) → OfSteps x → (verdict_numbers x).reason ≡ 1 → ⊥
    side (Refuted n) h z = omega arith
    side (Held n) h z = omega arith
    side (Refused f) h z = omega arith

-- what a verdict of the paper's list names: step 0 with the reasons of the call and the formula, a step that counts with those of a step
abbrev pub Listed : Verdict → Type 0
Listed (Refuted n) = Unit {0}
Listed (Held n) = Unit {0}
Listed (Refused f) =
    ((f.step ≡ 0) × (1 ≤ number_of f.reason) × (number_of f.reason ≤ 7)) ⊎ (OfStep f.reason × (1 ≤ f.step))

pub answer_listed : {words bytes : ℕ} {formula proof : File} {v : Verdict} → Answer words bytes formula proof v → Listed v
answer_listed (work_short h) = inl (refl, omega arith, omega arith)
answer_listed (file_long a b h) = inl (refl, omega arith, omega arith)
answer_listed {formula} (formula_bad {r} {p} w e) = let h = formula_reasons formula r p e in inl (refl, omega arith, h.1)
answer_listed {v} (proof_judged w e s) = go v (steps_reasons s)
  where
    go : (x : Verdict) → OfSteps x → Listed x
    go (Refuted n) h = tt
    go (Held n) h = tt
    go (Refused f) h = inr h
