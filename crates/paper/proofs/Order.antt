-- The order of the refusals, and where a field is refused: facts that a definition with two tests exchanged would not meet.
-- Assumes nothing.
use Prim.Native.Nat.{ℕ, suc, ◌+◌, ◌*◌, ◌≤◌, ◌<◌}
use mathlib.Core.Path.{◌≡◌, refl, sym, subst}
use mathlib.Core.Logic.{◌≢◌, ◌⊎◌, inl, inr}
use mathlib.Core.Bool.{Bool, true, false, ◌||◌}
use mathlib.Core.List.{[], map}
use native.Mathlib.Omega.{arith}
use lib.Dec.{eqb, leb, ltb}
use lib.ListN.{length, get_or}
use Rattle.paper.specs.declared.Reason.{Reason}
use Rattle.paper.specs.declared.Reason.TheVariants.{WorkShort, FileLong, FormulaField, FormulaCode, FormulaTwice, ProofCode, ProofTwice, NumbersUsedUp, NotTrivialised}
use Rattle.paper.specs.declared.Extent.{Extent}
use Rattle.paper.specs.declared.Fields.{Fields}
use Rattle.paper.specs.declared.Verdict.{Verdict}
use Rattle.paper.specs.declared.Verdict.TheVariants.{Refuted, Held}
use Rattle.paper.specs.Atoms.{Clause, Formula, Live, Witness}
use Rattle.paper.specs.Files.{File, Read, ok, bad, ◌>>=◌, ◌>>◌, need, two, payload, field, four, even, codes, mappings, Step, sr_step}
use Rattle.paper.specs.Conditions.{Trivialises}
use Rattle.paper.specs.Refusals.{each, no_two, between, check_clause, read_clauses, read_formula, read_fields, check_mappings, check_numbers, to_step, read_step}
use Rattle.paper.specs.Answers.{refused, taken, Judged, stops, not_trivialised, sr_lowest, Steps, refuted, held, unread, judged, goes_on, Within, Answer, work_short, file_long, formula_bad, proof_judged}
use Rattle.paper.proofs.Lists.{eqb_same, eqb_other, leb_within, leb_beyond}
use Rattle.paper.proofs.Answering.{steps_once, answer_once}
use Rattle.paper.proofs.Reading.{Then}
use Rattle.paper.proofs.Rules.{field_exactly, new_starts}

-- "the clause 9, 10 ..": a code out of range is refused first, whatever else is wrong with the clause
pub range_first : (range twice : Reason) (vars start : ℕ) (C : Clause) (r : Reason) (p : ℕ) → each range (between 2 (2 * vars + 1)) 2 start C ≡ bad r p
    → check_clause range twice vars start C ≡ bad r p
unfolding check_clause ◌>>◌
range_first range twice vars start C r p e = rw (e, ◌>>◌)

-- The checks of a step whose fields are read: its clause; its witness's variables and atoms; a variable mapped twice; its numbers.
module _ (f : File) (vars : ℕ) (x : Fields) where
  abbrev of_clause : Read (Unit {0})
  of_clause = check_clause ProofCode ProofTwice vars x.clause.start (codes (payload f x.clause))

  abbrev of_witness : Read (Unit {0})
  of_witness = check_mappings vars x.witness.start (mappings (codes (payload f x.witness)))

  abbrev of_twice : Read (Unit {0})
  of_twice = no_two ProofTwice [] 4 x.witness.start (map (λ (m : ℕ × ℕ). m.0) (mappings (codes (payload f x.witness))))

  abbrev of_numbers : Formula → Read (Unit {0})
  of_numbers F = check_numbers F 0 x.numbers.start (codes (payload f x.numbers))

-- "In a step: 8 over all its fields; the clause 9, 10 ..; the witness 9, 10; the numbers 11; then 12": each before the next, whatever that
-- would be refused for.
module _ (f : File) (vars : ℕ) (F : Formula) (next at : ℕ) (r : Reason) (p : ℕ) where
  pub fields_first : read_fields f at ≡ bad r p → read_step f vars F next at ≡ bad r p
  unfolding read_step ◌>>=◌
  fields_first a = rw (a, ◌>>=◌)

  module _ (x : Fields) (a : read_fields f at ≡ ok x) where
    -- its first code stands three bytes past the step's tag; a DELETE step has no clause
    pub step_clause_first : get_or f at 0 ≢ 0x14 → check_clause ProofCode ProofTwice vars (at + 3) (codes (payload f x.clause)) ≡ bad r p
        → read_step f vars F next at ≡ bad r p
    unfolding read_step ◌>>=◌ ◌>>◌
    step_clause_first t b = rw (a, ◌>>=◌, there, ◌>>◌)
      where
        there : of_clause f vars x ≡ bad r p
        there =
            let s = subst (Then (λ (y : Fields). get_or f at 0 ≢ 0x14 → y.clause.start ≡ at + 3)) a (new_starts f at) t in
            let place : x.clause.start ≡ at + 3 = omega (arith, s) in
            subst (λ (q : ℕ). check_clause ProofCode ProofTwice vars q (codes (payload f x.clause)) ≡ bad r p) (sym place) b

    module _ (b : of_clause f vars x ≡ ok tt) where
      pub witness_first : of_witness f vars x ≡ bad r p → read_step f vars F next at ≡ bad r p
      unfolding read_step ◌>>=◌ ◌>>◌
      witness_first c = rw (a, ◌>>=◌, b, ◌>>◌, c)

      module _ (c : of_witness f vars x ≡ ok tt) where
        pub twice_first : of_twice f vars x ≡ bad r p → read_step f vars F next at ≡ bad r p
        unfolding read_step ◌>>=◌ ◌>>◌
        twice_first d = rw (a, ◌>>=◌, b, ◌>>◌, c, d)

        pub numbers_first : of_twice f vars x ≡ ok tt → of_numbers f vars x F ≡ bad r p → read_step f vars F next at ≡ bad r p
        unfolding read_step ◌>>=◌ ◌>>◌
        numbers_first d e = rw (a, ◌>>=◌, b, ◌>>◌, c, d, e)

-- 12: exactly a clause that "would get number 16,384", that is, of a step that is no DELETE; else the step is read
module _ (f : File) (vars : ℕ) (F : Formula) (next at : ℕ) (x : Fields) (a : read_fields f at ≡ ok x) (b : of_clause f vars x ≡ ok tt)
    (c : of_witness f vars x ≡ ok tt) (d : of_twice f vars x ≡ ok tt) (e : of_numbers f vars x F ≡ ok tt) where
  pub used_up : get_or f at 0 ≢ 0x14 → 16384 ≤ next → read_step f vars F next at ≡ bad NumbersUsedUp at
  unfolding read_step need ◌>>=◌ ◌>>◌
  used_up t n = rw (a, ◌>>=◌, b, ◌>>◌, c, d, e, eqb_other (get_or f at 0) 0x14 t, leb_beyond (suc next) 16384 (omega arith))

  pub not_used_up : (get_or f at 0 ≡ 0x14) ⊎ (next < 16384)
      → read_step f vars F next at
      ≡ ok (to_step (get_or f at 0) (codes (payload f x.clause)) (mappings (codes (payload f x.witness))) (codes (payload f x.numbers)), x.next)
  unfolding read_step need ◌>>=◌ ◌>>◌
  not_used_up h = rw (a, ◌>>=◌, b, ◌>>◌, c, d, e, enough h)
    where
      or_true : (y : Bool) → (y || true) ≡ true
      or_true true = refl
      or_true false = refl

      enough : (get_or f at 0 ≡ 0x14) ⊎ (next < 16384) → (eqb (get_or f at 0) 0x14 || ltb next 16384) ≡ true
      enough (inl t) = rw (eqb_same (get_or f at 0) 0x14 t)
      enough (inr n) = rw (leb_within (suc next) 16384 n, or_true (eqb (get_or f at 0) 0x14))

-- "a later damaged field doesn't hide it": a clause of the formula is refused before the next field is looked at, its first code three bytes
-- past its tag
pub clause_first : (f : File) (vars m n at : ℕ) (e : Extent) (r : Reason) (p : ℕ) → ltb at (length f) ≡ true → field FormulaField 0x02 even f at ≡ ok e
    → check_clause FormulaCode FormulaTwice vars (at + 3) (codes (payload f e)) ≡ bad r p → read_clauses f vars (suc m) n at ≡ bad r p
unfolding read_clauses need ◌>>=◌ ◌>>◌
clause_first f vars m n at e r p a b c = rw (a, need, ◌>>◌, b, ◌>>=◌, there)
  where
    there : check_clause FormulaCode FormulaTwice vars e.start (codes (payload f e)) ≡ bad r p
    there =
        let w = (field_exactly FormulaField 0x02 even f at e).0 b in
        let place : e.start ≡ at + 3 = omega (arith, w.starts) in
        subst (λ (q : ℕ). check_clause FormulaCode FormulaTwice vars q (codes (payload f e)) ≡ bad r p) (sym place) c

-- "HEAD 3, 4": HEAD before what it holds
pub head_first : (f : File) (r : Reason) (p : ℕ) → field FormulaField 0x01 four f 0 ≡ bad r p → read_formula f ≡ bad r p
unfolding read_formula ◌>>=◌
head_first f r p a = rw (a, ◌>>=◌)

-- "14 before 15": an SR step whose clause is not trivialised is refused for that, whichever clause does not pass
pub trivialised_first : {F : Formula} {next : ℕ} {C : Clause} {s : Witness} {r : Reason} {p : ℕ} → ¬ (Trivialises s C) → Judged F next (sr_step C s) (stops r p)
    → r ≡ NotTrivialised
trivialised_first out (not_trivialised a) = refl
trivialised_first out (sr_lowest a b) = absurd (out a)

-- a field is refused for the reason asked, at the place of its tag
need_or : (b : Bool) (r : Reason) (at : ℕ) (m : Read Extent) (q : Reason) (p : ℕ) → (m ≡ bad q p → (q ≡ r) × (p ≡ at))
    → (need b r at >> m) ≡ bad q p → (q ≡ r) × (p ≡ at)
unfolding need ◌>>◌
need_or true r at m q p more e = more e
need_or false r at m q p more e = (cc, cc)

pub field_place : (r : Reason) (tag : ℕ) (allowed : ℕ → Bool) (f : File) (at : ℕ) (q : Reason) (p : ℕ) → field r tag allowed f at ≡ bad q p
    → (q ≡ r) × (p ≡ at)
unfolding field
field_place r tag allowed f at q p =
    need_or (leb (at + 3) (length f)) r at _ q p
    (need_or (eqb (get_or f at 0) tag) r at _ q p
    (need_or (allowed (two f (at + 1))) r at _ q p
    (need_or (leb (at + 3 + two f (at + 1)) (length f)) r at _ q p (λ e. let z : ◌≡◌ {A = ℕ} 0 1 = cc in absurd (omega arith)))))

-- "Order: 1, 2, then the whole formula, then the steps."
module _ {words bytes : ℕ} {formula proof : File} {v : Verdict} (answer : Answer words bytes formula proof v) where
  pub work_first : (words < 16384) ⊎ (bytes < 8192) → v ≡ refused WorkShort 0 0
  work_first h = answer_once words bytes formula proof v (refused WorkShort 0 0) answer (work_short h)

  module _ (w : 16384 ≤ words) (b : 8192 ≤ bytes) where
    pub files_next : (1048576 < length formula) ⊎ (1048576 < length proof) → v ≡ refused FileLong 0 0
    files_next h = answer_once words bytes formula proof v (refused FileLong 0 0) answer (file_long w b h)

    module _ (f : length formula ≤ 1048576) (p : length proof ≤ 1048576) where
      within : Within words bytes formula proof
      within = record { words_enough = w; bytes_enough = b; formula_short = f; proof_short = p }

      pub formula_next : {r : Reason} {q : ℕ} → read_formula formula ≡ bad r q → v ≡ refused r 0 q
      formula_next {r} {q} e = answer_once words bytes formula proof v (refused r 0 q) answer (formula_bad within e)

      pub steps_last : {vars : ℕ} {F : Formula} {next : ℕ} {u : Verdict} → read_formula formula ≡ ok (vars, F, next) → Steps proof vars F next 0 0 u → v ≡ u
      steps_last {u = u} e s = answer_once words bytes formula proof v u answer (proof_judged within e s)

-- "Refuted: every step is taken and an empty clause is live after the last. Held: every step is taken and none is." "The first step with a
-- fault is the one answered": what the steps say is nothing else.
module _ {proof : File} {vars : ℕ} {F : Formula} {next done at : ℕ} {v : Verdict} (x : Steps proof vars F next done at v) where
  pub end_refuted : (n : ℕ) → length proof ≤ at → Live F n [] → v ≡ Refuted done
  end_refuted n h l = steps_once proof vars x (refuted {n = n} h l)

  pub end_held : length proof ≤ at → ((n : ℕ) → ¬ (Live F n [])) → v ≡ Held done
  end_held h none = steps_once proof vars x (held h none)

  module _ (h : at < length proof) where
    pub step_unread : {r : Reason} {p : ℕ} → read_step proof vars F next at ≡ bad r p → v ≡ refused r (suc done) p
    step_unread e = steps_once proof vars x (unread h e)

    pub step_stops : {t : Step} {later : ℕ} {r : Reason} {p : ℕ} → read_step proof vars F next at ≡ ok (t, later) → Judged F next t (stops r p)
        → v ≡ refused r (suc done) p
    step_stops e j = steps_once proof vars x (judged h e j)

    pub step_taken : {t : Step} {later : ℕ} {G : Formula} {m : ℕ} {u : Verdict} → read_step proof vars F next at ≡ ok (t, later) → Judged F next t (taken G m)
        → Steps proof vars G m (suc done) later u → v ≡ u
    step_taken e j y = steps_once proof vars x (goes_on h e j y)
