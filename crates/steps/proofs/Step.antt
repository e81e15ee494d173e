-- The paper's reading of a step, part by part: the first part that refuses, refuses the step.
-- Assumes nothing.
use Prim.Native.Nat.{ℕ, suc, ◌≤◌, ◌<◌}
use mathlib.Core.Path.{◌≡◌}
use mathlib.Core.Logic.{◌≢◌}
use mathlib.Core.List.{List, [], map}
use mathlib.Core.Bool.{Bool, true, false, ◌||◌}
use native.Mathlib.Omega.{arith}
use lib.Dec.{eqb, ltb}
use lib.ListN.{get_or}
use Rattle.paper.specs.declared.Reason.{Reason}
use Rattle.paper.specs.declared.Reason.TheVariants.{ProofField, ProofCode, ProofTwice, NumbersUsedUp}
use Rattle.paper.specs.declared.Extent.{Extent}
use Rattle.paper.specs.declared.Fields.{Fields}
use Rattle.paper.specs.Atoms.{Clause, Formula, Witness}
use Rattle.paper.specs.Files.{File, Read, ok, bad, ◌>>=◌, ◌>>◌, need, payload, codes, mappings, Step, delete_step}
use Rattle.paper.specs.Refusals.{no_two, check_clause, field_if, read_fields, check_mappings, check_numbers, to_step, read_step}
use Rattle.paper.proofs.Lists.{eqb_same, eqb_other, leb_within, leb_beyond}
use Rattle.std.specs.Prelude.{Err}
use Rattle.field.specs.declared.Fault.{Fault}
use Rattle.field.specs.Field.{found_of}
use Rattle.field.proofs.Laws.{wrong}

-- a field that the step's tag may ask for is refused at its place
pub wrong_if : (b : Bool) (tag : ℕ) (allowed : ℕ → Bool) (f : File) (at : ℕ) (e : Fault) → Err e ≡ found_of (field_if b tag allowed f at)
    → field_if b tag allowed f at ≡ bad ProofField at
unfolding field_if found_of
wrong_if true tag allowed f at e q = wrong ProofField tag allowed f at e q
wrong_if false tag allowed f at e q = let z : ◌≡◌ {A = ℕ} 0 1 = cc in absurd (omega arith)

-- a field that the step does not have holds no code and no mapping
pub no_codes : (f : File) (x : Extent) → x.size ≡ 0 → codes (payload f x) ≡ []
unfolding payload codes
no_codes f x e = rw e

-- the new clause, the witness and the numbers of the fields of a step
abbrev pub clause_of : File → Fields → Clause
clause_of f x = codes (payload f x.clause)

abbrev pub witness_of : File → Fields → Witness
witness_of f x = mappings (codes (payload f x.witness))

abbrev pub numbers_of : File → Fields → List ℕ
numbers_of f x = codes (payload f x.numbers)

-- what two parts refuse is refused whatever comes behind them
refused_then : {A : Type 0} (m n : Read (Unit {0})) (k : Read A) (r : Reason) (p : ℕ) → (m >> n) ≡ bad r p → (m >> (n >> k)) ≡ bad r p
unfolding ◌>>◌
refused_then (ok u) (ok v) k r p q = let z : ◌≡◌ {A = ℕ} 0 1 = cc in absurd (omega arith)
refused_then (ok u) (bad s l) k r p q = cc
refused_then (bad s l) n k r p q = cc

module _ (f : File) (vars : ℕ) (F : Formula) (next at : ℕ) where
  pub fields_refuse : (r : Reason) (p : ℕ) → read_fields f at ≡ bad r p → read_step f vars F next at ≡ bad r p
  unfolding read_step ◌>>=◌
  fields_refuse r p q = rw (q, read_step)

  module _ (x : Fields) (hx : read_fields f at ≡ ok x) where
    pub clause_refuses : (r : Reason) (p : ℕ) → check_clause ProofCode ProofTwice vars x.clause.start (clause_of f x) ≡ bad r p
        → read_step f vars F next at ≡ bad r p
    unfolding read_step ◌>>=◌ ◌>>◌
    clause_refuses r p q = rw (hx, read_step) (rw q)

    module _ (hc : check_clause ProofCode ProofTwice vars x.clause.start (clause_of f x) ≡ ok tt) where
      pub mappings_refuse : (r : Reason) (p : ℕ) → check_mappings vars x.witness.start (witness_of f x) ≡ bad r p
          → read_step f vars F next at ≡ bad r p
      unfolding read_step ◌>>=◌ ◌>>◌
      mappings_refuse r p q = rw (hx, read_step) (rw (hc, q))

      module _ (hm : check_mappings vars x.witness.start (witness_of f x) ≡ ok tt) where
        pub twice_refuses : (r : Reason) (p : ℕ) → no_two ProofTwice [] 4 x.witness.start (map (λ (m : ℕ × ℕ). m.0) (witness_of f x)) ≡ bad r p
            → read_step f vars F next at ≡ bad r p
        unfolding read_step ◌>>=◌ ◌>>◌
        twice_refuses r p q = rw (hx, read_step) (rw (hc, hm, q))

        module _ (ht : no_two ProofTwice [] 4 x.witness.start (map (λ (m : ℕ × ℕ). m.0) (witness_of f x)) ≡ ok tt) where
          -- 11, and 12: the new clause would get a number beyond the last
          pub rest_refuses : (r : Reason) (p : ℕ)
              → (check_numbers F 0 x.numbers.start (numbers_of f x) >> need (eqb (get_or f at 0) 0x14 || ltb next 16384) NumbersUsedUp at) ≡ bad r p
              → read_step f vars F next at ≡ bad r p
          unfolding read_step ◌>>=◌ ◌>>◌
          rest_refuses r p q =
              let n : Read (Unit {0}) = need (eqb (get_or f at 0) 0x14 || ltb next 16384) NumbersUsedUp at in
              let k : Read (Step × ℕ) = ok (to_step (get_or f at 0) (clause_of f x) (witness_of f x) (numbers_of f x), x.next) in
              rw (hx, read_step) (rw (hc, hm, ht) (refused_then (check_numbers F 0 x.numbers.start (numbers_of f x)) n k r p q))

          pub numbers_refuse : (r : Reason) (p : ℕ) → check_numbers F 0 x.numbers.start (numbers_of f x) ≡ bad r p
              → read_step f vars F next at ≡ bad r p
          unfolding read_step ◌>>=◌ ◌>>◌
          numbers_refuse r p q = rw (hx, read_step) (rw (hc, hm, ht, q))

          module _ (hn : check_numbers F 0 x.numbers.start (numbers_of f x) ≡ ok tt) where
            pub used_up : get_or f at 0 ≢ 0x14 → 16384 ≤ next → read_step f vars F next at ≡ bad NumbersUsedUp at
            unfolding read_step ◌>>=◌ ◌>>◌ need
            used_up ne h = rw (hx, read_step) (rw (hc, hm, ht, hn, eqb_other (get_or f at 0) 0x14 ne, leb_beyond (suc next) 16384 (omega arith)))

            pub new_read : get_or f at 0 ≢ 0x14 → next < 16384
                → read_step f vars F next at ≡ ok (to_step (get_or f at 0) (clause_of f x) (witness_of f x) (numbers_of f x), x.next)
            unfolding read_step ◌>>=◌ ◌>>◌ need
            new_read ne h = rw (hx, read_step) (rw (hc, hm, ht, hn, eqb_other (get_or f at 0) 0x14 ne, leb_within (suc next) 16384 h))

            pub delete_read : get_or f at 0 ≡ 0x14
                → read_step f vars F next at ≡ ok (to_step (get_or f at 0) (clause_of f x) (witness_of f x) (numbers_of f x), x.next)
            unfolding read_step ◌>>=◌ ◌>>◌ need
            delete_read e = rw (hx, read_step) (rw (hc, hm, ht, hn, eqb_same (get_or f at 0) 0x14 e))

-- a deletion by its tag
module _ (C : Clause) (s : Witness) (ns : List ℕ) where
  pub delete_tag : (tag : ℕ) → tag ≡ 0x14 → to_step tag C s ns ≡ delete_step ns
  unfolding to_step
  delete_tag tag e = rw e
