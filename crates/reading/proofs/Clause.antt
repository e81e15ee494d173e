-- One clause as the code reads it, against the paper's reading of the clauses.
-- Assumes nothing.
use Prim.Native.Nat.{ℕ, suc, ◌+◌, ◌≤◌, ◌<◌}
use mathlib.Core.Path.{◌≡◌, refl, sym, ap}
use mathlib.Core.List.{List, [], ◌∷◌, ◌++◌, append-nil, append_assoc}
use borrow.Author.Tests.{lt-ltb, le-ltb}
use lib.ListN.{length}
use Rattle.std.proofs.Common.{Ok, Err}
use Rattle.paper.specs.declared.Reason.TheVariants.{FormulaField, FormulaCode, FormulaTwice, FormulaEnd}
use Rattle.paper.specs.Atoms.{Clause, Formula}
use Rattle.paper.specs.Files.{File, Read, ok, bad, ◌>>=◌, ◌>>◌, need, payload, past, field, even, codes}
use Rattle.paper.specs.Refusals.{check_clause, read_clauses}
use Rattle.field.specs.declared.Found.{Found}
use Rattle.field.specs.declared.Fault.{Fault}
use Rattle.field.specs.Field.{extent_at, result_of, found_of}
use Rattle.field.proofs.Laws.{stands, ok_in, bad_in, found_in, found_next, not_found}
use Rattle.reading.specs.Reading.{prepend, ClauseTaken}

-- clauses that were read, and the place past them
abbrev read_up_to : ℕ → Formula → Read (Formula × ℕ)
read_up_to at F = ok (F, at)

-- clauses in front of those that are read: none, more, and all
pub prepend_none : (x : Read (Formula × ℕ)) → prepend [] x ≡ x
unfolding prepend
prepend_none (ok x) = refl
prepend_none (bad r p) = refl

pub prepend_more : (F G : Formula) (x : Read (Formula × ℕ)) → prepend F (prepend G x) ≡ prepend (F ++ G) x
unfolding prepend
prepend_more F G (ok x) = ap (read_up_to x.1) (sym (append_assoc F G x.0))
prepend_more F G (bad r p) = refl

pub prepend_end : (F : Formula) (at : ℕ) → prepend F (ok ([], at)) ≡ ok (F, at)
unfolding prepend
prepend_end F at = ap (read_up_to at) (append-nil F)

prepend_one : (n : ℕ) (C : Clause) (x : Read (Formula × ℕ)) → (x >>= λ (more : Formula × ℕ). ok ((n, C) ∷ more.0, more.1)) ≡ prepend ((n, C) ∷ []) x
unfolding prepend ◌>>=◌
prepend_one n C (ok x) = refl
prepend_one n C (bad r p) = refl

module _ (f : File) (vars at : ℕ) where
  -- "clauses end before m"
  pub clause_ends : length f ≤ at → (m n : ℕ) → read_clauses f vars (suc m) n at ≡ bad FormulaEnd at
  unfolding read_clauses ◌>>◌ need
  clause_ends h m n = rw (le-ltb at (length f) h)

  module _ (h : at < length f) where
    pub clause_wrong : (b : Fault) → Err b ≡ found_of (field FormulaField 0x02 even f at) → (m n : ℕ) → read_clauses f vars (suc m) n at ≡ bad b.reason b.place
    unfolding read_clauses ◌>>◌ ◌>>=◌ need
    clause_wrong b q m n = rw (lt-ltb at (length f) h, not_found b _ q)

    module _ (d : Found) (q : Ok d ≡ found_of (field FormulaField 0x02 even f at)) where
      pub clause_within : d.extent.start + d.extent.size ≤ length f
      clause_within = (stands FormulaField 0x02 even f at d.extent (found_in d _ q)).within

      place : d.next.at ≡ past (extent_at f at)
      unfolding past extent_at
      place = let s = stands FormulaField 0x02 even f at d.extent (found_in d _ q) in rw (found_next d _ q, s.start, s.size)

      module _ (bs : List ℕ) (part : bs ≡ payload f d.extent) where
        pub clause_bad : (b : Fault) → Err b ≡ result_of (check_clause FormulaCode FormulaTwice vars d.extent.start (codes bs)) → (m n : ℕ)
            → read_clauses f vars (suc m) n at ≡ bad b.reason b.place
        unfolding read_clauses ◌>>◌ ◌>>=◌ need
        clause_bad b k m n = rw (lt-ltb at (length f) h, found_in d _ q, ← part, bad_in b _ k)

        -- the next clause is read where the cursor past this one stands
        pub clause_taken : Ok tt ≡ result_of (check_clause FormulaCode FormulaTwice vars d.extent.start (codes bs)) → ClauseTaken f vars at d.next.at
        unfolding read_clauses ◌>>◌ ◌>>=◌ need
        clause_taken k = record {
          extent = d.extent;
          starts = h;
          stands = found_in d _ q;
          after = place;
          read = λ m n.
              rw (found_next d _ q)
              (rw (lt-ltb at (length f) h, found_in d _ q, ← part, ok_in tt _ k) (prepend_one n (codes bs) (read_clauses f vars m (suc n) (past d.extent))));
        }
