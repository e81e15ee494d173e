-- 02, §6: 01's count of the literals, put back behind the tests that are left, changes nothing.
-- Assumes nothing.
use Prim.Native.Nat.{ℕ}
use mathlib.Core.Path.{◌≡◌, refl}
use lib.Dec.{leb}
use lib.ListN.{length}
use Rattle.paper.specs.declared.Reason.{Reason}
use Rattle.paper.specs.Atoms.{Clause}
use Rattle.paper.specs.Files.{Read, ok, bad, ◌>>◌, need}
use Rattle.paper.specs.Refusals.{check_clause}
use Rattle.paper.proofs.Lists.{leb_within}
use Rattle.paper.proofs.Rules.{clause_exactly}
use Rattle.paper.proofs.Counting.{few_literals}

-- What `Counting.few_literals` says of the tests that the clauses of formulas and proofs meet: after 5 and 6, or 9 and 10, "more than V literals" is never so,
-- whatever its reason and place would be
pub count_idle : (range twice : Reason) (vars p : ℕ) (C : Clause) (long : Reason) (tag : ℕ)
    → (check_clause range twice vars p C >> need (leb (length C) vars) long tag) ≡ check_clause range twice vars p C
unfolding need ◌>>◌
count_idle range twice vars p C long tag = go (check_clause range twice vars p C) refl
  where
    go : (m : Read (Unit {0})) → check_clause range twice vars p C ≡ m → (m >> need (leb (length C) vars) long tag) ≡ m
    go (ok tt) e =
        let h = (clause_exactly range twice vars p C).0 e in
        rw (leb_within (length C) vars (few_literals vars C h.0 h.1))
    go (bad r q) e = refl
