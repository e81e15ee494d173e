-- Two results that a contract allows for one input, with the table that it leaves, are equal.
-- Assumes nothing.
use Rattle.std.specs.Prelude.{ℕ, Result, Ok, Err}
use mathlib.Core.Path.{◌≡◌, refl, sym, ap, ◌∙◌}
use native.Mathlib.Omega.{arith}
use Rattle.paper.specs.declared.Reason.{Reason}
use Rattle.paper.specs.declared.Reason.TheVariants.{ProofTwice}
use Rattle.paper.specs.Files.{Read, ok, bad, codes, mappings}
use Rattle.mapping.specs.Mapping.{said_by, table_after}
use Rattle.mapping.proofs.load_witness.Reads as load_witness

-- the answer, read back from what the paper says of a witness that stands at place 0
unfoldable answer : Read (Unit {0}) → Result (Unit {0}) ℕ
answer (ok u) = Ok u
answer (bad why p) = Err p

answer_of : (why : Reason) (r : Result (Unit {0}) ℕ) → answer (said_by why 0 r) ≡ r
unfolding answer said_by
answer_of why (Ok u) = refl
answer_of why (Err i) = ap Err (omega arith)

pub load_witness_once : (κs : _) (a : _) (r r' : Result (Unit {0}) ℕ) (s s' : _) → load_witness.Post κs a r s → load_witness.Post κs a r' s'
    → (r ≡ r') × (s.1.0.now ≡ s'.1.0.now)
load_witness_once κs a r r' s s' p q =
    let e : r ≡ r' = sym (answer_of ProofTwice r) ∙ ap answer (sym (p.0 ProofTwice 0) ∙ q.0 ProofTwice 0) ∙ answer_of ProofTwice r' in
    (e, p.1.1 ∙ ap (λ (x : Result (Unit {0}) ℕ). table_after x a.1.0.now (mappings (codes a.0.now))) e ∙ sym q.1.1)
