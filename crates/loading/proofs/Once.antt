-- Two results that a contract allows for one input, with the table that it leaves, are equal.
-- Assumes nothing.
use mathlib.Core.Path.{◌≡◌, refl, sym, ◌∙◌}
use mathlib.Core.Bool.{Bool, true, false}
use Rattle.loading.specs.Loading.{Decides}
use Rattle.loading.proofs.Witness.{some_witness}
use Rattle.loading.proofs.trivialises.Reads as trivialises

-- a question has one answer
pub decides_once : {P : Type 0} (r r' : Bool) → Decides r P → Decides r' P → r ≡ r'
decides_once true true p q = refl
decides_once false false p q = refl
decides_once true false p q = absurd (q.no refl (p.yes refl))
decides_once false true p q = absurd (p.no refl (q.yes refl))

pub trivialises_once : (κs : _) (a : _) (r r' : Bool) (s s' : _) → trivialises.Post κs a r s → trivialises.Post κs a r' s'
    → (r ≡ r') × (s.1.0.now ≡ s'.1.0.now)
trivialises_once κs a r r' s s' p q =
    let w = some_witness a.1.0.now in
    (decides_once r r' (p.0 w.0 w.1) (q.0 w.0 w.1), p.1 ∙ sym q.1)
