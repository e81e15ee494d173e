-- Two results that a contract allows for one input, with the table that it leaves, are equal.
-- Assumes nothing.
use mathlib.Core.Path.{◌≡◌, sym, ◌∙◌}
use Rattle.sweep.specs.declared.Propagation.{Propagation}
use Rattle.sweep.proofs.State.{state_once}
use Rattle.propagation.proofs.propagate.Reads as propagate

pub propagate_once : (κs : _) (a : _) (r r' : Propagation) (s s' : _) → propagate.Post κs a r s → propagate.Post κs a r' s'
    → (r ≡ r') × (s.1.0.now ≡ s'.1.0.now)
propagate_once κs a r r' s s' p q = state_once r r' (p.state ∙ sym q.state) p.kept q.kept p.beyond q.beyond
