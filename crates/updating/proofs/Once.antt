-- Two results that a contract allows for one input, with the table and the record that it leaves, are equal.
-- Assumes nothing.
use mathlib.Core.Path.{◌≡◌}
use Rattle.sweep.specs.declared.Propagation.{Propagation}
use Rattle.sweep.proofs.Once.{swept_once}
use Rattle.updating.proofs.sweep_into.Reads as sweep_into
use Rattle.updating.proofs.sweep_once.Reads as sweep_once

pub sweep_into_once : (κs : _) (a : _) (r r' : _) (s s' : _) → sweep_into.Post κs a r s → sweep_into.Post κs a r' s'
    → (s.1.0.now ≡ s'.1.0.now) × (s.1.1.0.now ≡ s'.1.1.0.now)
sweep_into_once κs a r r' s s' p q = let x = swept_once _ _ p q in (x.1, x.0)

pub sweep_once_once : (κs : _) (a : _) (r r' : Propagation) (s s' : _) → sweep_once.Post κs a r s → sweep_once.Post κs a r' s'
    → (r ≡ r') × (s.1.0.now ≡ s'.1.0.now)
sweep_once_once κs a r r' s s' p q = swept_once r r' p q
