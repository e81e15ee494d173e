-- Two results that a contract allows for one input, with the table that it leaves, are equal.
-- Assumes nothing.
use Prim.Native.Nat.{ℕ}
use mathlib.Core.Path.{◌≡◌, sym, ◌∙◌}
use mathlib.Core.List.{List}
use Rattle.paper.specs.Files.{File}
use Rattle.sweep.specs.declared.Propagation.{Propagation}
use Rattle.sweep.specs.Swept.{Swept}
use Rattle.sweep.proofs.State.{state_once}
use Rattle.sweep.proofs.sweep.Reads as sweep

pub swept_once : {f p : File} {ws t : List ℕ} {x : Propagation} {u u' : List ℕ} (r r' : Propagation) → Swept f p ws t x u r → Swept f p ws t x u' r'
    → (r ≡ r') × (u ≡ u')
swept_once r r' a b = state_once r r' (a.state ∙ sym b.state) a.kept b.kept a.beyond b.beyond

pub sweep_once : (κs : _) (a : _) (r r' : Propagation) (s s' : _) → sweep.Post κs a r s → sweep.Post κs a r' s'
    → (r ≡ r') × (s.1.0.now ≡ s'.1.0.now)
sweep_once κs a r r' s s' p q = swept_once r r' p q
