-- `mapping::unload_witness` meets its contract: what is left to clear, from the table now, gives what all gives from the table at entry. Assumes nothing.
use mathlib.Core.Path.{sym, ap, ◌∙◌}
use native.Mathlib.Omega.{arith}
use Rattle.mapping.specs.Mapping.{unloaded}
use Rattle.mapping.proofs.Pairs.{fits_here}
use Rattle.mapping.proofs.Unloading.{unloading_turn}
use Rattle.mapping.proofs.unload_witness.Goals as goal

pub clear_image-requires : goal.clear_image-requires
clear_image-requires c = ((fits_here c.in-Some.ensures.steps c.loop-v.invariant.fits).1.0, omega arith)

pub loop-v-preserved : goal.loop-v-preserved
loop-v-preserved c = unloading_turn c.in-Some.ensures.steps c.loop-v.invariant c.clear_image.ensures

pub returns : goal.returns
unfolding unloaded
returns c = sym (ap (unloaded c.loop-v.t) c.in-None.ensures.steps.0) ∙ c.loop-v.invariant.rest
