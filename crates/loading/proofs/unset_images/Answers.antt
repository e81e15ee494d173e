-- `loading::unset_images` meets its contract. Assumes nothing.
use mathlib.Core.Path.{sym, ap, ◌∙◌}
use native.Mathlib.Omega.{arith}
use Rattle.loading.specs.Loading.{unset_images}
use Rattle.loading.proofs.Turns.{going_here, going_next, unset_images_next}
use Rattle.loading.proofs.unset_images.Goals as goal

pub image_of-a-requires : goal.image_of-a-requires
image_of-a-requires c = (going_here c.loop-code.invariant c.in-Some.ensures.steps, omega arith)

pub loop-code-preserved : goal.loop-code-preserved
loop-code-preserved c = going_next c.loop-code.invariant c.in-Some.ensures.steps (cc (unset_images_next c.loop-code.t c.in-Some.code _))

pub returns : goal.returns
unfolding unset_images
returns c = sym (c.loop-code.invariant.rest ∙ ap (unset_images c.loop-code.t) c.in-None.ensures.steps.0)
