-- `loading::assume_images` meets its contract. Assumes nothing.
use mathlib.Core.Path.{sym, ap, ◌∙◌}
use native.Mathlib.Omega.{arith}
use Rattle.loading.specs.Loading.{imaged}
use Rattle.loading.proofs.Turns.{going_here, image_true, image_false, image_already, image_next, both_halves}
use Rattle.loading.proofs.assume_images.Goals as goal

pub image_of-a-requires : goal.image_of-a-requires
image_of-a-requires c = (going_here c.loop-code.invariant c.in-Some.ensures.steps, omega arith)

pub returns-then-a-eq0 : goal.returns-then-a-eq0
returns-then-a-eq0 c =
    let e = both_halves (image_true c.loop-code.invariant c.in-Some.ensures.steps c.image_of-a.ensures.0 c.if-a-eq0.true) in
    record { answer = e.0; table = e.1 }

pub returns-then-is_true : goal.returns-then-is_true
returns-then-is_true c =
    let e =
    both_halves
    (image_already c.loop-code.invariant c.in-Some.ensures.steps c.image_of-a.ensures.0 c.if-a-eq0.false c.if-a-ne1.true
    (sym c.is_true.ensures ∙ c.if-is_true.true)) in
    record { answer = e.0; table = e.1 }

pub loop-code-preserved-then-a-ne1 : goal.loop-code-preserved-then-a-ne1
loop-code-preserved-then-a-ne1 c =
    image_next c.loop-code.invariant c.in-Some.ensures.steps c.image_of-a.ensures.0 c.if-a-eq0.false c.if-a-ne1.true
    (sym c.is_true.ensures ∙ c.if-is_true.false) cc

pub loop-code-preserved : goal.loop-code-preserved
loop-code-preserved c = image_false c.loop-code.invariant c.in-Some.ensures.steps c.image_of-a.ensures.0 c.if-a-ne1.false

pub returns : goal.returns
unfolding imaged
returns c =
    let e = both_halves (c.loop-code.invariant.rest ∙ ap (imaged c.loop-code.t) c.in-None.ensures.steps.0) in
    record { answer = e.0; table = e.1 }
