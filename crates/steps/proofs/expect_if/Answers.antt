-- `expect_if` is the paper's reading of a field that the step's tag may ask for.
use Rattle.steps.proofs.Fields.{asked_value, not_asked}
use Rattle.steps.proofs.expect_if.Goals as goal

pub returns-then-asked : goal.returns-then-asked
returns-then-asked c = asked_value _ _ _ _ _ c.if-asked.true _ c.expect.ensures _ c.ok.ensures.value

pub returns : goal.returns
returns c = not_asked _ _ _ _ _ c.if-asked.false
