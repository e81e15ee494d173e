-- `expect` finds the field that the paper's reading finds, or its fault.
use Rattle.field.proofs.Laws.{by_reading}
use Rattle.reader.proofs.expect.Goals as goal

pub returns : goal.returns
returns c = by_reading _ _ _ _ _ _ _ _ c.field_at.ensures c.judge.ensures c.ok_or.ensures.value
