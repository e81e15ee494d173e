-- `line::line_of` meets its contract. Assumes nothing.
use mathlib.Core.Path.{sym, ◌∙◌}
use native.Mathlib.Omega.{arith}
use Rattle.line.proofs.Laws.{put_same, line_stands}
use Rattle.line.proofs.line_of.Goals as goal

pub returns : goal.returns
returns c =
    line_stands c.put-at.new.out c.put_field-reason.new.out c.put_field-step.new.out c.put_field-place.new.out
    c.put-at.result c.put_field-reason.result c.put_field-step.result c.put_field-place.result
    c.args.v c.from-n.result (omega arith)
    c.from-n.ensures
    (put_same _ _ _ _ (sym (c.as_bytes.ensures.value ∙ c.word.ensures.said)) c.put-at.ensures)
    (rw c.from.ensures at c.put_field-reason.ensures.put)
    c.put_field-step.ensures.put
    c.put_field-place.ensures.put
