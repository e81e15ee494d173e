-- `judge` is what a reading says of the field that must stand there.
use borrow.Author.Rules.{rules}
use Rattle.field.specs.Field.{judged}
use Rattle.field.proofs.Laws.{not_whole}
use Rattle.field.proofs.judge.Goals as goal

pub returns-in_default : goal.returns-in_default
returns-in_default c = not_whole _ _ _ c.in_default.not-Whole

pub returns-then-t-tag : goal.returns-then-t-tag
unfolding judged
returns-then-t-tag c = search rules

pub returns-then-not-allowed : goal.returns-then-not-allowed
unfolding judged
returns-then-not-allowed c = search rules

pub returns : goal.returns
unfolding judged
returns c = search rules
