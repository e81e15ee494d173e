-- `allowed` is the paper's test of a length.
use mathlib.Core.Path.{sym, ap}
use Rattle.paper.specs.Files.{four, even, fours}
use Rattle.field.specs.declared.Length.{Length}
use Rattle.field.specs.Field.{allowed_by}
use Rattle.field.proofs.allowed.Goals as goal

pub returns-in-Four : goal.returns-in-Four
unfolding four
returns-in-Four c = sym (ap (λ (l : Length). allowed_by l c.args.n) c.in-Four.is)

pub returns-in-Even : goal.returns-in-Even
unfolding even
returns-in-Even c = sym (ap (λ (l : Length). allowed_by l c.args.n) c.in-Even.is)

pub returns-in-Fours : goal.returns-in-Fours
unfolding fours
returns-in-Fours c = sym (ap (λ (l : Length). allowed_by l c.args.n) c.in-Fours.is)
