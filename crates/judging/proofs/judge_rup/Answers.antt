-- `judging::judge_rup` meets its contract.
-- Assumes nothing.
use Rattle.judging.proofs.Conditions.{rup_passed, rup_stopped}
use Rattle.judging.proofs.judge_rup.Goals as goal

pub returns-then-is_rup-clause-answer : goal.returns-then-is_rup-clause-answer
returns-then-is_rup-clause-answer c = rup_passed c.requires c.is_rup.ensures.answer c.if-is_rup.true

pub returns-clause-answer : goal.returns-clause-answer
returns-clause-answer c = rup_stopped c.requires c.is_rup.ensures.answer c.if-is_rup.false
