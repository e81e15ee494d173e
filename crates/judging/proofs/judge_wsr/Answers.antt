-- `judging::judge_wsr` meets its contract.
-- Assumes nothing.
use Rattle.judging.proofs.Conditions.{wsr_stopped, wsr_passed, wsr_new_stopped, passes_asks}
use Rattle.judging.proofs.judge_wsr.Goals as goal

pub returns-in-Some-clause-answer : goal.returns-in-Some-clause-answer
returns-in-Some-clause-answer c = wsr_stopped c.requires _ c.in-Some.ensures.answer

pub passes-requires : goal.passes-requires
passes-requires c = passes_asks c.requires _ c.lowest_failing.ensures.table

pub returns-then-passes-clause-answer : goal.returns-then-passes-clause-answer
returns-then-passes-clause-answer c =
    wsr_passed c.requires c.in_default.ensures.answer _ c.lowest_failing.ensures.table c.passes.ensures.answer c.if-passes.true

pub returns-clause-answer : goal.returns-clause-answer
returns-clause-answer c =
    wsr_new_stopped c.requires c.in_default.ensures.answer _ c.lowest_failing.ensures.table c.passes.ensures.answer c.if-passes.false
