-- `judging::judge_sr` meets its contract.
-- Assumes nothing.
use Rattle.judging.proofs.Conditions.{sr_not_trivialised, sr_passed, sr_stopped, lowest_asks}
use Rattle.judging.proofs.judge_sr.Goals as goal

pub trivialises-requires : goal.trivialises-requires
trivialises-requires c = (c.args.vars, (c.requires.table, (c.requires.inward, c.requires.new.codes)))

-- A clause that is not trivialised is the answer,
-- also where a clause does not pass.
pub returns-then-not-trivialises-clause-answer : goal.returns-then-not-trivialises-clause-answer
returns-then-not-trivialises-clause-answer c = sr_not_trivialised c.requires c.trivialises.ensures.answer c.if-not-trivialises.true

pub lowest_failing-requires : goal.lowest_failing-requires
lowest_failing-requires c = lowest_asks c.requires _ c.trivialises.ensures.table

pub returns-in-Some-clause-answer : goal.returns-in-Some-clause-answer
returns-in-Some-clause-answer c =
    let d = c.trivialises.ensures in
    sr_stopped c.requires d.answer c.if-not-trivialises.false _ d.table _ c.in-Some.ensures.answer

pub returns-in-None-clause-answer : goal.returns-in-None-clause-answer
returns-in-None-clause-answer c =
    let d = c.trivialises.ensures in
    sr_passed c.requires d.answer c.if-not-trivialises.false _ d.table c.in-None.ensures.answer
