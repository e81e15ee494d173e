-- `judging::judge_step` meets its contract.
-- Assumes nothing.
use Rattle.steps.proofs.Fields.{lie}
use Rattle.judging.proofs.Laws.{delete_judged}
use Rattle.judging.proofs.judge_step.Goals as goal

pub payload-requires : goal.payload-requires
payload-requires c = (lie _ _ _ c.requires.read.fields).numbers_within

-- A number that is not live is the answer,
-- whatever the steps behind have wrong.
pub returns-in-Delete-clause-answer : goal.returns-in-Delete-clause-answer
returns-in-Delete-clause-answer c = delete_judged c.requires c.in-Delete.is c.payload.ensures.bytes _ (c.check_rest.ensures c.args.formula.now c.args.proof.now)
