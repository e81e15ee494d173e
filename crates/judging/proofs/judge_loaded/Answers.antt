-- `judging::judge_loaded` meets its contract.
-- Assumes nothing.
use native.Mathlib.Omega.{arith}
use Rattle.std.proofs.lemmas.Result.{err_from_is_err_and}
use Rattle.steps.proofs.Fields.{lie}
use Rattle.judging.proofs.Laws.{rest_stops, delete_passes, used, used_limit, new, new_judged}
use Rattle.judging.proofs.judge_loaded.Goals as goal

-- A number that is not live is the answer,
-- whatever the steps behind have wrong.
pub returns-in_err-check_rest-clause-answer : goal.returns-in_err-check_rest-clause-answer
returns-in_err-check_rest-clause-answer c =
    let p = err_from_is_err_and c.from_residual.result c.from_residual.ensures.1 in
    rw (p.1, p.2) (rest_stops c.requires c.payload.ensures.bytes _ (c.in_err-check_rest.ensures c.args.formula.now c.args.proof.now))

pub payload-clause-requires : goal.payload-clause-requires
payload-clause-requires c = (lie _ _ _ c.requires.read.fields).clause_within

pub payload-requires : goal.payload-requires
payload-requires c = (lie _ _ _ c.requires.read.fields).numbers_within

pub returns-in-Delete-clause-answer : goal.returns-in-Delete-clause-answer
returns-in-Delete-clause-answer c = delete_passes c.requires c.payload.ensures.bytes (c.in_ok-check_rest.ensures c.args.formula.now c.args.proof.now) c.in-Delete.is

pub judge_rup-requires : goal.judge_rup-requires
judge_rup-requires c =
    new c.requires c.payload.ensures.bytes (c.in_ok-check_rest.ensures c.args.formula.now c.args.proof.now) _ c.in-Rup.is (omega arith) c.payload-clause.ensures.bytes _ (used c.requires) (used_limit c.requires)

pub returns-in-Rup-clause-answer : goal.returns-in-Rup-clause-answer
returns-in-Rup-clause-answer c =
    new_judged c.requires c.payload.ensures.bytes (c.in_ok-check_rest.ensures c.args.formula.now c.args.proof.now) _ c.in-Rup.is (omega arith) c.payload-clause.ensures.bytes _ c.judge_rup.ensures.answer

pub judge_sr-requires : goal.judge_sr-requires
judge_sr-requires c =
    new c.requires c.payload.ensures.bytes (c.in_ok-check_rest.ensures c.args.formula.now c.args.proof.now) _ c.in-Sr.is (omega arith) c.payload-clause.ensures.bytes _ (used c.requires) (used_limit c.requires)

pub returns-in-Sr-clause-answer : goal.returns-in-Sr-clause-answer
returns-in-Sr-clause-answer c =
    new_judged c.requires c.payload.ensures.bytes (c.in_ok-check_rest.ensures c.args.formula.now c.args.proof.now) _ c.in-Sr.is (omega arith) c.payload-clause.ensures.bytes _ c.judge_sr.ensures.answer

pub judge_wsr-requires : goal.judge_wsr-requires
judge_wsr-requires c =
    new c.requires c.payload.ensures.bytes (c.in_ok-check_rest.ensures c.args.formula.now c.args.proof.now) _ c.in-Wsr.is (omega arith) c.payload-clause.ensures.bytes _ (used c.requires) (used_limit c.requires)

pub returns-in-Wsr-clause-answer : goal.returns-in-Wsr-clause-answer
returns-in-Wsr-clause-answer c =
    new_judged c.requires c.payload.ensures.bytes (c.in_ok-check_rest.ensures c.args.formula.now c.args.proof.now) _ c.in-Wsr.is (omega arith) c.payload-clause.ensures.bytes _ c.judge_wsr.ensures.answer
