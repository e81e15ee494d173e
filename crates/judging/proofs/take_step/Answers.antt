-- `judging::take_step` meets its contract.
-- Assumes nothing.
use mathlib.Core.Path.{ap, ◌∙◌}
use native.Mathlib.Omega.{arith}
use lib.ListN.{length}
use Rattle.std.proofs.lemmas.Result.{err_from_is_err_and}
use Rattle.steps.proofs.Fields.{lie}
use Rattle.steps.proofs.Numbers.{removed_length}
use Rattle.judging.proofs.Laws.{fields_stop, step_stopped, numbers_used, deleted_done, number_free, added_done}
use Rattle.judging.proofs.take_step.Goals as goal

pub returns-in_err-s : goal.returns-in_err-s
returns-in_err-s c =
    let p = err_from_is_err_and c.from_residual.result c.from_residual.ensures.1 in
    rw (p.1, p.2) (fields_stop c.requires _ c.in_err-s.ensures)

pub judge_step-requires : goal.judge_step-requires
judge_step-requires c = record { ready = c.requires; read = c.in_ok-s.ensures }

pub returns-in_err-judge_step : goal.returns-in_err-judge_step
returns-in_err-judge_step c =
    let p = err_from_is_err_and c.from_residual-in_err-judge_step.result c.from_residual-in_err-judge_step.ensures.1 in
    rw (p.1, p.2) (step_stopped c.requires _ c.in_ok-s.ensures _ c.judge_step.ensures.table _ c.in_err-judge_step.ensures.answer)

pub payload-requires : goal.payload-requires
payload-requires c = (lie _ _ _ c.in_ok-s.ensures.fields).numbers_within

pub remove_numbers-requires : goal.remove_numbers-requires
remove_numbers-requires c =
    let ready = c.requires in
    let used = numbers_used ready _ c.in_ok-s.ensures _ c.judge_step.ensures.table c.in_ok-judge_step.ensures.answer in
    (omega (arith, ready.words_long), λ n q. omega (arith, used n (rw c.payload.ensures.bytes at q), ready.last, ready.words_long))

pub returns-in-Delete : goal.returns-in-Delete
returns-in-Delete c =
    deleted_done c.requires _ c.in_ok-s.ensures _ c.judge_step.ensures.table c.in_ok-judge_step.ensures.answer _ (rw c.payload.ensures.bytes at c.remove_numbers.ensures) c.in-Delete.is

pub proof_word-requires : goal.proof_word-requires
proof_word-requires c = omega (arith, c.requires.place, c.requires.proof_short)

pub enter-requires : goal.enter-requires
enter-requires c =
    let ready = c.requires in
    let free = number_free ready _ c.in_ok-s.ensures _ c.judge_step.ensures.table c.in_ok-judge_step.ensures.answer c.in_default.not-Delete in
    let long = ap length c.remove_numbers.ensures ∙ removed_length _ c.args.words.now in
    omega (arith, long, free, ready.words_long)

pub overflow_add-result : goal.overflow_add-result
overflow_add-result c = omega (arith, c.requires.last)

pub returns-in_default : goal.returns-in_default
returns-in_default c =
    added_done c.requires _ c.in_ok-s.ensures _ c.judge_step.ensures.table c.in_ok-judge_step.ensures.answer _ (rw c.payload.ensures.bytes at c.remove_numbers.ensures) c.in_default.not-Delete _ _ c.enter.ensures c.proof_word.ensures
