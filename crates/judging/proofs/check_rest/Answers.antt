-- `judging::check_rest` meets its contract.
-- Assumes nothing.
use Rattle.std.proofs.lemmas.Result.{err_from_is_err_and}
use Rattle.judging.proofs.Laws.{numbers_stop, no_new, new_fits, none_left}
use Rattle.judging.proofs.check_rest.Goals as goal

-- A number that is not live is the answer,
-- also where the numbers are used up.
pub returns-in_err-check_numbers : goal.returns-in_err-check_numbers
returns-in_err-check_numbers c = λ f p.
    let e = err_from_is_err_and c.from_residual.result c.from_residual.ensures.1 in
    rw (e.1, e.2) (numbers_stop _ _ _ _ _ _ _ (c.in_err-check_numbers.ensures f p))

pub returns-in-Delete : goal.returns-in-Delete
returns-in-Delete c = λ f p. no_new _ _ _ _ _ _ (c.in_ok-check_numbers.ensures f p) c.in-Delete.is

pub returns-in_default : goal.returns-in_default
returns-in_default c = λ f p. new_fits _ _ _ _ _ _ (c.in_ok-check_numbers.ensures f p) c.in_default.not-Delete c.if-next-lt16384.true

pub returns-in_default-2 : goal.returns-in_default-2
returns-in_default-2 c = λ f p. none_left _ _ _ _ _ _ (c.in_ok-check_numbers.ensures f p) c.in_default.not-Delete c.if-next-lt16384.false
