-- `reading::read_clause` meets its contract. Assumes nothing.
use native.Mathlib.Omega.{arith}
use Rattle.std.proofs.lemmas.Result.{err_from_is_err_and}
use Rattle.reading.proofs.Clause.{clause_wrong, clause_bad}
use Rattle.reading.proofs.read_clause.Goals as goal

pub returns-in_err-clause-clause-said : goal.returns-in_err-clause-clause-said
returns-in_err-clause-clause-said c =
    let p = err_from_is_err_and c.from_residual.result c.from_residual.ensures.1 in
    rw (p.1, p.2) (clause_wrong _ _ _ (omega arith) _ c.in_err-clause.ensures)

pub returns-in_err-check_clause-clause-said : goal.returns-in_err-check_clause-clause-said
returns-in_err-check_clause-clause-said c =
    let p = err_from_is_err_and c.from_residual-in_err-check_clause.result c.from_residual-in_err-check_clause.ensures.1 in
    rw (p.1, p.2) (clause_bad _ _ _ (omega arith) _ c.in_ok-clause.ensures _ c.payload.ensures.bytes _ c.in_err-check_clause.ensures.said)
