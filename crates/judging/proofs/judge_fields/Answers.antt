-- `judging::judge_fields` meets its contract.
-- Assumes nothing.
use mathlib.Core.Path.{refl, ◌∙◌}
use native.Mathlib.Omega.{arith}
use Rattle.std.proofs.lemmas.Result.{err_from_is_err_and}
use Rattle.mapping.specs.Mapping.{table_after}
use Rattle.steps.proofs.Fields.{lie}
use Rattle.judging.proofs.Laws.{clause_stops, mappings_stop, load_asks, twice_stops, loadable, unload_asks, brought_back}
use Rattle.judging.proofs.judge_fields.Goals as goal

pub payload-requires : goal.payload-requires
payload-requires c = (lie _ _ _ c.requires.read.fields).clause_within

pub check_clause-requires : goal.check_clause-requires
check_clause-requires c = let r = c.requires.ready in (r.variables, (omega (arith, r.table_long), r.table_zero))

pub returns-in_err-check_clause-clause-answer : goal.returns-in_err-check_clause-clause-answer
returns-in_err-check_clause-clause-answer c =
    let p = err_from_is_err_and c.from_residual.result c.from_residual.ensures.1 in
    rw (p.1, p.2) (clause_stops c.requires c.payload.ensures.bytes _ c.in_err-check_clause.ensures.said)

pub payload-requires-2 : goal.payload-requires-2
payload-requires-2 c = (lie _ _ _ c.requires.read.fields).witness_within

pub returns-in_err-check_mappings-clause-answer : goal.returns-in_err-check_mappings-clause-answer
returns-in_err-check_mappings-clause-answer c =
    let p = err_from_is_err_and c.from_residual-in_err-check_mappings.result c.from_residual-in_err-check_mappings.ensures.1 in
    rw (p.1, p.2) (mappings_stop c.requires c.payload.ensures.bytes c.in_ok-check_clause.ensures.said c.payload-2.ensures.bytes _ c.in_err-check_mappings.ensures)

pub load_witness-requires : goal.load_witness-requires
load_witness-requires c =
    load_asks c.requires c.payload.ensures.bytes c.in_ok-check_clause.ensures.said c.payload-2.ensures.bytes c.in_ok-check_mappings.ensures _ c.check_clause.ensures.table

pub overflow_add-result : goal.overflow_add-result
overflow_add-result c = omega (arith, c.in-Err.ensures.place _ refl, c.payload-2.ensures.within, c.requires.ready.proof_short)

pub returns-in-Err-clause-answer : goal.returns-in-Err-clause-answer
returns-in-Err-clause-answer c =
    twice_stops c.requires c.payload.ensures.bytes c.in_ok-check_clause.ensures.said c.payload-2.ensures.bytes c.in_ok-check_mappings.ensures _ c.check_clause.ensures.table _ c.in-Err.ensures.said

pub returns-in-Err-clause-table : goal.returns-in-Err-clause-table
unfolding table_after
returns-in-Err-clause-table c = c.in-Err.ensures.table ∙ c.check_clause.ensures.table

pub judge_loaded-judgement-requires : goal.judge_loaded-judgement-requires
judge_loaded-judgement-requires c =
    loadable c.requires c.payload.ensures.bytes c.in_ok-check_clause.ensures.said c.payload-2.ensures.bytes c.in_ok-check_mappings.ensures _ c.check_clause.ensures.table c.in_default.ensures.said _ c.in_default.ensures.table

pub unload_witness-requires : goal.unload_witness-requires
unload_witness-requires c =
    unload_asks c.requires c.payload.ensures.bytes c.in_ok-check_clause.ensures.said c.payload-2.ensures.bytes c.in_ok-check_mappings.ensures _ c.check_clause.ensures.table c.in_default.ensures.said _ c.in_default.ensures.table _ c.judge_loaded-judgement.ensures.table

pub returns-clause-table : goal.returns-clause-table
returns-clause-table c =
    brought_back c.requires c.payload.ensures.bytes c.in_ok-check_clause.ensures.said c.payload-2.ensures.bytes c.in_ok-check_mappings.ensures _ c.check_clause.ensures.table c.in_default.ensures.said _ c.in_default.ensures.table _ c.judge_loaded-judgement.ensures.table _ c.unload_witness.ensures
