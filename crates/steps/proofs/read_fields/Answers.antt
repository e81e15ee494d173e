-- `read_fields` finds the fields that the paper's reading finds.
use Rattle.std.proofs.lemmas.Result.{err_from_is_err_and}
use Rattle.steps.proofs.Fields.{unknown, no_clause, no_witness, no_modulo, deletion, addition}
use Rattle.steps.proofs.read_fields.Goals as goal

pub returns-in_err-kind : goal.returns-in_err-kind
returns-in_err-kind c =
    let p = err_from_is_err_and c.from_residual.result c.from_residual.ensures.1 in
    let e = unknown _ _ _ c.tag_at-tag.ensures _ c.try_from.ensures _ _ c.in_err-kind.ensures in
    rw (p.1, p.2, e.0, c.missing.ensures) e.1

pub returns-in_err-one : goal.returns-in_err-one
returns-in_err-one c =
    let p = err_from_is_err_and c.from_residual-in_err-one.result c.from_residual-in_err-one.ensures.1 in
    rw (p.1, p.2) (no_clause _ _ _ c.tag_at-tag.ensures _ c.try_from.ensures _ _ c.in_ok-kind.ensures _ c.in_err-one.ensures)

pub returns-in_default : goal.returns-in_default
returns-in_default c =
    rw c.missing-in_default.ensures (no_witness _ _ _ c.tag_at-tag.ensures _ c.try_from.ensures _ _ c.in_ok-kind.ensures _ c.in_ok-one.ensures _ c.has_witness.ensures _ c.in_default.ensures)

pub returns-in_default-expect_if : goal.returns-in_default-expect_if
returns-in_default-expect_if c =
    rw c.missing-in_default-expect_if.ensures (no_modulo _ _ _ c.tag_at-tag.ensures _ c.try_from.ensures _ _ c.in_ok-kind.ensures _ c.in_ok-one.ensures _ c.has_witness.ensures _ c.in-Some.ensures _ c.has_modulo.ensures _ c.in_default-expect_if.ensures)

pub returns-in-Delete : goal.returns-in-Delete
returns-in-Delete c = deletion _ _ _ c.tag_at-tag.ensures _ c.try_from.ensures _ _ c.in_ok-kind.ensures _ c.in_ok-one.ensures _ c.has_witness.ensures _ c.in-Some.ensures _ c.has_modulo.ensures _ c.in-Some-expect_if.ensures c.in-Delete.is

pub returns-in_default-kind : goal.returns-in_default-kind
returns-in_default-kind c = addition _ _ _ c.tag_at-tag.ensures _ c.try_from.ensures _ _ c.in_ok-kind.ensures _ c.in_ok-one.ensures _ c.has_witness.ensures _ c.in-Some.ensures _ c.has_modulo.ensures _ c.in-Some-expect_if.ensures c.in_default-kind.not-Delete
