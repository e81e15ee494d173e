-- `answers::judge_files` meets its contract.
-- Assumes nothing.
use Prim.Native.Nat.{◌<◌}
use mathlib.Core.Logic.{◌⊎◌, inl, inr}
use native.Mathlib.Omega.{arith}
use lib.ListN.{length}
use Rattle.answers.proofs.Files.{long_said, formula_said, start, steps_said}
use Rattle.answers.proofs.judge_files.Goals as goal

pub returns-then-formula-gt1048576 : goal.returns-then-formula-gt1048576
returns-then-formula-gt1048576 c =
    let long : (1048576 < length c.args.formula.now) ⊎ (1048576 < length c.args.proof.now) =
    elim c.then-formula-gt1048576.either [ inl h ↦ inl (omega arith) | inr h ↦ inr (omega arith) ] in
    rw c.refused.ensures (long_said long)

pub read_formula-requires : goal.read_formula-requires
read_formula-requires c =
    let p = c.requires in
    (omega arith, (omega (arith, p.words_long), (p.words_zero, (omega (arith, p.table_long), p.table_zero))))

pub run_steps-requires : goal.run_steps-requires
run_steps-requires c =
    let d = c.in-Ok.ensures in
    start _ _ _ (omega arith) (omega arith) _ _ _ d.said _ _ c.requires d.table

pub returns-in-Ok : goal.returns-in-Ok
returns-in-Ok c =
    let d = c.in-Ok.ensures in
    steps_said _ _ _ (omega arith) (omega arith) _ _ _ d.said _ c.run_steps.ensures

pub returns-in-Err : goal.returns-in-Err
returns-in-Err c =
    let d = c.in-Err.ensures in
    rw c.refused-in-Err.ensures (formula_said _ _ _ (omega arith) (omega arith) _ _ _ d.said)
