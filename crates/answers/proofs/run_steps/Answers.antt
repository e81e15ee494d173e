-- `answers::run_steps` meets its contract. The loop's invariant: the state is fit for a step, and what the rest answers the whole does.
-- Assumes nothing.
use native.Mathlib.Omega.{arith}
use Rattle.answers.proofs.Run.{taken_further, going_on, stopped, end_refuted, end_held, used_clauses}
use Rattle.answers.proofs.run_steps.Goals as goal

pub loop-c-smaller : goal.loop-c-smaller
loop-c-smaller c =
    let g = c.loop-c.invariant in
    let far = taken_further g c.in-Ok.ensures in
    omega arith

pub loop-c-preserved : goal.loop-c-preserved
loop-c-preserved c = going_on c.loop-c.invariant c.loop-c-test.true c.in-Ok.ensures

-- A step that stops is the answer,
-- the first and each later one.
pub returns-in-Err : goal.returns-in-Err
returns-in-Err c = rw c.refused.ensures (stopped c.loop-c.invariant c.loop-c-test.true c.in-Err.ensures)

pub invariant_of-live : goal.invariant_of-live
invariant_of-live c = record { stands = used_clauses c.loop-c.invariant }

pub returns-then-has_empty : goal.returns-then-has_empty
returns-then-has_empty c = end_refuted c.loop-c.invariant (omega arith) c.has_empty.ensures c.if-has_empty.true

pub returns : goal.returns
returns c = end_held c.loop-c.invariant (omega arith) c.has_empty.ensures c.if-has_empty.false
