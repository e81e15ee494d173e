-- `clauses::first_twice` meets its contract. Assumes nothing.
use mathlib.Core.Path.{sym, ◌∙◌}
use mathlib.Core.Logic.{inl}
use native.Mathlib.Omega.{arith}
use Rattle.paper.proofs.Scan.{step_now}
use Rattle.codes.proofs.Room.{codes_room}
use Rattle.clauses.proofs.Marks.{marking_start, marking_found, marking_turn, marking_end}
use Rattle.clauses.proofs.first_twice.Goals as goal

pub loop-k-init : goal.loop-k-init
loop-k-init c =
    rw (c.into_iter-k-iterator.ensures.into_iter_gives, c.enumerate-k-items.ensures.source, c.enumerate-k-items.ensures.count, c.of.ensures)
    ((tt, tt, inl (omega (arith, codes_room c.args.part.now))), tt, marking_start _ _ c.requires.0 c.requires.1.1)

pub value-requires : goal.value-requires
value-requires c =
    let small = step_now c.in-Some.code c.in-Some.ensures.steps.0 c.loop-k.invariant.2.small in
    (omega arith, omega (arith, c.loop-k.auto.t))

pub returns-then-value-ne0 : goal.returns-then-value-ne0
returns-then-value-ne0 c =
    let steps = c.in-Some.ensures.steps in
    rw steps.1 (marking_found c.loop-k.invariant.2 _ _ steps.0 (λ z. c.if-value-ne0.true (c.value.ensures ∙ z)))

-- The table has room for the variable,
-- and a mark is a value.
pub set_value-requires : goal.set_value-requires
set_value-requires c =
    let small = step_now c.in-Some.code c.in-Some.ensures.steps.0 c.loop-k.invariant.2.small in
    (omega arith, (omega (arith, c.loop-k.auto.t), omega arith))

pub loop-k-preserved : goal.loop-k-preserved
loop-k-preserved c =
    let steps = c.in-Some.ensures.steps in
    let further = rw (← steps.2) at (marking_turn c.loop-k.invariant.2 _ _ steps.0 (omega (arith, c.loop-k.auto.t)) (sym c.value.ensures ∙ c.if-value-ne0.false) _ c.set_value.ensures) in
    ((tt, tt, inl (omega (arith, further.counted, codes_room c.args.part.now))), tt, further)

pub returns : goal.returns
returns c = marking_end c.loop-k.invariant.2 c.in-None.ensures.steps.0.0
