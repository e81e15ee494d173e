-- `propagate` is the paper's sweeps. The invariant: the sweeps that are left, from the state now, make the state that all of them make.
-- Assumes nothing.
use native.Mathlib.Omega.{arith}
use Rattle.propagation.proofs.Laws.{running_start, running_end, running_sweepable, last_clash, last_still, running_next}
use Rattle.propagation.proofs.propagate.Goals as goal

pub loop-init : goal.loop-init
loop-init c = running_start

pub sweep_once-p-requires : goal.sweep_once-p-requires
sweep_once-p-requires c =
    running_sweepable c.loop.invariant (omega arith) c.requires

pub returns-then-p : goal.returns-then-p
returns-then-p c =
    last_clash c.loop.invariant (omega arith) c.requires c.sweep_once-p.ensures c.if-p.true

pub returns-then-p-before : goal.returns-then-p-before
returns-then-p-before c =
    last_still c.loop.invariant (omega arith) c.requires c.sweep_once-p.ensures
    c.if-p.false c.if-p-before.true

pub loop-preserved : goal.loop-preserved
loop-preserved c =
    running_next c.loop.invariant (omega arith) c.requires c.sweep_once-p.ensures
    c.if-p.false c.if-p-before.false

pub returns : goal.returns
returns c = running_end c.loop.invariant (omega arith)
