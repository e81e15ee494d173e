-- `propagate` is the paper's sweeps. The invariant: the sweeps that are left, from the state now, make the state that all of them make.
-- Assumes nothing.
use Rattle.propagation.proofs.Laws.{Running}
use Rattle.propagation.proofs.propagate.Given as goal

abbrev pub invariant-loop : goal.invariant-loop
invariant-loop l = Running l.live.formula.now l.live.proof.now l.live.words.now l.initial.t l.t l.p l.counter
