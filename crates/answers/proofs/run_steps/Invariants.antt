-- `answers::run_steps` meets its contract. The loop's invariant: the state is fit for a step, and what the rest answers the whole does.
-- Assumes nothing.
use Prim.Native.Nat.{◌-◌}
use lib.ListN.{length}
use Rattle.lookup.specs.Live.{live}
use Rattle.answers.proofs.Run.{Going}
use Rattle.answers.proofs.run_steps.Given as goal

abbrev pub invariant-loop-c : goal.invariant-loop-c
invariant-loop-c l = Going l.formula l.proof l.vars l.first (live l.formula l.proof l.initial.words) l.words l.t l.c.at l.next l.done

abbrev pub decreases-loop-c : goal.decreases-loop-c
decreases-loop-c l = length l.proof - l.c.at
