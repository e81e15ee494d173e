-- What is left of the buffer is the measure.
use Rattle.std.proofs.Common.{length, ◌-◌, ◌≤◌}
use Rattle.check_files.proofs.read_whole.Given as goal

abbrev pub invariant-loop-at : goal.invariant-loop-at
invariant-loop-at l = l.at ≤ length l.buf

abbrev pub decreases-loop-at : goal.decreases-loop-at
decreases-loop-at l = length l.initial.buf - l.at
