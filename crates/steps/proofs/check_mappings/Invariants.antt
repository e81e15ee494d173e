-- `check_mappings` refuses what the paper refuses. The invariant: the check of the mappings left decides the check of all.
use Prim.Native.Nat.{◌+◌, ◌*◌, ◌≤◌}
use mathlib.Core.Path.{◌≡◌}
use lib.ListN.{length}
use Rattle.paper.specs.Files.{codes, mappings}
use Rattle.paper.specs.Refusals.{check_mappings}
use Rattle.steps.proofs.check_mappings.Given as goal

abbrev pub invariant-loop-k : goal.invariant-loop-k
invariant-loop-k l =
    (4 * (l.k-iterator.count + length (mappings (codes l.k-iterator.iter.bytes.now))) ≤ length l.part.bytes.now)
    × (check_mappings l.vars (l.part.start + 4 * l.k-iterator.count) (mappings (codes l.k-iterator.iter.bytes.now)) ≡ check_mappings l.vars l.part.start (mappings (codes l.part.bytes.now)))
