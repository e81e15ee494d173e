-- `check_numbers` refuses what the paper refuses. The invariant: the check of the numbers left decides the check of all.
use Prim.Native.Nat.{◌+◌, ◌*◌, ◌≤◌}
use mathlib.Core.Path.{◌≡◌}
use lib.ListN.{length}
use Rattle.paper.specs.Files.{File, codes}
use Rattle.paper.specs.Refusals.{check_numbers}
use Rattle.lookup.specs.Live.{live}
use Rattle.steps.proofs.check_numbers.Given as goal

abbrev pub invariant-loop-k : goal.invariant-loop-k
invariant-loop-k l =
    (2 * (l.k-iterator.count + length (codes l.k-iterator.iter.bytes.now)) ≤ length l.part.bytes.now)
    × ((f p : File) → check_numbers (live f p l.words) l.last (l.part.start + 2 * l.k-iterator.count) (codes l.k-iterator.iter.bytes.now) ≡ check_numbers (live f p l.words) 0 l.part.start (codes l.part.bytes.now))
