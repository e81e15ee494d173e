-- `remove_numbers` clears the listed numbers, from the last to the first. The invariant: those left are to be cleared of what is here.
use mathlib.Core.Path.{◌≡◌}
use lib.ListN.{length}
use Rattle.paper.specs.Files.{codes}
use Rattle.steps.specs.Steps.{removed, Below}
use Rattle.steps.proofs.remove_numbers.Given as goal

abbrev pub invariant-loop-n : goal.invariant-loop-n
invariant-loop-n l =
    Below (length l.fn.words) (codes l.n-iterator.iter.bytes.now)
    × (removed l.words (codes l.n-iterator.iter.bytes.now) ≡ removed l.fn.words (codes l.fn.numbers))
