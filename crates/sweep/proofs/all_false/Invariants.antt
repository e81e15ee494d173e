-- `all_false` tells whether the literals that are left are all false. The invariant: those passed are. Assumes nothing.
use Rattle.paper.specs.Files.{codes}
use Rattle.sweep.proofs.Laws.{Passed}
use Rattle.sweep.proofs.all_false.Given as goal

abbrev pub invariant-loop-code : goal.invariant-loop-code
invariant-loop-code l = Passed 4095 l.t (codes l.fn.literals.bytes.now) (codes l.code-iterator.bytes.now)
