-- `conditions::lowest_failing` meets its contract. Assumes nothing.
use Rattle.paper.specs.Files.{codes}
use Rattle.conditions.proofs.Search.{numbers_left, Searching}
use Rattle.conditions.proofs.lowest_failing.Given as goal

abbrev pub invariant-loop-n : goal.invariant-loop-n
invariant-loop-n l = Searching l.live.formula.now l.live.proof.now l.live.words.now (codes l.clause) (codes l.modulo) l.fn.t l.t l.n-counter (numbers_left l.named)
