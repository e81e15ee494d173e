-- `loading::assume_clause` meets its contract. Assumes nothing.
use Rattle.paper.specs.Files.{codes}
use Rattle.loading.specs.Loading.{assumed}
use Rattle.loading.proofs.Turns.{Going}
use Rattle.loading.proofs.assume_clause.Given as goal

abbrev pub invariant-loop-code : goal.invariant-loop-code
invariant-loop-code l = Going assumed (codes l.clause) l.fn.t l.t (codes l.code-iterator.bytes.now)
