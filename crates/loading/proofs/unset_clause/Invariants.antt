-- `loading::unset_clause` meets its contract. Assumes nothing.
use Rattle.paper.specs.Files.{codes}
use Rattle.loading.specs.Loading.{unset_clause}
use Rattle.loading.proofs.Turns.{Going}
use Rattle.loading.proofs.unset_clause.Given as goal

abbrev pub invariant-loop-code : goal.invariant-loop-code
invariant-loop-code l = Going unset_clause (codes l.clause) l.fn.t l.t (codes l.code-iterator.bytes.now)
