-- `clauses::first_twice` meets its contract. Assumes nothing.
use Rattle.clauses.proofs.Marks.{Marking}
use Rattle.clauses.proofs.first_twice.Given as goal

abbrev pub invariant-loop-k : goal.invariant-loop-k
invariant-loop-k l = goal.iterator-loop-k.can_next l.k-iterator × goal.iterator-loop-k.is_finite l.k-iterator × Marking l.part l.fn.t l.t l.k-iterator.count l.k-iterator.iter.bytes.now
