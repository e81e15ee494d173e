-- `lower` lowers the words right below a number. The invariant: what is left to do makes what all of it makes.
use mathlib.Core.Path.{◌≡◌}
use Rattle.lookup.specs.Clause.{lowered}
use Rattle.lookup.proofs.lower.Given as goal

abbrev pub invariant-loop-k : goal.invariant-loop-k
invariant-loop-k l = lowered l.words l.k l.word ≡ lowered l.initial.words l.n l.word
