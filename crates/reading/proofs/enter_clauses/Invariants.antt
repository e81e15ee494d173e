-- `reading::enter_clauses` meets its contract. Assumes nothing.
use mathlib.Core.Path.{◌≡◌}
use Rattle.reading.proofs.Entering.{Entering}
use Rattle.reading.proofs.enter_clauses.Given as goal

abbrev pub invariant-loop-k : goal.invariant-loop-k
invariant-loop-k l = Entering l.formula l.vars l.m l.initial.c.at l.initial.words l.words l.c.at l.k × (l.t ≡ l.initial.t)
