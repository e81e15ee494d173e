-- `sweep` is one sweep over the live clauses. The inner invariant: the literals passed are all false; the outer: the visits that are left,
-- from the state now, make the state that the whole sweep makes. Assumes nothing.
use Prim.Native.Nat.{◌-◌, ◌≤◌}
use mathlib.Core.Path.{◌≡◌}
use lib.ListN.{length}
use Rattle.paper.specs.Files.{codes}
use Rattle.sweep.proofs.Laws.{Passed, Held}
use Rattle.sweep.proofs.sweep.Given as goal

abbrev pub invariant-literals : goal.invariant-literals
invariant-literals l =
    (8192 ≤ length l.t) × (l.t ≡ l.initial.t) × (l.count ≡ l.initial.count) × (l.clash ≡ l.initial.clash)
    × Passed 4095 l.initial.t (codes l.initial.literals.bytes.now) (codes l.literals.bytes.now)

abbrev pub invariant-clauses : goal.invariant-clauses
invariant-clauses l = Held 4095 l.live.formula.now l.live.proof.now l.live.words.now l.initial.t l.p l.k l.t l.count l.clash

abbrev pub decreases-clauses : goal.decreases-clauses
decreases-clauses l = length l.live.words.now - l.k
