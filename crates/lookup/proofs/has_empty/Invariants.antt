-- `has_empty` finds an empty clause among the live ones, or there is none. The invariant: no word passed stands for an empty clause.
use Prim.Native.Nat.{ℕ, ◌<◌}
use lib.ListN.{get_or}
use Rattle.lookup.proofs.Live.{NotEmpty}
use Rattle.lookup.proofs.has_empty.Given as goal

abbrev pub invariant-loop-n : goal.invariant-loop-n
invariant-loop-n l = (k : ℕ) → k < l.n → NotEmpty l.live.formula.now l.live.proof.now (get_or l.live.words.now k 0)
