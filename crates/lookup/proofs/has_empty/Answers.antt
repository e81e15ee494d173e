-- `has_empty` finds an empty clause among the live ones, or there is none. The invariant: no word passed stands for an empty clause.
use native.Mathlib.Omega.{arith}
use Rattle.lookup.proofs.Live.{empty_found, empty_nowhere}
use Rattle.lookup.proofs.has_empty.Goals as goal

pub returns-then-clause_at-lt2 : goal.returns-then-clause_at-lt2
returns-then-clause_at-lt2 c =
    empty_found _ _ _ _ c.loop-n-test.true c.if-live-n-ge-LIVE.true _ c.clause_at.ensures c.if-clause_at-lt2.true

pub returns : goal.returns
returns c = empty_nowhere _ _ _ (λ k h. c.loop-n.invariant k (omega arith))
