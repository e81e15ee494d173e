-- `lower` lowers the words right below a number. The invariant: what is left to do makes what all of it makes.
use mathlib.Core.Path.{sym, ◌∙◌}
use Rattle.lookup.proofs.Clause.{lowered_stop, lowered_next, lowered_end}
use Rattle.lookup.proofs.lower.Goals as goal

pub returns-then-words-k-ge-LIVE : goal.returns-then-words-k-ge-LIVE
returns-then-words-k-ge-LIVE c =
    sym (lowered_stop _ _ _ c.loop-k-test.true c.if-words-k-ge-LIVE.true) ∙ c.loop-k.invariant

pub loop-k-preserved : goal.loop-k-preserved
loop-k-preserved c = lowered_next _ _ _ c.loop-k-test.true c.if-words-k-ge-LIVE.false ∙ c.loop-k.invariant

pub returns : goal.returns
returns c = sym (lowered_end _ _ _ c.loop-k-test.false) ∙ c.loop-k.invariant
