-- `conditions::lowest_failing` meets its contract. Assumes nothing.
use mathlib.Core.Path.{sym, ◌∙◌}
use Rattle.conditions.proofs.Search.{next_named, next_other, searching_start, searching_end, turn_named, turn_dead, turn_passes, turn_fails, number_asked}
use Rattle.conditions.proofs.lowest_failing.Goals as goal

pub loop-n-init : goal.loop-n-init
loop-n-init c =
    let e = c.peekable-named.ensures in
    rw (e.source, e.peeked, c.of.ensures) (searching_start c.requires.1.1)

pub loop-n-preserved-then-is_some : goal.loop-n-preserved-then-is_some
loop-n-preserved-then-is_some c =
    turn_named c.loop-n.invariant (next_named _ _ _ _ c.next_if_eq.ensures.cases (sym c.is_some.ensures ∙ c.if-is_some.true))

pub loop-n-preserved-then-live-n-lt-LIVE : goal.loop-n-preserved-then-live-n-lt-LIVE
loop-n-preserved-then-live-n-lt-LIVE c =
    turn_dead c.loop-n.invariant (next_other _ _ _ _ c.next_if_eq.ensures.cases (sym c.is_some.ensures ∙ c.if-is_some.false)) c.if-live-n-lt-LIVE.true

pub passes-requires : goal.passes-requires
passes-requires c = number_asked c.loop-n.invariant c.requires.0 c.requires.1.0 c.loop-n-test.true c.if-live-n-lt-LIVE.false c.clause_at-d.ensures

pub returns-then-not-passes-clause-answer : goal.returns-then-not-passes-clause-answer
returns-then-not-passes-clause-answer c =
    turn_fails c.loop-n.invariant (next_other _ _ _ _ c.next_if_eq.ensures.cases (sym c.is_some.ensures ∙ c.if-is_some.false)) c.loop-n-test.true
    c.if-live-n-lt-LIVE.false c.clause_at-d.ensures c.passes.ensures.answer c.if-not-passes.true

pub loop-n-preserved : goal.loop-n-preserved
loop-n-preserved c =
    turn_passes c.loop-n.invariant (next_other _ _ _ _ c.next_if_eq.ensures.cases (sym c.is_some.ensures ∙ c.if-is_some.false)) c.loop-n-test.true
    c.if-live-n-lt-LIVE.false c.clause_at-d.ensures c.passes.ensures.answer c.if-not-passes.false c.passes.ensures.table

pub returns : goal.returns
returns c = record { answer = searching_end c.loop-n.invariant c.loop-n-test.false; table = c.loop-n.invariant.same }
