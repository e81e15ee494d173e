-- `reading::enter_clauses` meets its contract. Assumes nothing.
use mathlib.Core.Path.{refl, ◌∙◌}
use native.Mathlib.Omega.{arith}
use Rattle.std.proofs.lemmas.Result.{err_from_is_err_and}
use Rattle.reading.proofs.Entering.{entering_start, entering_turn, entering_bad, entering_end}
use Rattle.reading.proofs.enter_clauses.Goals.{else-loop-k-test, then-loop-k-test+in_ok-next+else-k-m}
use Rattle.reading.proofs.enter_clauses.Goals as goal

pub loop-k-init : goal.loop-k-init
loop-k-init c = (entering_start _ _ _ _ _ c.requires.1.1.1.0, refl)

pub returns-in_err-next-clause-said : goal.returns-in_err-next-clause-said
returns-in_err-next-clause-said c =
    let p = err_from_is_err_and c.from_residual.result c.from_residual.ensures.1 in
    rw (p.1, p.2) (entering_bad c.loop-k.invariant.0 c.loop-k-test.true _ _ c.in_err-next.ensures.said)

pub loop-k-preserved : goal.loop-k-preserved
loop-k-preserved c = (
  entering_turn
      c.loop-k.invariant.0
      c.loop-k-test.true
      c.requires.0
      (omega (arith, c.loop-k.auto.words, c.requires.1.1.0))
      _
      c.in_ok-next.ensures.said
      _
      c.formula_word.ensures
      _
      c.enter.ensures,
  c.read_clause.ensures.table ∙ c.loop-k.invariant.1,
)

-- no clause was left, or the last one was read
pub returns-clause-said : goal.returns-clause-said
returns-clause-said c =
    elim c.loop-k-test.branch [
      | else-loop-k-test w ↦ rw w.words-is (entering_end c.loop-k.invariant.0 (omega arith) _ (rw w.c-is at c.nothing_follows.ensures))
      | then-loop-k-test+in_ok-next+else-k-m w ↦
          rw
          w.words-is
          (entering_end
          (entering_turn
          c.loop-k.invariant.0
          w.loop-k-test.true
          c.requires.0
          (omega (arith, c.loop-k.auto.words, c.requires.1.1.0))
          _
          w.in_ok-next.ensures.said
          _
          w.formula_word.ensures
          _
          w.enter.ensures)
          (omega arith)
          _
          (rw w.c-is at c.nothing_follows.ensures))
    ]
