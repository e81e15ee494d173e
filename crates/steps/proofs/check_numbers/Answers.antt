-- `check_numbers` refuses what the paper refuses. The invariant: the check of the numbers left decides the check of all.
use Prim.Native.Nat.{◌+◌, ◌*◌}
use mathlib.Core.Path.{◌≡◌, refl, sym, ap, ◌∙◌}
use native.Mathlib.Omega.{arith}
use lib.ListN.{length}
use Rattle.paper.specs.Refusals.{check_numbers}
use Rattle.field.specs.Field.{result_of}
use Rattle.codes.proofs.Room.{codes_room}
use Rattle.steps.proofs.Numbers.{not_above, not_live, too_high, number_fine}
use Rattle.steps.proofs.check_numbers.Goals as goal
use Rattle.steps.proofs.check_numbers.Goals.{then-n-last-via-then-n-last, then-n-last-via-else-n-last+then-words-n, then-n-last-via-else-n-last+else-words-n+then-words-n-lt-LIVE}

pub loop-k-init : goal.loop-k-init
loop-k-init c =
    let z : c.into_iter-k-iterator.result.count ≡ 0 = cc in
    let b : c.into_iter-k-iterator.result.iter.bytes.now ≡ c.args.part.bytes.now = cc in
    let e : c.args.part.start + 2 * c.into_iter-k-iterator.result.count ≡ c.args.part.start = omega arith in
    (rw b (omega (arith, codes_room c.args.part.bytes.now)), λ f p. rw (e, b) refl)

pub returns-then-n-last : goal.returns-then-n-last
unfolding result_of
returns-then-n-last c = λ f p.
    let s = c.in-Some.ensures.steps in
    rw s.1 (sym (ap result_of (sym (c.loop-k.invariant.1 f p) ∙ elim c.then-n-last.branch [
      | then-n-last-via-then-n-last w ↦ not_above _ _ _ _ s.0 f p w.if-n-last.true
      | then-n-last-via-else-n-last+then-words-n w ↦ too_high _ _ _ _ s.0 f p w.if-words-n.true
      | then-n-last-via-else-n-last+else-words-n+then-words-n-lt-LIVE w ↦ not_live _ _ _ _ s.0 f p w.if-words-n-lt-LIVE.true
    ])))

pub loop-k-preserved : goal.loop-k-preserved
loop-k-preserved c =
    let s = c.in-Some.ensures.steps in
    let q : c.args.part.start + 2 * c.next.new.self.count ≡ c.args.part.start + 2 * c.loop-k.k-iterator.count + 2 = omega (arith, s.2) in (
      omega (arith, ap length s.0, s.2),
      λ f p. rw q (sym (number_fine _ _ _ _ s.0 f p c.if-n-last.false c.if-words-n-lt-LIVE.false) ∙ c.loop-k.invariant.1 f p),
    )

pub returns : goal.returns
unfolding result_of check_numbers
returns c = λ f p. sym (ap result_of (sym (c.loop-k.invariant.1 f p) ∙ ap (check_numbers _ _ _) c.in-None.ensures.steps.0.0))
