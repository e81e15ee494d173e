-- `remove_numbers` clears the listed numbers, from the last to the first. The invariant: those left are to be cleared of what is here.
use mathlib.Core.Path.{◌≡◌, refl, sym, ◌∙◌}
use native.Mathlib.Omega.{arith}
use Rattle.steps.specs.Steps.{removed}
use Rattle.steps.proofs.Numbers.{removed_last, below_last, below_front}
use Rattle.steps.proofs.remove_numbers.Goals as goal

pub loop-n-init : goal.loop-n-init
loop-n-init c =
    let b : c.into_iter-n-iterator.result.iter.bytes.now ≡ c.args.numbers.now = cc in
    rw b (c.requires.1, refl)

pub remove-requires : goal.remove-requires
remove-requires c =
    let h = below_last _ (rw c.in-Some.ensures.steps at c.loop-n.invariant.0) in
    (omega (arith, h, c.loop-n.auto.words), omega (arith, h, c.requires.0))

pub loop-n-preserved : goal.loop-n-preserved
loop-n-preserved c =
    let v = rw c.in-Some.ensures.steps at c.loop-n.invariant in
    (below_front _ _ v.0, rw c.remove.ensures (sym (removed_last _ _ _) ∙ v.1))

pub returns : goal.returns
unfolding removed
returns c = rw c.in-None.ensures.steps.0 at c.loop-n.invariant.1
