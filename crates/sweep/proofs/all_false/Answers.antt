-- `all_false` tells whether the literals that are left are all false. The invariant: those passed are. Assumes nothing.
use mathlib.Core.Path.{◌∙◌}
use native.Mathlib.Omega.{arith}
use Rattle.sweep.proofs.Laws.{code_range, value_less, unset_left, true_left, passed_false, all_passed}
use Rattle.sweep.proofs.all_false.Goals as goal

pub value-requires : goal.value-requires
value-requires c = let r = code_range c.loop-code.invariant c.in-Some.ensures.steps in (omega arith, c.requires.1)

pub is_unset-requires : goal.is_unset-requires
is_unset-requires c = value_less _ _ _ (c.from-value.ensures ∙ c.value.ensures)

pub returns-then-is_unset : goal.returns-then-is_unset
returns-then-is_unset c =
    unset_left c.loop-code.invariant c.in-Some.ensures.steps
    (c.from-value.ensures ∙ c.value.ensures) (c.is_unset.ensures.0 c.if-is_unset.true)

pub returns-then-value-code : goal.returns-then-value-code
returns-then-value-code c =
    true_left c.loop-code.invariant c.in-Some.ensures.steps
    (c.from-value.ensures ∙ c.value.ensures) c.if-value-code.true

pub loop-code-preserved : goal.loop-code-preserved
loop-code-preserved c =
    passed_false c.loop-code.invariant c.in-Some.ensures.steps
    (c.from-value.ensures ∙ c.value.ensures) (c.is_unset.ensures.1 c.if-is_unset.false) c.if-value-code.false

pub returns : goal.returns
returns c = all_passed c.loop-code.invariant c.in-None.ensures.steps.0
