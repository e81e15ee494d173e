-- `loading::unset_clause` meets its contract. Assumes nothing.
use mathlib.Core.Path.{sym, ap, ◌∙◌}
use native.Mathlib.Omega.{arith}
use Rattle.loading.specs.Loading.{unset_clause}
use Rattle.loading.proofs.Turns.{going_here, going_next, unset_clause_next}
use Rattle.loading.proofs.unset_clause.Goals as goal

pub set_value-requires : goal.set_value-requires
set_value-requires c = let h = going_here c.loop-code.invariant c.in-Some.ensures.steps in (omega arith, (omega arith, omega arith))

pub loop-code-preserved : goal.loop-code-preserved
loop-code-preserved c = going_next c.loop-code.invariant c.in-Some.ensures.steps (cc (unset_clause_next c.loop-code.t c.in-Some.code _))

pub returns : goal.returns
unfolding unset_clause
returns c = sym (c.loop-code.invariant.rest ∙ ap (unset_clause c.loop-code.t) c.in-None.ensures.steps.0)
