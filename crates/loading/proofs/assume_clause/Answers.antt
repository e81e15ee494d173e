-- `loading::assume_clause` meets its contract. Assumes nothing.
use mathlib.Core.Path.{sym, ap, ◌∙◌}
use Rattle.loading.specs.Loading.{assumed}
use Rattle.loading.proofs.Turns.{going_here, going_next, assumed_next}
use Rattle.loading.proofs.assume_clause.Goals as goal

pub complement-requires : goal.complement-requires
complement-requires c = going_here c.loop-code.invariant c.in-Some.ensures.steps

pub loop-code-preserved : goal.loop-code-preserved
loop-code-preserved c = going_next c.loop-code.invariant c.in-Some.ensures.steps (cc (assumed_next c.loop-code.t c.in-Some.code _))

pub returns : goal.returns
unfolding assumed
returns c = sym (c.loop-code.invariant.rest ∙ ap (assumed c.loop-code.t) c.in-None.ensures.steps.0)
