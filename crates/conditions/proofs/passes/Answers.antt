-- `conditions::passes` meets its contract. Assumes nothing.
use mathlib.Core.Path.{sym, ◌∙◌}
use Rattle.loading.proofs.Undone.{both_undone}
use Rattle.conditions.proofs.Answers.{clause_state, propagated_cleared, images_leave, passes_by_images, passes_by_clash}
use Rattle.conditions.proofs.passes.Goals as goal

pub returns-in-Passes : goal.returns-in-Passes
returns-in-Passes c =
    let pre = c.requires in
    let o = clause_state pre.0 c.assume_clause.ensures in record {
      answer = λ s images. passes_by_images pre.0 pre.1.0 pre.1.1 o s images (sym c.in-Passes.is ∙ c.assume_images.ensures.answer);
      table = c.unset_images.ensures
          ∙ both_undone _ pre.0.ready.unset _ _ _ c.assume_clause.ensures _ c.assume_images.ensures.table _ c.unset_clause.ensures;
    }

-- An open clause passes as the propagation says,
-- also where it shares no variable with the new one.
pub returns-in-Open : goal.returns-in-Open
returns-in-Open c =
    let pre = c.requires in
    let o = clause_state pre.0 c.assume_clause.ensures in
    let w = images_leave pre.0 pre.1.0 pre.1.1 o c.assume_images.ensures.table in record {
      answer = λ s images.
          passes_by_clash pre.0 pre.1.0 pre.1.1 o s images (sym c.in-Open.is ∙ c.assume_images.ensures.answer)
          c.assume_images.ensures.table c.propagate-union.ensures;
      table = c.clear_values.ensures ∙ propagated_cleared pre.0 w c.propagate-union.ensures;
    }
