-- `conditions::is_rup` meets its contract. Assumes nothing.
use mathlib.Core.Path.{◌∙◌}
use Rattle.conditions.proofs.Answers.{clause_state, propagated_cleared, clash_decides}
use Rattle.conditions.proofs.is_rup.Goals as goal

pub returns : goal.returns
returns c =
    let o = clause_state c.requires c.assume_clause.ensures in
    record {
      answer = clash_decides c.requires o c.propagate-state.ensures;
      table = c.clear_values.ensures ∙ propagated_cleared c.requires o.within c.propagate-state.ensures;
    }
