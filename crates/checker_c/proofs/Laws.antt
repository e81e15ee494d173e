-- The order in which the four numbers are told.
-- Assumes nothing.
use mathlib.Core.Path.{◌≡◌, refl}
use mathlib.Core.List.{[], ◌∷◌}
use Rattle.paper.specs.declared.Reason.TheVariants.{NumberNotLive}
use Rattle.paper.specs.declared.Verdict.TheVariants.{Refuted, Held}
use Rattle.paper.specs.Answers.{verdict_numbers, refused}
use Rattle.checker_c.specs.Told.{listed}

-- "verdict .., reason (0 unless refused), step, place (0 unless refused)": what a caller is told of cases I, A and K
pub told_in_order : (listed (verdict_numbers (Refuted 1)) ≡ 0 ∷ 0 ∷ 1 ∷ 0 ∷ []) × (listed (verdict_numbers (Held 1)) ≡ 1 ∷ 0 ∷ 1 ∷ 0 ∷ [])
    × (listed (verdict_numbers (refused NumberNotLive 2 8)) ≡ 2 ∷ 11 ∷ 2 ∷ 8 ∷ [])
told_in_order = (refl, refl, refl)
