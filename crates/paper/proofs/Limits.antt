-- Reason 4 from both sides, over the reasons that the reading of a formula gives (`Rules.reads_formula`).
-- Assumes nothing.
use Prim.Native.Nat.{◌<◌}
use mathlib.Core.Path.{◌≡◌, refl, subst}
use mathlib.Core.Logic.{◌⊎◌, ◌↔◌}
use Rattle.paper.specs.declared.Reason.TheVariants.{FormulaField, OverLimit}
use Rattle.paper.specs.declared.Extent.{Extent}
use Rattle.paper.specs.Files.{File, ok, bad, ◌>>=◌, ◌>>◌, need, two, field, four}
use Rattle.paper.specs.Refusals.{read_formula}
use Rattle.paper.proofs.Reading.{Reads}
use Rattle.paper.proofs.Rules.{OfLimits, over_limit, reads_formula}

-- A HEAD that is read: V stands at 3, m at 5.
module _ (f : File) (e : Extent) (head : field FormulaField 0x01 four f 0 ≡ ok e) where
  -- 4, "V or m over its limit": exactly there, whatever follows HEAD
  pub limits_exactly : (read_formula f ≡ bad OverLimit 0) ↔ ((4095 < two f 3) ⊎ (16383 < two f 5))
  unfolding read_formula need ◌>>=◌ ◌>>◌
  limits_exactly =
      ((λ h. subst (Reads (λ _. Unit {0}) (OfLimits f)) h (reads_formula f) refl), λ h. rw (head, ◌>>=◌, (over_limit (two f 3) (two f 5) 4095 16383).1 h))
