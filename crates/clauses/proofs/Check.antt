-- The checks of a clause in the paper's order, from what the looks for a wrong code and for a variable that stands twice have said.
-- Assumes nothing.
use Prim.Native.Nat.{ℕ, ◌+◌, ◌*◌, ◌≤◌, ◌<◌}
use mathlib.Core.Path.{◌≡◌}
use mathlib.Core.Bool.{true, false, not}
use mathlib.Core.List.{[]}
use native.Mathlib.Omega.{arith}
use Rattle.std.proofs.Common.{Some, None, Ok, Err}
use Rattle.std.specs.List.{position}
use Rattle.paper.specs.declared.Reason.{Reason}
use Rattle.paper.specs.declared.Reason.TheVariants.{FormulaCode}
use Rattle.paper.specs.Atoms.{◌∈◌, Clause}
use Rattle.paper.specs.Files.{ok, bad, ◌>>◌}
use Rattle.paper.specs.Refusals.{no_two, between, check_clause}
use Rattle.paper.proofs.Lists.{leb_within, leb_beyond}
use Rattle.paper.proofs.Reading.{each_then, between_yes}
use Rattle.field.specs.Field.{result_of}
use Rattle.clauses.specs.Check.{variables}
use Rattle.clauses.proofs.Codes.{each_position}

-- a range, by a code's comparisons
module _ (low high x : ℕ) where
  pub between_below : x < low → between low high x ≡ false
  unfolding between
  between_below h = rw (leb_beyond low x h)

  pub between_above : low ≤ x → high < x → between low high x ≡ false
  unfolding between
  between_above h k = rw (leb_within low x h, leb_beyond x high k)

  pub between_within : low ≤ x → x ≤ high → between low high x ≡ true
  unfolding between
  between_within h k = rw (leb_within low x h, leb_within x high k)

module _ (vars : ℕ) (C : Clause) where
  -- the fault, or none: a code out of range comes first
  module _ (range twice : Reason) (p : ℕ) where
    pub range_fault : (k : ℕ) → Some k ≡ position (λ l. not (between 2 (2 * vars + 1) l)) C
        → Err (record { reason = range; place = p + 2 * k }) ≡ result_of (check_clause range twice vars p C)
    unfolding check_clause ◌>>◌ result_of
    range_fault k e = rw (each_position range (between 2 (2 * vars + 1)) p C, ← e)

    module _ (e : None ≡ position (λ l. not (between 2 (2 * vars + 1) l)) C) where
      pub twice_fault : (k : ℕ) → no_two twice [] 2 p (variables C) ≡ bad twice (p + 2 * k)
          → Err (record { reason = twice; place = p + 2 * k }) ≡ result_of (check_clause range twice vars p C)
      unfolding check_clause ◌>>◌ result_of
      twice_fault k q = rw (each_position range (between 2 (2 * vars + 1)) p C, ← e, q)

      pub no_fault : no_two twice [] 2 p (variables C) ≡ ok tt → Ok tt ≡ result_of (check_clause range twice vars p C)
      unfolding check_clause ◌>>◌ result_of
      no_fault q = rw (each_position range (between 2 (2 * vars + 1)) p C, ← e, q)

  pub in_range_small : None ≡ position (λ l. not (between 2 (2 * vars + 1) l)) C → vars ≤ 4095 → (l : ℕ) → l ∈ C → l < 8192
  in_range_small e h l m =
      let all = rw (each_position FormulaCode (between 2 (2 * vars + 1)) 0 C, ← e) at (each_then FormulaCode (between 2 (2 * vars + 1)) 2 0 C) in
      let b = between_yes 2 (2 * vars + 1) l (all l m) in
      omega arith
