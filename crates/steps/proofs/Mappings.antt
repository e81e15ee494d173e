-- The check of a witness's mappings: one law for each way that a turn of its loop goes, where a mapping and those behind it are left.
-- Assumes nothing.
use Prim.Native.Nat.{ℕ, ◌+◌, ◌*◌, ◌≤◌, ◌<◌}
use mathlib.Core.Path.{◌≡◌}
use mathlib.Core.Bool.{true, false}
use mathlib.Core.List.{◌∷◌}
use lib.Dec.{leb}
use Rattle.paper.specs.declared.Reason.TheVariants.{ProofCode}
use Rattle.paper.specs.Atoms.{Witness}
use Rattle.paper.specs.Files.{bad, ◌>>◌, need}
use Rattle.paper.specs.Refusals.{between, check_mappings}
use Rattle.paper.proofs.Lists.{leb_within, leb_beyond}

-- a range, by the tests of the code
pub below : (low high x : ℕ) → x < low → false ≡ between low high x
unfolding between
below low high x h = rw (leb_beyond low x h)

pub not_below : (low high x : ℕ) → low ≤ x → leb x high ≡ between low high x
unfolding between
not_below low high x h = rw (leb_within low x h)

module _ (vars p v a : ℕ) {here rest : Witness} (step : here ≡ (v, a) ∷ rest) where
  pub variable_refused : between 1 vars v ≡ false → check_mappings vars p here ≡ bad ProofCode p
  unfolding check_mappings need ◌>>◌
  variable_refused e = rw (step, e)

  module _ (e : between 1 vars v ≡ true) where
    pub atom_refused : 2 * vars + 1 < a → check_mappings vars p here ≡ bad ProofCode (p + 2)
    unfolding check_mappings need ◌>>◌
    atom_refused h = rw (step, e, leb_beyond a (2 * vars + 1) h)

    pub mapping_fine : a ≤ 2 * vars + 1 → check_mappings vars p here ≡ check_mappings vars (p + 4) rest
    unfolding check_mappings need ◌>>◌
    mapping_fine h = rw (step, e, leb_within a (2 * vars + 1) h)
