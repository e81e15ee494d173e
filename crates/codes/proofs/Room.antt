-- A code has two bytes, and a mapping two codes. Assumes nothing.
use Prim.Native.Nat.{ℕ, ◌*◌, ◌≤◌}
use mathlib.Core.List.{List, [], ◌∷◌}
use native.Mathlib.Omega.{arith}
use lib.ListN.{length}
use Rattle.paper.specs.Files.{codes, mappings}

pub codes_room : (xs : List ℕ) → 2 * length (codes xs) ≤ length xs
unfolding codes
codes_room [] = omega arith
codes_room (a ∷ []) = omega arith
codes_room (a ∷ b ∷ xs) = omega (arith, codes_room xs)

pairs_room : (xs : List ℕ) → 2 * length (mappings xs) ≤ length xs
unfolding mappings
pairs_room [] = omega arith
pairs_room (v ∷ []) = omega arith
pairs_room (v ∷ a ∷ xs) = omega (arith, pairs_room xs)

pub mappings_room : (xs : List ℕ) → 4 * length (mappings (codes xs)) ≤ length xs
mappings_room xs = omega (arith, codes_room xs, pairs_room (codes xs))
