-- The table of the variables: two bytes for each of 0 to 4,095, with its value and its image under the witness.
use Rattle.std.specs.Prelude.{ℕ, zero, suc, ◌+◌, ◌*◌, ◌/◌, ◌%◌, ◌≡◌, Bool, true, false, List, [], ◌∷◌, eqb, length, get_or, set}
use Rattle.paper.specs.Atoms.{complement}
use Rattle.paper.specs.Sweeps.{Values}

-- the low two bits of the first byte: 0 unset, 1 true, 2 false
unfoldable pub value_at : List ℕ → ℕ → ℕ
value_at t v = get_or t (v * 2) 0 % 4

-- the third bit: the variable is mapped by the witness
unfoldable pub mapped_at : List ℕ → ℕ → Bool
mapped_at t v = eqb (get_or t (v * 2) 0 / 4 % 2) 1

-- the code of the image: its high part is the rest of the first byte, its low part the second; unmapped, the variable itself
unfoldable pub image_at : List ℕ → ℕ → ℕ
image_at t v = elim (mapped_at t v) [ true ↦ get_or t (v * 2) 0 / 8 * 256 + get_or t (v * 2 + 1) 0 | false ↦ 2 * v ]

-- the image of a literal, by that of its variable
unfoldable pub image_of : List ℕ → ℕ → ℕ
image_of t l = elim (eqb (l % 2) 0) [ true ↦ image_at t (l / 2) | false ↦ complement (image_at t (l / 2)) ]

unfoldable pub set_value : List ℕ → ℕ → ℕ → List ℕ
set_value t v x = set t (v * 2) (get_or t (v * 2) 0 / 4 * 4 + x)

-- the variable is mapped to the code; its value is kept
unfoldable pub set_image : List ℕ → ℕ → ℕ → List ℕ
set_image t v code = set (set t (v * 2) (get_or t (v * 2) 0 % 4 + 4 + code / 256 * 8)) (v * 2 + 1) (code % 256)

-- the variable is not mapped, and nothing is left of its image; its value is kept
unfoldable pub clear_image : List ℕ → ℕ → List ℕ
clear_image t v = set (set t (v * 2) (get_or t (v * 2) 0 % 4)) (v * 2 + 1) 0

-- the values of n variables from v on
unfoldable pub values_from : List ℕ → ℕ → ℕ → Values
values_from t v zero = []
values_from t v (suc n) = value_at t v ∷ values_from t (suc v) n

-- the values of the variables 0 to vars
unfoldable pub values : ℕ → List ℕ → Values
values vars t = values_from t 0 (suc vars)

-- the first n variables unset
unfoldable pub clear_to : ℕ → List ℕ → List ℕ
clear_to zero t = t
clear_to (suc n) t = set_value (clear_to n t) n 0

-- the variables 0 to vars unset
unfoldable pub clear_values : ℕ → List ℕ → List ℕ
clear_values vars t = clear_to (suc vars) t

-- every byte is 0
abbrev pub Zero : List ℕ → Type 0
Zero t = (i : ℕ) → get_or t i 0 ≡ 0

-- u is t but for values
pub record Kept (t u : List ℕ) : Type 0 where
  pub long : length u ≡ length t
  pub first : (v : ℕ) → get_or u (v * 2) 0 / 4 ≡ get_or t (v * 2) 0 / 4
  pub second : (v : ℕ) → get_or u (v * 2 + 1) 0 ≡ get_or t (v * 2 + 1) 0
