-- The mappings that are left of a witness, and the variables that it lists.
-- Assumes nothing.
use Prim.Native.Nat.{ℕ, ◌≤◌, ◌<◌}
use mathlib.Core.Path.{◌≡◌, refl, ap}
use mathlib.Core.List.Memᴰ
use mathlib.Core.List.{◌∷◌}
use Rattle.paper.specs.Atoms.{◌∈◌, Witness}
use Rattle.mapping.specs.Mapping.{variables, Fitting}

-- a variable is listed where a mapping of it is
pub listed : {v a : ℕ} {s : Witness} → ◌∈◌ {A = ℕ × ℕ} (v, a) s → v ∈ variables s
listed (Memᴰ.head e) = Memᴰ.head (ap (λ (m : ℕ × ℕ). m.0) e)
listed (Memᴰ.tail m) = Memᴰ.tail (listed m)

-- v is mapped to a, and `more` is left after it
module _ {v a : ℕ} {left more : Witness} (step : ◌≡◌ {A = Witness} left ((v, a) ∷ more)) (fits : Fitting left) where
  pub fits_here : (1 ≤ v) × ((v < 4096) × (a < 8192))
  fits_here = fits v a (rw step (Memᴰ.head refl))

  pub fits_next : Fitting more
  fits_next x b m = fits x b (rw step (Memᴰ.tail m))
