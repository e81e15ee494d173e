-- The codes of a payload: the first that fails a test, and those before a place.
-- Assumes nothing.
use Prim.Native.Nat.{ℕ, zero, suc, ◌+◌, ◌*◌}
use mathlib.Core.Path.{◌≡◌, refl, ap}
use mathlib.Core.Bool.{Bool, true, false, not}
use mathlib.Core.List.Memᴰ
use mathlib.Core.List.{List, [], ◌∷◌}
use native.Mathlib.Omega.{arith}
use lib.ListN.{take}
use Rattle.std.proofs.lemmas.Iterator.Adapters.{position_from-zero}
use Rattle.std.specs.List.{position, position_from}
use Rattle.paper.specs.declared.Reason.{Reason}
use Rattle.paper.specs.Atoms.{◌∈◌}
use Rattle.paper.specs.Files.{codes}
use Rattle.paper.specs.Refusals.{each}
use Rattle.clauses.specs.Check.{place_said}

-- what the paper says of a list whose numbers are to pass a test, by the first that fails it
module _ (why : Reason) (good : ℕ → Bool) (p : ℕ) where
  each_from : (k : ℕ) (C : List ℕ) → each why good 2 (p + 2 * k) C ≡ place_said why p (position_from (λ l. not (good l)) k C)
  unfolding each
  each_from k [] = refl
  each_from k (l ∷ C) = go (good l) refl (each_from (k + 1) C)
    where
      next : p + 2 * k + 2 ≡ p + 2 * (k + 1)
      next = omega arith

      go : (b : Bool) → good l ≡ b → each why good 2 (p + 2 * (k + 1)) C ≡ place_said why p (position_from (λ l. not (good l)) (k + 1) C)
          → each why good 2 (p + 2 * k) (l ∷ C) ≡ place_said why p (position_from (λ l. not (good l)) k (l ∷ C))
      go true e later = rw (e, each, next) later
      go false e later = rw (e, each)

  pub each_position : (C : List ℕ) → each why good 2 p C ≡ place_said why p (position (λ l. not (good l)) C)
  each_position C = let same : p + 2 * 0 ≡ p = omega arith in rw (position_from-zero (λ l. not (good l)) C) (rw same at (each_from 0 C))

-- a code of the bytes before a place is one of them all
pub codes_before : (n : ℕ) (xs : List ℕ) (l : ℕ) → l ∈ codes (take n xs) → l ∈ codes xs
unfolding codes
codes_before zero xs l m = elim m [ ]
codes_before (suc n) [] l m = elim m [ ]
codes_before (suc zero) (a ∷ xs) l m = elim m [ ]
codes_before (suc (suc n)) (a ∷ []) l m = elim m [ ]
codes_before (suc (suc n)) (a ∷ b ∷ xs) l (Memᴰ.head e) = Memᴰ.head e
codes_before (suc (suc n)) (a ∷ b ∷ xs) l (Memᴰ.tail m) = Memᴰ.tail (codes_before n xs l m)

-- k codes have 2 k bytes
pub codes_take : (k : ℕ) (xs : List ℕ) → codes (take (2 * k) xs) ≡ take k (codes xs)
unfolding codes
codes_take zero xs = refl
codes_take (suc k) xs = let two_more : 2 * suc k ≡ suc (suc (2 * k)) = omega arith in rw two_more (go xs (codes_take k))
  where
    go : (ys : List ℕ) → ((zs : List ℕ) → codes (take (2 * k) zs) ≡ take k (codes zs)) → codes (take (suc (suc (2 * k))) ys) ≡ take (suc k) (codes ys)
    go [] rest = refl
    go (a ∷ []) rest = refl
    go (a ∷ b ∷ ys) rest = ap (λ (C : List ℕ). (a * 256 + b) ∷ C) (rest ys)
