-- The first code and the first mapping of a payload, and those behind it. Assumes nothing.
use Prim.Native.Nat.{ℕ, zero, suc, ◌+◌, ◌*◌, ◌-◌, ◌/◌, ◌≤◌, ◌<◌}
use mathlib.Core.Path.{◌≡◌, refl, sym, ap, ◌∙◌}
use mathlib.Core.List.{List, [], ◌∷◌, ◌++◌}
use native.Mathlib.Omega.{arith}
use native.Mathlib.Numerals.{unary_clauses}
use lib.ListN.{length, take, drop}
use Rattle.std.proofs.lemmas.List.{take_rest}
use Rattle.std.proofs.Common.{length-append, ◌≢◌}
use Rattle.paper.specs.Files.{two, codes, mappings}
use Rattle.paper.proofs.Scan.{codes_end, next_code, codes_next}

pub no_mapping : (xs : List ℕ) → length xs < 4 → mappings (codes xs) ≡ []
unfolding mappings codes
no_mapping [] h = refl
no_mapping (a ∷ []) h = refl
no_mapping (a ∷ b ∷ []) h = refl
no_mapping (a ∷ b ∷ c ∷ []) h = refl
no_mapping (a ∷ b ∷ c ∷ d ∷ xs) h = absurd (omega arith)

module _ (xs : List ℕ) where
  pub no_code : length xs < 2 → codes xs ≡ []
  no_code h = codes_end xs 0 (omega arith)

  pub first_code : (l : ℕ) → 2 ≤ length xs → l ≡ two xs 0 → codes xs ≡ l ∷ codes (take (length xs - 2) (drop 2 xs))
  first_code l h e = next_code xs 0 l (omega arith) e ∙ ap (λ (ys : List ℕ). l ∷ codes ys) (sym (take_rest xs 2))

  pub fewer_codes : 2 ≤ length xs → length (codes (take (length xs - 2) (drop 2 xs))) < length (codes xs)
  fewer_codes h = rw (first_code (two xs 0) h refl) (omega arith)

  pub first_mapping : (v l : ℕ) → 4 ≤ length xs → v ≡ two xs 0 → l ≡ two xs 2
      → mappings (codes xs) ≡ (v, l) ∷ mappings (codes (take (length xs - 4) (drop 4 xs)))
  unfolding mappings
  first_mapping v l h e f = rw (take_rest xs 4, e, f) (ap mappings (codes_next xs 0 (omega arith) ∙ ap (λ (ys : List ℕ). two xs 0 ∷ ys) (codes_next xs 2 (omega arith))))

  pub fewer_mappings : 4 ≤ length xs → length (mappings (codes (take (length xs - 4) (drop 4 xs)))) < length (mappings (codes xs))
  fewer_mappings h = rw (first_mapping (two xs 0) (two xs 2) h refl refl) (omega arith)

-- the last of k + 1 codes, and those before it
last_of : (xs : List ℕ) (k : ℕ) → length xs / 2 ≡ suc k → codes xs ≡ codes (take (2 * k) xs) ++ two xs (2 * k) ∷ []
unfolding codes two
last_of [] k h = absurd (omega arith)
last_of (a ∷ []) k h = absurd (omega arith)
last_of (a ∷ b ∷ xs) zero h = ap (λ (ys : List ℕ). (a * 256 + b) ∷ ys) (no_code xs (omega arith))
last_of (a ∷ b ∷ xs) (suc k) h = simp unary_clauses (ap (λ (ys : List ℕ). (a * 256 + b) ∷ ys) (simp unary_clauses at (last_of xs k (omega arith))))

module _ (xs : List ℕ) (h : length xs / 2 ≢ 0) where
  pub last_code : (l : ℕ) → l ≡ two xs (2 * (length xs / 2 - 1)) → codes xs ≡ codes (take (2 * (length xs / 2 - 1)) xs) ++ l ∷ []
  last_code l e = rw e (last_of xs (length xs / 2 - 1) (omega arith))

  pub fewer_before : length (codes (take (2 * (length xs / 2 - 1)) xs)) < length (codes xs)
  fewer_before = rw (last_code (two xs (2 * (length xs / 2 - 1))) refl) (simp length-append (omega arith))
