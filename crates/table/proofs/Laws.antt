-- What a reading of the table finds after a writing: the written thing at the written variable, all else as before.
-- Assumes nothing.
use Prim.Native.Nat.{ℕ, zero, suc, ◌+◌, ◌*◌, ◌/◌, ◌%◌, ◌<◌}
use mathlib.Core.Path.{◌≡◌, refl, sym, ap, ◌∙◌}
use mathlib.Core.Bool.{Bool, true, false}
use mathlib.Core.Logic.{◌≢◌}
use mathlib.Core.List.{List, [], ◌∷◌}
use native.Mathlib.Omega.{arith}
use borrow.Author.Tests.{eq-eqb, ne_eqb}
use lib.Dec.{eqb}
use lib.ListN.{length, get_or, set, length-set}
use lib.Seq.{get_or-set_same, get_or-set_other}
use Rattle.paper.specs.Atoms.{complement}
use Rattle.table.specs.Table.{value_at, mapped_at, image_at, image_of, set_value, set_image, clear_image}

-- the image by its cases
pub image_mapped : (t : List ℕ) (v : ℕ) → mapped_at t v ≡ true → image_at t v ≡ get_or t (v * 2) 0 / 8 * 256 + get_or t (v * 2 + 1) 0
unfolding image_at
image_mapped t v e = rw (e, image_at)

pub image_unmapped : (t : List ℕ) (v : ℕ) → mapped_at t v ≡ false → image_at t v ≡ 2 * v
unfolding image_at
image_unmapped t v e = rw (e, image_at)

pub image_even : (t : List ℕ) (l : ℕ) → l % 2 ≡ 0 → image_of t l ≡ image_at t (l / 2)
unfolding image_of
image_even t l e = rw (eq-eqb _ _ e, image_of)

pub image_odd : (t : List ℕ) (l : ℕ) → l % 2 ≢ 0 → image_of t l ≡ complement (image_at t (l / 2))
unfolding image_of
image_odd t l n = rw (ne_eqb _ _ n, image_of)

-- the image goes by three things: whether it is mapped, the rest of the first byte, and the second byte
pub image_by : (t u : List ℕ) (w : ℕ) → get_or u (w * 2) 0 / 4 ≡ get_or t (w * 2) 0 / 4 → get_or u (w * 2 + 1) 0 ≡ get_or t (w * 2 + 1) 0
    → image_at u w ≡ image_at t w
unfolding mapped_at
image_by t u w a b = go (mapped_at t w) refl
  where
    m : mapped_at u w ≡ mapped_at t w
    m = ap (λ n. eqb (n % 2) 1) a

    go : (s : Bool) → mapped_at t w ≡ s → image_at u w ≡ image_at t w
    go true e =
        let p = image_mapped t w e in
        let q = image_mapped u w (m ∙ e) in
        omega arith
    go false e = image_unmapped u w (m ∙ e) ∙ sym (image_unmapped t w e)

-- the image of a literal goes by that of its variable
pub image_of_by : (t u : List ℕ) (l : ℕ) → image_at u (l / 2) ≡ image_at t (l / 2) → image_of u l ≡ image_of t l
unfolding image_of
image_of_by t u l e = ap (λ n. elim (eqb (l % 2) 0) [ true ↦ n | false ↦ complement n ]) e

-- a store that f cannot tell from what stood there changes f of no element
kept : (f : ℕ → ℕ) (t : List ℕ) (i j a : ℕ) → f a ≡ f (get_or t i 0) → f (get_or (set t i a) j 0) ≡ f (get_or t j 0)
kept f [] i j a h = refl
kept f (y ∷ t) zero zero a h = h
kept f (y ∷ t) zero (suc j) a h = refl
kept f (y ∷ t) (suc i) zero a h = refl
kept f (y ∷ t) (suc i) (suc j) a h = kept f t i j a h

-- the two places of two variables are four, and two of them are the same only where the variables are
even_other : (v w : ℕ) → w ≢ v → w * 2 ≢ v * 2
even_other v w n e = n (omega arith)

odd_other : (v w : ℕ) → w ≢ v → w * 2 + 1 ≢ v * 2 + 1
odd_other v w n e = n (omega arith)

even_odd : (v w : ℕ) → w * 2 ≢ v * 2 + 1
even_odd v w e = omega arith

odd_even : (v w : ℕ) → w * 2 + 1 ≢ v * 2
odd_even v w e = omega arith

-- a and b stored in the two bytes of v
module _ (t : List ℕ) (v a b : ℕ) where
  first_at : v * 2 < length t → get_or (set (set t (v * 2) a) (v * 2 + 1) b) (v * 2) 0 ≡ a
  first_at h =
      let m = even_odd v v in
      simp (get_or-set_other, get_or-set_same)

  second_at : v * 2 + 1 < length t → get_or (set (set t (v * 2) a) (v * 2 + 1) b) (v * 2 + 1) 0 ≡ b
  second_at h =
      let k : v * 2 + 1 < length (set t (v * 2) a) = simp length-set h in
      rw get_or-set_same

  first_of_other : (w : ℕ) → w ≢ v → get_or (set (set t (v * 2) a) (v * 2 + 1) b) (w * 2) 0 ≡ get_or t (w * 2) 0
  first_of_other w n =
      let m = even_odd v w in
      let k = even_other v w n in
      simp get_or-set_other

  second_of_other : (w : ℕ) → w ≢ v → get_or (set (set t (v * 2) a) (v * 2 + 1) b) (w * 2 + 1) 0 ≡ get_or t (w * 2 + 1) 0
  second_of_other w n =
      let m = odd_even v w in
      let k = odd_other v w n in
      simp get_or-set_other

  value_of_all : a % 4 ≡ get_or t (v * 2) 0 % 4 → (w : ℕ) → get_or (set (set t (v * 2) a) (v * 2 + 1) b) (w * 2) 0 % 4 ≡ get_or t (w * 2) 0 % 4
  value_of_all e w =
      let m = even_odd v w in
      rw get_or-set_other (kept (λ n. n % 4) t (v * 2) (w * 2) a e)

module _ (t : List ℕ) (v x : ℕ) where
  pub length_set_value : length (set_value t v x) ≡ length t
  unfolding set_value
  length_set_value = simp length-set

  pub value_same : v * 2 < length t → x < 4 → value_at (set_value t v x) v ≡ x
  unfolding set_value value_at
  value_same h k = rw get_or-set_same (omega arith)

  pub value_other : (w : ℕ) → w ≢ v → value_at (set_value t v x) w ≡ value_at t w
  unfolding set_value value_at
  value_other w n =
      let m = even_other v w n in
      rw get_or-set_other

  -- a value of two bits leaves the rest of the first byte, and the second
  pub first_set_value : x < 4 → (w : ℕ) → get_or (set_value t v x) (w * 2) 0 / 4 ≡ get_or t (w * 2) 0 / 4
  unfolding set_value
  first_set_value k w = kept (λ n. n / 4) t (v * 2) (w * 2) _ (omega arith)

  pub second_set_value : (w : ℕ) → get_or (set_value t v x) (w * 2 + 1) 0 ≡ get_or t (w * 2 + 1) 0
  unfolding set_value
  second_set_value w =
      let m = odd_even v w in
      rw get_or-set_other

  pub length_set_image : length (set_image t v x) ≡ length t
  unfolding set_image
  length_set_image = simp length-set

  pub first_set_image : v * 2 < length t → get_or (set_image t v x) (v * 2) 0 ≡ get_or t (v * 2) 0 % 4 + 4 + x / 256 * 8
  unfolding set_image
  first_set_image h = first_at t v (get_or t (v * 2) 0 % 4 + 4 + x / 256 * 8) (x % 256) h

  pub second_set_image : v * 2 + 1 < length t → get_or (set_image t v x) (v * 2 + 1) 0 ≡ x % 256
  unfolding set_image
  second_set_image h = second_at t v (get_or t (v * 2) 0 % 4 + 4 + x / 256 * 8) (x % 256) h

  -- both bytes of another variable
  pub first_set_image_other : (w : ℕ) → w ≢ v → get_or (set_image t v x) (w * 2) 0 ≡ get_or t (w * 2) 0
  unfolding set_image
  first_set_image_other w n = first_of_other t v (get_or t (v * 2) 0 % 4 + 4 + x / 256 * 8) (x % 256) w n

  pub second_set_image_other : (w : ℕ) → w ≢ v → get_or (set_image t v x) (w * 2 + 1) 0 ≡ get_or t (w * 2 + 1) 0
  unfolding set_image
  second_set_image_other w n = second_of_other t v (get_or t (v * 2) 0 % 4 + 4 + x / 256 * 8) (x % 256) w n

  pub mapped_same : v * 2 < length t → mapped_at (set_image t v x) v ≡ true
  unfolding mapped_at
  mapped_same h =
      let e = first_set_image h in
      eq-eqb (get_or (set_image t v x) (v * 2) 0 / 4 % 2) 1 (omega arith)

  pub mapped_other : (w : ℕ) → w ≢ v → mapped_at (set_image t v x) w ≡ mapped_at t w
  unfolding mapped_at
  mapped_other w n = ap (λ b. eqb (b / 4 % 2) 1) (first_set_image_other w n)

  pub image_same : v * 2 + 1 < length t → image_at (set_image t v x) v ≡ x
  image_same h =
      let h0 : v * 2 < length t = omega arith in
      let m = image_mapped (set_image t v x) v (mapped_same h0) in
      let a = first_set_image h0 in
      let b = second_set_image h in
      omega arith

  pub image_other : (w : ℕ) → w ≢ v → image_at (set_image t v x) w ≡ image_at t w
  image_other w n = image_by t (set_image t v x) w (ap (λ b. b / 4) (first_set_image_other w n)) (second_set_image_other w n)

  pub value_set_image : (w : ℕ) → value_at (set_image t v x) w ≡ value_at t w
  unfolding set_image value_at
  value_set_image w = value_of_all t v (get_or t (v * 2) 0 % 4 + 4 + x / 256 * 8) (x % 256) (omega arith) w

module _ (t : List ℕ) (v : ℕ) where
  pub length_clear_image : length (clear_image t v) ≡ length t
  unfolding clear_image
  length_clear_image = simp length-set

  pub first_clear_image : v * 2 < length t → get_or (clear_image t v) (v * 2) 0 ≡ get_or t (v * 2) 0 % 4
  unfolding clear_image
  first_clear_image h = first_at t v (get_or t (v * 2) 0 % 4) (0) h

  pub second_clear_image : v * 2 + 1 < length t → get_or (clear_image t v) (v * 2 + 1) 0 ≡ 0
  unfolding clear_image
  second_clear_image h = second_at t v (get_or t (v * 2) 0 % 4) (0) h

  pub first_clear_image_other : (w : ℕ) → w ≢ v → get_or (clear_image t v) (w * 2) 0 ≡ get_or t (w * 2) 0
  unfolding clear_image
  first_clear_image_other w n = first_of_other t v (get_or t (v * 2) 0 % 4) (0) w n

  pub second_clear_image_other : (w : ℕ) → w ≢ v → get_or (clear_image t v) (w * 2 + 1) 0 ≡ get_or t (w * 2 + 1) 0
  unfolding clear_image
  second_clear_image_other w n = second_of_other t v (get_or t (v * 2) 0 % 4) (0) w n

  pub value_clear_image : (w : ℕ) → value_at (clear_image t v) w ≡ value_at t w
  unfolding clear_image value_at
  value_clear_image w = value_of_all t v (get_or t (v * 2) 0 % 4) (0) (omega arith) w
