-- Two tables with the same images, whatever the values; and how clearing the values brings a table back.
-- Assumes nothing.
use Prim.Native.Nat.{ℕ, zero, suc, ◌+◌, ◌*◌, ◌/◌, ◌%◌, ◌<◌}
use mathlib.Core.Path.{◌≡◌, refl, sym, ap, ◌∙◌}
use mathlib.Core.List.{List}
use native.Mathlib.Omega.{arith}
use native.Mathlib.Decide.{ℕ_discrete, dec_lt}
use lib.ListN.{length, get_or, replicate, length-replicate, get_or-replicate, get_or-eq_default}
use lib.Seq.{ext_get_or}
use Rattle.table.specs.Table.{Kept, value_at, image_at, image_of, set_value, clear_to, clear_values, Zero}
use Rattle.table.proofs.Laws.{image_by, image_of_by, length_set_value, first_set_value, second_set_value}
use Rattle.table.proofs.Values.{clear_below, clear_beyond}

pub kept_refl : (t : List ℕ) → Kept t t
kept_refl t = record { long = refl; first = λ v. refl; second = λ v. refl }

pub kept_trans : {t u w : List ℕ} → Kept t u → Kept u w → Kept t w
kept_trans a b = record { long = b.long ∙ a.long; first = λ v. b.first v ∙ a.first v; second = λ v. b.second v ∙ a.second v }

pub kept_set_value : {t u : List ℕ} (v x : ℕ) → x < 4 → Kept t u → Kept t (set_value u v x)
kept_set_value {t} {u} v x h k =
    record {
      long = length_set_value u v x ∙ k.long;
      first = λ w. first_set_value u v x h w ∙ k.first w;
      second = λ w. second_set_value u v x w ∙ k.second w;
    }

pub kept_clear_to : {t u : List ℕ} (n : ℕ) → Kept t u → Kept t (clear_to n u)
unfolding clear_to
kept_clear_to zero k = k
kept_clear_to (suc n) k = kept_set_value n 0 (omega arith) (kept_clear_to n k)

pub kept_image : {t u : List ℕ} → Kept t u → (v : ℕ) → image_at u v ≡ image_at t v
kept_image {t} {u} k v = image_by t u v (k.first v) (k.second v)

pub kept_image_of : {t u : List ℕ} → Kept t u → (l : ℕ) → image_of u l ≡ image_of t l
kept_image_of {t} {u} k l = image_of_by t u l (kept_image k (l / 2))

-- with the same values too, nothing differs
pub same_table : {t u : List ℕ} → Kept t u → ((v : ℕ) → value_at u v ≡ value_at t v) → u ≡ t
unfolding value_at
same_table {t} {u} k f = ext_get_or 0 u t k.long (λ i h. at (i / 2) i (omega arith))
  where
    even : (v : ℕ) → get_or u (v * 2) 0 ≡ get_or t (v * 2) 0
    even v =
        let a = k.first v in
        let b = f v in
        omega arith

    at : (v i : ℕ) → v ≡ i / 2 → get_or u i 0 ≡ get_or t i 0
    at v i e = go (ℕ_discrete (i % 2) 0)
      where
        go : Dec (i % 2 ≡ 0) → get_or u i 0 ≡ get_or t i 0
        go (yes z) =
            let p : i ≡ v * 2 = omega arith in
            ap (λ n. get_or u n 0) p ∙ even v ∙ ap (λ n. get_or t n 0) (sym p)
        go (no z) =
            let p : i ≡ v * 2 + 1 = omega arith in
            ap (λ n. get_or u n 0) p ∙ k.second v ∙ ap (λ n. get_or t n 0) (sym p)

-- and so two tables kept from one differ in nothing if their values do not
pub kept_once : {t u u' : List ℕ} → Kept t u → Kept t u' → ((v : ℕ) → value_at u v ≡ value_at u' v) → u ≡ u'
kept_once k k' f =
    same_table (record {
      long = k.long ∙ sym k'.long;
      first = λ v. k.first v ∙ sym (k'.first v);
      second = λ v. k.second v ∙ sym (k'.second v);
    }) f

-- a table with no value set, after any values of the variables 0 to vars: clearing them brings it back
pub cleared : (vars : ℕ) {t u : List ℕ} → Kept t u → ((v : ℕ) → value_at t v ≡ 0) → ((v : ℕ) → vars < v → value_at u v ≡ 0) → clear_values vars u ≡ t
unfolding clear_values
cleared vars {t} {u} k unset beyond = same_table (kept_clear_to (suc vars) k) each
  where
    each : (v : ℕ) → value_at (clear_to (suc vars) u) v ≡ value_at t v
    each v = go (dec_lt vars v)
      where
        go : Dec (vars < v) → value_at (clear_to (suc vars) u) v ≡ value_at t v
        go (yes h) = clear_beyond (suc vars) u v (omega arith) ∙ beyond v h ∙ sym (unset v)
        go (no h) = clear_below (suc vars) u v (omega arith) ∙ sym (unset v)

-- all zero, in two ways
pub zero_replicate : (t : List ℕ) → Zero t → t ≡ replicate (length t) 0
zero_replicate t z =
    ext_get_or 0 t (replicate (length t) 0) (sym (length-replicate (length t) 0)) (λ i h. z i ∙ sym (get_or-replicate (length t) i 0 0 h))

pub replicate_zero : (n : ℕ) → Zero (replicate n 0)
replicate_zero n i = go (dec_lt i n)
  where
    go : Dec (i < n) → get_or {A = ℕ} (replicate n 0) i 0 ≡ 0
    go (yes h) = get_or-replicate n i 0 0 h
    go (no h) = get_or-eq_default (replicate n 0) 0 (rw length-replicate (omega arith))

-- in a table that is all zero no variable has a value
pub zero_value : (t : List ℕ) → Zero t → (v : ℕ) → value_at t v ≡ 0
unfolding value_at
zero_value t z v = ap (λ n. n % 4) (z (v * 2))
