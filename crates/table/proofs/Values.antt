-- The values of the variables 0 to vars, as the paper's sweeps read and set them.
-- Assumes nothing.
use Prim.Native.Nat.{ℕ, zero, suc, ◌+◌, ◌*◌, ◌/◌, ◌%◌, ◌<◌, ◌≤◌}
use mathlib.Core.Path.{◌≡◌, refl, sym, ap, ◌∙◌}
use mathlib.Core.List.{List, [], ◌∷◌}
use native.Mathlib.Omega.{arith}
use native.Mathlib.Decide.{ℕ_discrete}
use lib.Dec.{eqb}
use lib.ListN.{length, get_or, set, length-set}
use lib.Seq.{get_or-set_same, get_or-set_other, ext_get_or}
use Rattle.paper.specs.Sweeps.{is_true, put}
use Rattle.table.specs.Table.{value_at, set_value, values_from, values, clear_to}
use Rattle.table.proofs.Laws.{value_same, value_other}

from_length : (t : List ℕ) (v n : ℕ) → length (values_from t v n) ≡ n
unfolding values_from
from_length t v zero = refl
from_length t v (suc n) = ap suc (from_length t (suc v) n)

from_at : (t : List ℕ) (v n i : ℕ) → i < n → get_or (values_from t v n) i 0 ≡ value_at t (v + i)
unfolding values_from
from_at t v zero i h = absurd (omega arith)
from_at t v (suc n) zero h = ap (value_at t) (omega arith)
from_at t v (suc n) (suc i) h =
    let e : suc v + i ≡ v + suc i = omega arith in
    from_at t (suc v) n i (omega arith) ∙ ap (value_at t) e

module _ (vars : ℕ) (t : List ℕ) where
  pub values_length : length (values vars t) ≡ suc vars
  unfolding values
  values_length = from_length t 0 (suc vars)

  pub values_at : {v : ℕ} → v ≤ vars → get_or (values vars t) v 0 ≡ value_at t v
  unfolding values
  values_at {v} h =
      let e : 0 + v ≡ v = omega arith in
      from_at t 0 (suc vars) v (omega arith) ∙ ap (value_at t) e

-- the values are a list of suc vars numbers, known by its elements
pub values_are : (vars : ℕ) (t : List ℕ) (vs : List ℕ) → length vs ≡ suc vars → ((v : ℕ) → v ≤ vars → value_at t v ≡ get_or vs v 0) → values vars t ≡ vs
values_are vars t vs l f =
    let k = values_length vars t in
    ext_get_or 0 (values vars t) vs (k ∙ sym l) (λ v h. let b : v ≤ vars = omega arith in values_at vars t b ∙ f v b)

module _ (vars : ℕ) (t : List ℕ) (v x : ℕ) where
  pub values_put : v ≤ vars → v * 2 < length t → x < 4 → values vars (set_value t v x) ≡ set (values vars t) v x
  values_put b h k =
      values_are vars (set_value t v x) (set (values vars t) v x) (length-set (values vars t) v x ∙ values_length vars t) each
    where
      in_list : v < length (values vars t)
      in_list =
          let l = values_length vars t in
          omega arith

      each : (w : ℕ) → w ≤ vars → value_at (set_value t v x) w ≡ get_or (set (values vars t) v x) w 0
      each w c = go (ℕ_discrete w v)
        where
          go : Dec (w ≡ v) → value_at (set_value t v x) w ≡ get_or (set (values vars t) v x) w 0
          go (yes e) = rw (e, value_same t v x h k) (sym (get_or-set_same (values vars t) v x 0 in_list))
          go (no n) = value_other t v x w n ∙ sym (values_at vars t c) ∙ sym (get_or-set_other (values vars t) v w x 0 n)

module _ (vars : ℕ) (t : List ℕ) (code : ℕ) (b : code / 2 ≤ vars) where
  pub is_true_values : is_true (values vars t) code ≡ eqb (value_at t (code / 2)) (suc (code % 2))
  unfolding is_true
  is_true_values = ap (λ x. eqb x (suc (code % 2))) (values_at vars t b)

  pub put_values : code / 2 * 2 < length t → values vars (set_value t (code / 2) (suc (code % 2))) ≡ put (values vars t) code
  unfolding put
  put_values h = values_put vars t (code / 2) (suc (code % 2)) b h (omega arith)

-- setting a value to 0 leaves 0, also past the table's end
unset : (f : ℕ → ℕ) (t : List ℕ) (i a : ℕ) → f a ≡ 0 → f 0 ≡ 0 → f (get_or (set t i a) i 0) ≡ 0
unset f [] i a p q = q
unset f (y ∷ t) zero a p q = p
unset f (y ∷ t) (suc i) a p q = unset f t i a p q

pub value_unset : (t : List ℕ) (v : ℕ) → value_at (set_value t v 0) v ≡ 0
unfolding value_at set_value
value_unset t v = unset (λ n. n % 4) t (v * 2) (get_or t (v * 2) 0 / 4 * 4 + 0) (omega arith) refl

pub clear_below : (n : ℕ) (t : List ℕ) (v : ℕ) → v < n → value_at (clear_to n t) v ≡ 0
unfolding clear_to
clear_below zero t v h = absurd (omega arith)
clear_below (suc n) t v h = go (ℕ_discrete v n) (clear_below n t v)
  where
    go : Dec (v ≡ n) → (v < n → value_at (clear_to n t) v ≡ 0) → value_at (set_value (clear_to n t) n 0) v ≡ 0
    go (yes e) below = rw e (value_unset (clear_to n t) n)
    go (no ne) below = value_other (clear_to n t) n 0 v ne ∙ below (omega arith)

pub clear_beyond : (n : ℕ) (t : List ℕ) (v : ℕ) → n ≤ v → value_at (clear_to n t) v ≡ value_at t v
unfolding clear_to
clear_beyond zero t v h = refl
clear_beyond (suc n) t v h = value_other (clear_to n t) n 0 v (λ e. omega arith) ∙ clear_beyond n t v (omega arith)
