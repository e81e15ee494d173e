-- Every table holds the images of some witness, so that what is said of each such witness is never said of none.
-- Assumes nothing.
use Prim.Native.Nat.{ℕ, zero, suc, ◌+◌, ◌*◌, ◌/◌, ◌%◌, ◌≤◌, ◌<◌}
use mathlib.Core.Path.{◌≡◌, refl, sym, ap, ◌∙◌}
use mathlib.Core.Logic.{◌≢◌}
use mathlib.Core.Bool.{true, false}
use mathlib.Core.List.Memᴰ
use mathlib.Core.List.{List, [], ◌∷◌, map}
use native.Mathlib.Omega.{arith}
use native.Mathlib.Decide.{ℕ_discrete, dec_lt}
use lib.Dec.{eqb}
use Rattle.paper.specs.Atoms.{complement, ◌∈◌, Witness}
use Rattle.paper.specs.Conditions.{look, image}
use Rattle.paper.proofs.Lists.{eqb_same, eqb_other}
use Rattle.paper.specs.Valid.{Distinct, Mapping}
use Rattle.table.specs.Table.{image_at, image_of}
use Rattle.table.proofs.Laws.{image_even}
use Rattle.loading.specs.Loading.{Inward, Images}

-- the variables n down to 1, each with the image that the table holds
unfoldable listed : List ℕ → ℕ → Witness
listed t zero = []
listed t (suc n) = (suc n, image_at t (suc n)) ∷ listed t n

look_first : (v a : ℕ) (s : Witness) → look ((suc v, a) ∷ s) (suc v) ≡ a
unfolding look
look_first v a s = rw (eqb_same (suc v) (suc v) refl, look)

look_next : (v a w : ℕ) (s : Witness) → suc v ≢ suc w → look ((suc v, a) ∷ s) (suc w) ≡ look s (suc w)
unfolding look
look_next v a w s n = rw (eqb_other (suc v) (suc w) n, look)

look_none : (v : ℕ) → look [] (suc v) ≡ 2 * suc v
unfolding look
look_none v = refl

-- the witness says of each of its variables what the table holds
look_listed : (t : List ℕ) (n v : ℕ) → v < n → look (listed t n) (suc v) ≡ image_at t (suc v)
unfolding listed
look_listed t zero v h = absurd (omega arith)
look_listed t (suc n) v h = go (ℕ_discrete n v) (look_listed t n v)
  where
    go : Dec (n ≡ v) → (v < n → look (listed t n) (suc v) ≡ image_at t (suc v)) → look ((suc n, image_at t (suc n)) ∷ listed t n) (suc v) ≡ image_at t (suc v)
    go (yes e) below = rw e (look_first v (image_at t (suc v)) (listed t v))
    go (no ne) below = look_next n (image_at t (suc n)) v (listed t n) (omega arith) ∙ below (omega arith)

-- and of no other
look_beyond : (t : List ℕ) (n v : ℕ) → n ≤ v → look (listed t n) (suc v) ≡ 2 * suc v
unfolding listed
look_beyond t zero v h = look_none v
look_beyond t (suc n) v h = look_next n (image_at t (suc n)) v (listed t n) (omega arith) ∙ look_beyond t n v (omega arith)

-- images of literals go by those of their variables
image_by_variable : (t : List ℕ) (s : Witness) (l : ℕ) → look s (l / 2) ≡ image_at t (l / 2) → image_of t l ≡ image s l
unfolding image_of image
image_by_variable t s l e = ap (λ (a : ℕ). elim (eqb (l % 2) 0) [ true ↦ a | false ↦ complement a ]) (sym e)

images_by : (t : List ℕ) (s : Witness) → ((v : ℕ) → v < 4095 → look s (suc v) ≡ image_at t (suc v)) → Images t s
images_by t s f l low high = go (l / 2) refl
  where
    go : (v : ℕ) → l / 2 ≡ v → image_of t l ≡ image s l
    go zero e = absurd (omega arith)
    go (suc v) e = image_by_variable t s l (rw e (f v (omega arith)))

-- 1. Whatever the table.
pub some_witness : (t : List ℕ) → (s : Witness) × Images t s
some_witness t = (listed t 4095, images_by t (listed t 4095) (λ v h. look_listed t 4095 v h))

-- 2. A table whose images lie within the variables 1 to vars: a witness that a WITNESS could list.
listed_variables : (t : List ℕ) (n v a : ℕ) → ◌∈◌ {A = ℕ × ℕ} (v, a) (listed t n) → (1 ≤ v) × (v ≤ n) × (a ≡ image_at t v)
unfolding listed
listed_variables t zero v a m = elim m [ ]
listed_variables t (suc n) v a (Memᴰ.head e) =
    let p : v ≡ suc n = ap (λ (m : ℕ × ℕ). m.0) e in
    (omega arith, omega arith, ap (λ (m : ℕ × ℕ). m.1) e ∙ ap (image_at t) (sym p))
listed_variables t (suc n) v a (Memᴰ.tail m) =
    let r = listed_variables t n v a m in
    (r.0, omega (arith, r.1), r.2)

named_below : (t : List ℕ) (n v : ℕ) → v ∈ map (λ (m : ℕ × ℕ). m.0) (listed t n) → v ≤ n
unfolding listed
named_below t zero v m = elim m [ ]
named_below t (suc n) v (Memᴰ.head e) = omega arith
named_below t (suc n) v (Memᴰ.tail m) = let h = named_below t n v m in omega arith

listed_once : (t : List ℕ) (n : ℕ) → Distinct (map (λ (m : ℕ × ℕ). m.0) (listed t n))
unfolding listed
listed_once t zero = tt
listed_once t (suc n) = (λ m. let h = named_below t n (suc n) m in absurd (omega arith), listed_once t n)

module _ (vars : ℕ) (t : List ℕ) (inward : Inward vars t) where
  within : (v : ℕ) → 1 ≤ v → v ≤ vars → image_at t v ≤ 2 * vars + 1
  within v low high =
      let i = inward (2 * v) (omega arith) (omega arith) in
      let h : 2 * v / 2 ≡ v = omega arith in
      let e : image_of t (2 * v) ≡ image_at t v = image_even t (2 * v) (omega arith) ∙ ap (image_at t) h in
      omega arith

  listed_mapping : Mapping vars (listed t vars)
  listed_mapping =
      record {
        variables = λ v a m. let r = listed_variables t vars v a m in (r.0, r.1);
        atoms = λ v a m. let r = listed_variables t vars v a m in omega (arith, within v r.0 r.1, r.2);
        once = listed_once t vars;
      }

  listed_images : ((v : ℕ) → vars < v → v ≤ 4095 → image_at t v ≡ 2 * v) → Images t (listed t vars)
  listed_images own = images_by t (listed t vars) (λ v h. go v h (dec_lt v vars))
    where
      go : (v : ℕ) → v < 4095 → Dec (v < vars) → look (listed t vars) (suc v) ≡ image_at t (suc v)
      go v h (yes k) = look_listed t vars v k
      go v h (no k) = look_beyond t vars v (omega arith) ∙ sym (own (suc v) (omega arith) (omega arith))

  pub some_mapping : ((v : ℕ) → vars < v → v ≤ 4095 → image_at t v ≡ 2 * v) → (s : Witness) × (Mapping vars s × Images t s)
  some_mapping own = (listed t vars, (listed_mapping, listed_images own))
