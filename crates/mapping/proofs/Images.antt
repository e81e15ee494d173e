-- The table with a witness loaded: each image is the paper's, every value is kept, and unloading brings the table back.
-- Assumes nothing.
use Prim.Native.Nat.{ℕ, zero, suc, ◌+◌, ◌*◌, ◌/◌, ◌%◌, ◌<◌, ◌≤◌}
use mathlib.Core.Path.{◌≡◌, refl, sym, ap, subst, ◌∙◌}
use mathlib.Core.Logic.{◌≢◌}
use mathlib.Core.Bool.{Bool, true, false, ◌&&◌, ◌||◌}
use mathlib.Core.List.Memᴰ
use mathlib.Core.List.{List, [], ◌∷◌}
use native.Mathlib.Omega.{arith}
use native.Mathlib.Decide.{ℕ_discrete}
use borrow.Author.Tests.{eq-eqb, ne_eqb}
use lib.Dec.{eqb, leb}
use lib.ListN.{length}
use Rattle.std.specs.Prelude.{Ok}
use Rattle.std.proofs.Math.Bool.{or-true}
use Rattle.paper.specs.declared.Reason.{Reason}
use Rattle.paper.specs.declared.Reason.TheVariants.{ProofCode, ProofTwice}
use Rattle.paper.specs.Atoms.{complement, ◌∈◌, Witness}
use Rattle.paper.specs.Files.{Read, ok, bad, ◌>>◌, need}
use Rattle.paper.specs.Conditions.{look, image, is_in}
use Rattle.paper.specs.Refusals.{no_two, between, check_mappings}
use Rattle.paper.specs.Valid.{Distinct}
use Rattle.paper.proofs.Lists.{and_yes, or_no, leb_yes, eqb_no}
use Rattle.table.specs.Table.{Kept, value_at, mapped_at, image_at, image_of, set_image, Zero}
use Rattle.table.proofs.Laws.{length_set_image, image_unmapped, image_same, image_other, mapped_same, mapped_other, value_set_image}
use Rattle.table.proofs.Kept.{kept_refl, same_table}
use Rattle.mapping.specs.Mapping.{variables, Fitting, Bare, loaded, unloaded, said_by}
use Rattle.mapping.proofs.Unloading.{Apart, unload_back, unload_value}
use Rattle.mapping.proofs.Loading.{bare_mapped, apart_set}

-- mappings that the paper's test lets pass fit the table
pub fitting : (vars p : ℕ) (s : Witness) → vars ≤ 4095 → check_mappings vars p s ≡ ok tt → Fitting s
unfolding check_mappings between need ◌>>◌
fitting vars p [] h e v a m = elim m [ ]
fitting vars p (m ∷ s) h e v a q = go (leb 1 m.0 && leb m.0 vars) refl (leb m.1 (2 * vars + 1)) refl e (fitting vars (p + 4) s h) q
  where
    here : (leb 1 m.0 && leb m.0 vars) ≡ true → leb m.1 (2 * vars + 1) ≡ true → (1 ≤ m.0) × ((m.0 < 4096) × (m.1 < 8192))
    here x y =
        let k = and_yes (leb 1 m.0) (leb m.0 vars) x in
        let b = leb_yes 1 m.0 k.0 in
        let c = leb_yes m.0 vars k.1 in
        let d = leb_yes m.1 (2 * vars + 1) y in
        (b, (omega arith, omega arith))

    go : (x : Bool) → (leb 1 m.0 && leb m.0 vars) ≡ x → (y : Bool) → leb m.1 (2 * vars + 1) ≡ y
        → ◌≡◌ {A = Read (Unit {0})} (need x ProofCode p >> (need y ProofCode (p + 2) >> check_mappings vars (p + 4) s)) (ok tt)
        → (check_mappings vars (p + 4) s ≡ ok tt → Fitting s) → ◌∈◌ {A = ℕ × ℕ} (v, a) (m ∷ s) → (1 ≤ v) × ((v < 4096) × (a < 8192))
    go false f y g e below q = let z : ◌≡◌ {A = ℕ} 0 1 = cc in absurd (omega arith)
    go true f false g e below q = let z : ◌≡◌ {A = ℕ} 0 1 = cc in absurd (omega arith)
    go true f true g e below (Memᴰ.head r) =
        let k = here f g in
        let v0 : v ≡ m.0 = ap (λ (n : ℕ × ℕ). n.0) r in
        let a0 : a ≡ m.1 = ap (λ (n : ℕ × ℕ). n.1) r in
        (omega arith, (omega arith, omega arith))
    go true f true g e below (Memᴰ.tail r) = below e v a r

-- a table that is all zero has no image
pub zero_bare : (t : List ℕ) → Zero t → Bare t
zero_bare t z v =
    let e = z (v * 2) in
    (omega arith, z (v * 2 + 1))

pub bare_image : (t : List ℕ) → Bare t → (v : ℕ) → image_at t v ≡ 2 * v
bare_image t bare v = image_unmapped t v (bare_mapped t bare v)

pub loaded_length : (s : Witness) (t : List ℕ) → length (loaded t s) ≡ length t
unfolding loaded
loaded_length [] t = refl
loaded_length (m ∷ s) t = loaded_length s (set_image t m.0 m.1) ∙ length_set_image t m.0 m.1

pub loaded_value : (s : Witness) (t : List ℕ) (v : ℕ) → value_at (loaded t s) v ≡ value_at t v
unfolding loaded
loaded_value [] t v = refl
loaded_value (m ∷ s) t v = loaded_value s (set_image t m.0 m.1) v ∙ value_set_image t m.0 m.1 v

-- each variable once, where the paper's test says so
pub no_two_distinct : (why : Reason) (u : ℕ) (xs seen : List ℕ) (p : ℕ) → no_two why seen u p xs ≡ ok tt
    → (Distinct xs) × ((x : ℕ) → x ∈ xs → is_in x seen ≡ false)
unfolding no_two is_in
no_two_distinct why u [] seen p e = (tt, λ x m. elim m [ ])
no_two_distinct why u (y ∷ xs) seen p e = go (is_in y seen) refl e (no_two_distinct why u xs (y ∷ seen) (p + u))
  where
    go : (b : Bool) → is_in y seen ≡ b
        → ◌≡◌ {A = Read (Unit {0})} (elim b [ true ↦ bad why p | false ↦ no_two why (y ∷ seen) u (p + u) xs ]) (ok tt)
        → (no_two why (y ∷ seen) u (p + u) xs ≡ ok tt → (Distinct xs) × ((x : ℕ) → x ∈ xs → (eqb x y || is_in x seen) ≡ false))
        → (Distinct (y ∷ xs)) × ((x : ℕ) → x ∈ y ∷ xs → is_in x seen ≡ false)
    go true q e below = let z : ◌≡◌ {A = ℕ} 0 1 = cc in absurd (omega arith)
    go false q e below = ((apart, r.0), other)
      where
        r : (Distinct xs) × ((x : ℕ) → x ∈ xs → (eqb x y || is_in x seen) ≡ false)
        r = below e

        apart : ¬ (y ∈ xs)
        apart m = eqb_no y y (or_no (eqb y y) (is_in y seen) (r.1 y m)).0 refl

        other : (x : ℕ) → x ∈ y ∷ xs → is_in x seen ≡ false
        other x (Memᴰ.head p) = ap (λ a. is_in a seen) p ∙ q
        other x (Memᴰ.tail m) = (or_no (eqb x y) (is_in x seen) (r.1 x m)).1

-- the answer `Ok`, as a fact of the witness
pub once_distinct : (s : Witness) → ((why : Reason) (p : ℕ) → no_two why [] 4 p (variables s) ≡ said_by why p (Ok tt)) → Distinct (variables s)
unfolding said_by
once_distinct s f = (no_two_distinct ProofTwice 4 (variables s) [] 0 (f ProofTwice 0)).0

module _ (m : ℕ × ℕ) (s : Witness) where
  look_here : (v : ℕ) → 1 ≤ v → m.0 ≡ v → look (m ∷ s) v ≡ m.1
  unfolding look
  look_here zero h e = absurd (omega arith)
  look_here (suc v) h e = rw (eq-eqb m.0 (suc v) e, look)

  look_past : (v : ℕ) → m.0 ≢ v → look (m ∷ s) v ≡ look s v
  unfolding look
  look_past zero n = refl
  look_past (suc v) n = rw (ne_eqb m.0 (suc v) n, look)

look_none : (v : ℕ) → look [] v ≡ 2 * v
unfolding look
look_none zero = refl
look_none (suc v) = refl

unlisted : (s : Witness) (t : List ℕ) (v : ℕ) → ¬ (v ∈ variables s) → image_at (loaded t s) v ≡ image_at t v
unfolding loaded
unlisted [] t v n = refl
unlisted (m ∷ s) t v n =
    unlisted s (set_image t m.0 m.1) v (λ q. n (Memᴰ.tail q)) ∙ image_other t m.0 m.1 v (λ e. n (Memᴰ.head e))

images : (s : Witness) (t : List ℕ) (v : ℕ) → 8192 ≤ length t → Fitting s → Distinct (variables s) → image_at t v ≡ 2 * v
    → image_at (loaded t s) v ≡ look s v
unfolding loaded
images [] t v l fits d e = e ∙ sym (look_none v)
images (m ∷ s) t v l fits d e =
    go (ℕ_discrete v m.0) (λ q. images s (set_image t m.0 m.1) v (rw length_set_image l) (λ w a k. fits w a (Memᴰ.tail k)) d.1 q)
  where
    f : (1 ≤ m.0) × ((m.0 < 4096) × (m.1 < 8192))
    f = fits m.0 m.1 (Memᴰ.head refl)

    in_table : m.0 * 2 + 1 < length t
    in_table =
        let b = f.1.0 in
        omega arith

    go : Dec (v ≡ m.0) → (image_at (set_image t m.0 m.1) v ≡ 2 * v → image_at (loaded (set_image t m.0 m.1) s) v ≡ look s v)
        → image_at (loaded (set_image t m.0 m.1) s) v ≡ look (m ∷ s) v
    go (yes p) below =
        let h : 1 ≤ v = omega (arith, f.0) in
        unlisted s (set_image t m.0 m.1) v (subst (λ (x : ℕ). ¬ (x ∈ variables s)) (sym p) d.0)
        ∙ ap (image_at (set_image t m.0 m.1)) p
        ∙ image_same t m.0 m.1 in_table
        ∙ sym (look_here m s v h (sym p))
    go (no n) below = below (image_other t m.0 m.1 v n ∙ e) ∙ sym (look_past m s v (λ p. n (sym p)))

mapped : (s : Witness) (t : List ℕ) (v : ℕ) → 8192 ≤ length t → Fitting s → mapped_at (loaded t s) v ≡ (is_in v (variables s) || mapped_at t v)
unfolding loaded is_in
mapped [] t v l fits = refl
mapped (m ∷ s) t v l fits =
    mapped s (set_image t m.0 m.1) v (rw length_set_image l) (λ w a k. fits w a (Memᴰ.tail k)) ∙ go (ℕ_discrete v m.0) (is_in v (variables s))
  where
    in_table : m.0 * 2 < length t
    in_table =
        let f = fits m.0 m.1 (Memᴰ.head refl) in
        omega arith

    go : Dec (v ≡ m.0) → (b : Bool) → (b || mapped_at (set_image t m.0 m.1) v) ≡ (eqb v m.0 || b || mapped_at t v)
    go (yes e) b =
        ap (λ c. b || c) (ap (mapped_at (set_image t m.0 m.1)) e ∙ mapped_same t m.0 m.1 in_table)
        ∙ or-true b
        ∙ sym (ap (λ c. c || b || mapped_at t v) (eq-eqb v m.0 e))
    go (no n) b = ap (λ c. b || c) (mapped_other t m.0 m.1 v n) ∙ sym (ap (λ c. c || b || mapped_at t v) (ne_eqb v m.0 n))

apart_refl : (s : Witness) (t : List ℕ) → Apart s t t
apart_refl s t = record { long = refl; first = λ v n. refl; second = λ v n. refl }

apart_kept : (s : Witness) (t u w : List ℕ) → Kept u w → Apart s t u → Apart s t w
apart_kept s t u w k a =
    record { long = k.long ∙ a.long; first = λ v n. k.first v ∙ a.first v n; second = λ v n. k.second v ∙ a.second v n }

-- loading mappings of variables that s lists
apart_loaded : (r s : Witness) (t u : List ℕ) → ((v : ℕ) → v ∈ variables r → v ∈ variables s) → Apart s t u → Apart s t (loaded u r)
unfolding loaded
apart_loaded [] s t u sub a = a
apart_loaded (m ∷ r) s t u sub a =
    apart_loaded r s t (set_image u m.0 m.1) (λ v q. sub v (Memᴰ.tail q)) (apart_set s t u m.0 m.1 (sub m.0 (Memᴰ.head refl)) a)

module _ (s : Witness) (t : List ℕ) (long : 8192 ≤ length t) (fits : Fitting s) (bare : Bare t) where
  -- the image of each variable is what the witness says of it
  pub loaded_image : Distinct (variables s) → (v : ℕ) → image_at (loaded t s) v ≡ look s v
  loaded_image d v = images s t v long fits d (bare_image t bare v)

  pub loaded_image_of : Distinct (variables s) → (l : ℕ) → image_of (loaded t s) l ≡ image s l
  unfolding image_of image
  loaded_image_of d l = ap (λ n. elim (eqb (l % 2) 0) [ true ↦ n | false ↦ complement n ]) (loaded_image d (l / 2))

  -- unloaded, with the values that were set meanwhile; and as it was where none is
  pub unload_kept : (u : List ℕ) → Kept (loaded t s) u → Kept t (unloaded u s)
  unload_kept u k = unload_back s t u long fits bare (apart_kept s t (loaded t s) u k (apart_loaded s s t t (λ v m. m) (apart_refl s t)))

  pub unload_loaded : unloaded (loaded t s) s ≡ t
  unload_loaded = same_table (unload_kept (loaded t s) (kept_refl (loaded t s))) (λ v. unload_value s (loaded t s) v ∙ loaded_value s t v)
