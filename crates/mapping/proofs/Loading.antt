-- What the loop that writes the mappings keeps from turn to turn, and what it has found where it ends.
-- Assumes nothing.
use Prim.Native.Nat.{ℕ, ◌+◌, ◌*◌, ◌/◌, ◌%◌, ◌<◌, ◌≤◌}
use mathlib.Core.Path.{◌≡◌, refl, sym, ap, subst, ◌∙◌}
use mathlib.Core.Logic.{◌≢◌}
use mathlib.Core.Bool.{Bool, true, false, ◌||◌}
use mathlib.Core.List.Memᴰ
use mathlib.Core.List.{List, [], ◌∷◌}
use native.Mathlib.Omega.{arith}
use native.Mathlib.Decide.{ℕ_discrete}
use borrow.Author.Tests.{eq-eqb, ne_eqb}
use lib.Dec.{eqb}
use lib.ListN.{length, get_or}
use Rattle.paper.specs.declared.Reason.{Reason}
use Rattle.paper.specs.Atoms.{◌∈◌, Witness}
use Rattle.paper.specs.Files.{ok, bad, codes, mappings}
use Rattle.paper.specs.Conditions.{is_in}
use Rattle.paper.specs.Refusals.{no_two}
use Rattle.table.specs.Table.{value_at, mapped_at, set_image}
use Rattle.table.proofs.Laws.{length_set_image, first_set_image_other, second_set_image_other, mapped_same, mapped_other, value_set_image}
use Rattle.table.proofs.Kept.{same_table}
use Rattle.mapping.specs.Mapping.{variables, Fitting, Bare, loaded, unloaded}
use Rattle.codes.proofs.Room.{mappings_room}
use Rattle.mapping.proofs.Pairs.{fits_here, fits_next}
use Rattle.mapping.proofs.Unloading.{Apart, unload_back, unload_value}

-- one step of the paper's test for a second mapping
pub no_two_new : (why : Reason) (seen : List ℕ) (u p x : ℕ) (xs : List ℕ) → is_in x seen ≡ false
    → no_two why seen u p (x ∷ xs) ≡ no_two why (x ∷ seen) u (p + u) xs
unfolding no_two
no_two_new why seen u p x xs e = rw (e, no_two)

pub no_two_old : (why : Reason) (seen : List ℕ) (u p x : ℕ) (xs : List ℕ) → is_in x seen ≡ true → no_two why seen u p (x ∷ xs) ≡ bad why p
unfolding no_two
no_two_old why seen u p x xs e = rw (e, no_two)

pub bare_mapped : (t : List ℕ) → Bare t → (v : ℕ) → mapped_at t v ≡ false
unfolding mapped_at
bare_mapped t bare v =
    let b = (bare v).0 in
    ne_eqb (get_or t (v * 2) 0 / 4 % 2) 1 (λ e. omega arith)

-- the variables in seen are those that the table t has mapped; t₀ is the table at entry, k pairs of the bytes w are past, and `left` is left
pub record Loading (w t₀ t : List ℕ) (left : Witness) (k : ℕ) : Type 0 where
  pub fits : Fitting left
  pub part : (v : ℕ) → v ∈ variables left → v ∈ variables (mappings (codes w))
  pub place : 4 * (k + length {A = ℕ × ℕ} left) ≤ length w
  pub rest : loaded t left ≡ loaded t₀ (mappings (codes w))
  pub seen : List ℕ
  pub marks : (v : ℕ) → v < 4096 → mapped_at t v ≡ is_in v seen
  pub sees : (why : Reason) (p : ℕ) → no_two why [] 4 p (variables (mappings (codes w))) ≡ no_two why seen 4 (p + 4 * k) (variables left)
  pub apart : Apart (mappings (codes w)) t₀ t
  pub values : (v : ℕ) → value_at t v ≡ value_at t₀ v

pub loading_start : (w t : List ℕ) → Fitting (mappings (codes w)) → Bare t → Loading w t t (mappings (codes w)) 0
unfolding is_in
loading_start w t fits bare =
    record {
      fits = fits;
      part = λ v m. m;
      place = omega (arith, mappings_room w);
      rest = refl;
      seen = [];
      marks = λ v h. bare_mapped t bare v;
      sees = λ why p. let e : p ≡ p + 4 * 0 = omega arith in ap (λ q. no_two why [] 4 q (variables (mappings (codes w)))) e;
      apart = record { long = refl; first = λ v n. refl; second = λ v n. refl };
      values = λ v. refl;
    }

-- a variable that is listed in s may be mapped
pub apart_set : (s : Witness) (t u : List ℕ) (v a : ℕ) → v ∈ variables s → Apart s t u → Apart s t (set_image u v a)
apart_set s t u v a m k =
    record {
      long = length_set_image u v a ∙ k.long;
      first = λ w n. ap (λ x. x / 4) (first_set_image_other u v a w (other w n)) ∙ k.first w n;
      second = λ w n. second_set_image_other u v a w (other w n) ∙ k.second w n;
    }
  where
    other : (w : ℕ) → ¬ (w ∈ variables s) → w ≢ v
    other w n e = n (subst (λ (x : ℕ). x ∈ variables s) (sym e) m)

marked : (t : List ℕ) (v a w : ℕ) (seen : List ℕ) → v * 2 < length t → mapped_at t w ≡ is_in w seen → mapped_at (set_image t v a) w ≡ is_in w (v ∷ seen)
unfolding is_in
marked t v a w seen h e = go (ℕ_discrete w v)
  where
    go : Dec (w ≡ v) → mapped_at (set_image t v a) w ≡ (eqb w v || is_in w seen)
    go (yes p) = ap (mapped_at (set_image t v a)) p ∙ mapped_same t v a h ∙ sym (ap (λ b. b || is_in w seen) (eq-eqb w v p))
    go (no n) = mapped_other t v a w n ∙ e ∙ sym (ap (λ b. b || is_in w seen) (ne_eqb w v n))

module _ {w t₀ t : List ℕ} {left : Witness} {k : ℕ} (g : Loading w t₀ t left k) where
  abbrev s : Witness
  s = mappings (codes w)

  -- v is mapped to a next, and `more` is left after it
  module _ {v a : ℕ} {more : Witness} (step : ◌≡◌ {A = Witness} left ((v, a) ∷ more)) where
    sees_next : (why : Reason) (p : ℕ) → no_two why [] 4 p (variables s) ≡ no_two why g.seen 4 (p + 4 * k) (v ∷ variables more)
    sees_next why p = g.sees why p ∙ ap (λ (r : Witness). no_two why g.seen 4 (p + 4 * k) (variables r)) step

    marks_here : {b : Bool} → mapped_at t v ≡ b → is_in v g.seen ≡ b
    marks_here e = sym (g.marks v (fits_here step g.fits).1.0) ∙ e

    pub place_here : {i : ℕ} → i ≡ k → 4 * i < length w
    place_here e = omega (arith, g.place, ap (length {A = ℕ × ℕ}) step)

    pub loading_turn : 8192 ≤ length t → mapped_at t v ≡ false → {u : List ℕ} → u ≡ set_image t v a → Loading w t₀ u more (k + 1)
    unfolding loaded
    loading_turn long new {u} e =
        rw e
        (record {
          fits = fits_next step g.fits;
          part = λ x m. g.part x (rw step (Memᴰ.tail m));
          place = omega (arith, g.place, ap (length {A = ℕ × ℕ}) step);
          rest = sym (ap (loaded t) step) ∙ g.rest;
          seen = v ∷ g.seen;
          marks = λ x b. let f = fits_here step g.fits in marked t v a x g.seen (omega arith) (g.marks x b);
          sees = λ why p.
              let q : p + 4 * k + 4 ≡ p + 4 * (k + 1) = omega arith in
              sees_next why p
              ∙ no_two_new why g.seen 4 (p + 4 * k) v (variables more) (marks_here new)
              ∙ ap (λ i. no_two why (v ∷ g.seen) 4 i (variables more)) q;
          apart = apart_set s t₀ t v a (g.part v (rw step (Memᴰ.head refl))) g.apart;
          values = λ x. value_set_image t v a x ∙ g.values x;
        })

    -- a variable that is mapped already
    pub loading_twice : {i : ℕ} → i ≡ k → mapped_at t v ≡ true → (why : Reason) (p : ℕ) → no_two why [] 4 p (variables s) ≡ bad why (p + 4 * i)
    loading_twice e old why p = rw e (sees_next why p ∙ no_two_old why g.seen 4 (p + 4 * k) v (variables more) (marks_here old))

  -- what was mapped so far, unloaded
  pub loading_back : 8192 ≤ length t₀ → Fitting s → Bare t₀ → unloaded t s ≡ t₀
  loading_back long fits bare = same_table (unload_back s t₀ t long fits bare g.apart) (λ v. unload_value s t v ∙ g.values v)

  module _ (end : left ≡ []) where
    pub loading_once : (why : Reason) (p : ℕ) → no_two why [] 4 p (variables s) ≡ ok tt
    unfolding no_two
    loading_once why p = g.sees why p ∙ ap (λ (r : Witness). no_two why g.seen 4 (p + 4 * k) (variables r)) end

    pub loading_end : t ≡ loaded t₀ s
    unfolding loaded
    loading_end = sym (ap (loaded t) end) ∙ g.rest
