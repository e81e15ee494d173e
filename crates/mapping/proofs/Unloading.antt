-- What the loop that clears the images keeps from turn to turn; and that clearing them brings back a table with none.
-- Assumes nothing.
use Prim.Native.Nat.{ℕ, ◌+◌, ◌*◌, ◌/◌, ◌<◌, ◌≤◌}
use mathlib.Core.Path.{◌≡◌, refl, sym, ap, ◌∙◌}
use mathlib.Core.Logic.{◌≢◌}
use mathlib.Core.List.Memᴰ
use mathlib.Core.List.{List, [], ◌∷◌}
use native.Mathlib.Omega.{arith}
use native.Mathlib.Decide.{ℕ_discrete}
use lib.ListN.{length, get_or}
use Rattle.paper.specs.Atoms.{◌∈◌, Witness}
use Rattle.table.specs.Table.{Kept, clear_image, value_at}
use Rattle.table.proofs.Laws.{length_clear_image, first_clear_image, second_clear_image, first_clear_image_other, second_clear_image_other, value_clear_image}
use Rattle.mapping.specs.Mapping.{variables, Fitting, Bare, unloaded}
use Rattle.mapping.proofs.Pairs.{fits_next}

-- t₀ is the table at entry, t the table now, and `left` is left of the witness s
pub record Unloading (s : Witness) (t₀ t : List ℕ) (left : Witness) : Type 0 where
  pub fits : Fitting left
  pub rest : unloaded t left ≡ unloaded t₀ s

pub unloading_turn : {s left more : Witness} {t₀ t u : List ℕ} {v a : ℕ} → ◌≡◌ {A = Witness} left ((v, a) ∷ more) → Unloading s t₀ t left
    → u ≡ clear_image t v → Unloading s t₀ u more
unfolding unloaded
unloading_turn {more} {t} step k e =
    record { fits = fits_next step k.fits; rest = ap (λ (x : List ℕ). unloaded x more) e ∙ sym (ap (unloaded t) step) ∙ k.rest }

-- u has the images of t but for those of the variables listed in s
pub record Apart (s : Witness) (t u : List ℕ) : Type 0 where
  pub long : length u ≡ length t
  pub first : (v : ℕ) → ¬ (v ∈ variables s) → get_or u (v * 2) 0 / 4 ≡ get_or t (v * 2) 0 / 4
  pub second : (v : ℕ) → ¬ (v ∈ variables s) → get_or u (v * 2 + 1) 0 ≡ get_or t (v * 2 + 1) 0

-- the image of one variable cleared
apart_clear : (m : ℕ × ℕ) (s : Witness) (t u : List ℕ) → m.0 * 2 + 1 < length t → Bare t → Apart (m ∷ s) t u → Apart s t (clear_image u m.0)
apart_clear m s t u h bare a =
    record {
      long = length_clear_image u m.0 ∙ a.long;
      first = λ v n. first v n (ℕ_discrete v m.0);
      second = λ v n. second v n (ℕ_discrete v m.0);
    }
  where
    in_table : m.0 * 2 + 1 < length u
    in_table =
        let l = a.long in
        omega arith

    out : (v : ℕ) → ¬ (v ∈ variables s) → v ≢ m.0 → ¬ (v ∈ variables (m ∷ s))
    out v n ne (Memᴰ.head e) = ne e
    out v n ne (Memᴰ.tail q) = n q

    first : (v : ℕ) → ¬ (v ∈ variables s) → Dec (v ≡ m.0) → get_or (clear_image u m.0) (v * 2) 0 / 4 ≡ get_or t (v * 2) 0 / 4
    first v n (yes e) =
        let b = (bare m.0).0 in
        let c = first_clear_image u m.0 (omega arith) in
        rw e (omega arith)
    first v n (no ne) = ap (λ x. x / 4) (first_clear_image_other u m.0 v ne) ∙ a.first v (out v n ne)

    second : (v : ℕ) → ¬ (v ∈ variables s) → Dec (v ≡ m.0) → get_or (clear_image u m.0) (v * 2 + 1) 0 ≡ get_or t (v * 2 + 1) 0
    second v n (yes e) = rw e (second_clear_image u m.0 in_table ∙ sym (bare m.0).1)
    second v n (no ne) = second_clear_image_other u m.0 v ne ∙ a.second v (out v n ne)

-- all of them cleared: the images of t
pub unload_back : (s : Witness) (t u : List ℕ) → 8192 ≤ length t → Fitting s → Bare t → Apart s t u → Kept t (unloaded u s)
unfolding unloaded
unload_back [] t u l fits bare a =
    record { long = a.long; first = λ v. a.first v (λ q. elim q [ ]); second = λ v. a.second v (λ q. elim q [ ]) }
unload_back (m ∷ s) t u l fits bare a =
    let f = fits m.0 m.1 (Memᴰ.head refl) in
    unload_back s t (clear_image u m.0) l (λ v b q. fits v b (Memᴰ.tail q)) bare (apart_clear m s t u (omega arith) bare a)

-- and every value is kept
pub unload_value : (s : Witness) (u : List ℕ) (v : ℕ) → value_at (unloaded u s) v ≡ value_at u v
unfolding unloaded
unload_value [] u v = refl
unload_value (m ∷ s) u v = unload_value s (clear_image u m.0) v ∙ value_clear_image u m.0 v
