-- The loops over a clause's bytes that write to the table: a turn of each, by cases, and what holds from turn to turn.
-- Assumes nothing.
use Prim.Native.Nat.{ℕ, ◌/◌, ◌<◌}
use mathlib.Core.Path.{◌≡◌, refl, sym, ap, ◌∙◌}
use mathlib.Core.Logic.{◌≢◌}
use mathlib.Core.Bool.{true, false}
use mathlib.Core.List.{List, [], ◌∷◌}
use native.Mathlib.Omega.{arith}
use Rattle.paper.specs.Atoms.{complement, Clause}
use Rattle.paper.proofs.Lists.{eqb_same, eqb_other}
use Rattle.paper.proofs.Scan.{step_now, step_later}
use Rattle.table.specs.Table.{image_of, set_value}
use Rattle.loading.specs.declared.Assumed.{Assumed}
use Rattle.loading.specs.declared.Assumed.TheVariants.{Passes, Open}
use Rattle.loading.specs.Loading.{Storable, true_at, make_true, assumed, Outcome, imaged, unset_clause, unset_images}

-- 1. The definitions by cases.
pub assumed_next : (t : List ℕ) (l : ℕ) (C : Clause) → assumed t (l ∷ C) ≡ assumed (make_true t (complement l)) C
unfolding assumed
assumed_next t l C = refl

pub assumed_end : (t : List ℕ) → assumed t [] ≡ t
unfolding assumed
assumed_end t = refl

pub unset_clause_next : (t : List ℕ) (l : ℕ) (C : Clause) → unset_clause t (l ∷ C) ≡ unset_clause (set_value t (l / 2) 0) C
unfolding unset_clause
unset_clause_next t l C = refl

pub unset_clause_end : (t : List ℕ) → unset_clause t [] ≡ t
unfolding unset_clause
unset_clause_end t = refl

pub unset_images_next : (t : List ℕ) (l : ℕ) (D : Clause) → unset_images t (l ∷ D) ≡ unset_images (set_value t (image_of t l / 2) 0) D
unfolding unset_images
unset_images_next t l D = refl

pub unset_images_end : (t : List ℕ) → unset_images t [] ≡ t
unfolding unset_images
unset_images_end t = refl

pub imaged_end : (t : List ℕ) → imaged t [] ≡ record { answer = Open; table = t }
unfolding imaged
imaged_end t = refl

module _ (t : List ℕ) (l : ℕ) (D : Clause) where
  pub imaged_true : image_of t l ≡ 0 → imaged t (l ∷ D) ≡ record { answer = Passes; table = t }
  unfolding imaged
  imaged_true e = rw (eqb_same (image_of t l) 0 e, imaged)

  pub imaged_false : image_of t l ≡ 1 → imaged t (l ∷ D) ≡ imaged t D
  unfolding imaged
  imaged_false e =
      let n : image_of t l ≢ 0 = omega arith in
      rw (eqb_other (image_of t l) 0 n, eqb_same (image_of t l) 1 e, imaged)

  module _ (n : image_of t l ≢ 0) (m : image_of t l ≢ 1) where
    pub imaged_already : true_at t (image_of t l) ≡ true → imaged t (l ∷ D) ≡ record { answer = Passes; table = t }
    unfolding imaged
    imaged_already e = rw (eqb_other (image_of t l) 0 n, eqb_other (image_of t l) 1 m, e, imaged)

    pub imaged_next : true_at t (image_of t l) ≡ false → imaged t (l ∷ D) ≡ imaged (make_true t (complement (image_of t l))) D
    unfolding imaged
    imaged_next e = rw (eqb_other (image_of t l) 0 n, eqb_other (image_of t l) 1 m, e, imaged)

-- 2. What the loops keep while `left` is left of the clause C: t₀ is the table at entry, t the table now, and g what the loop computes.
pub record Going {A : Type 0} (g : List ℕ → Clause → A) (C : Clause) (t₀ t : List ℕ) (left : Clause) : Type 0 where
  pub fits : Storable left
  pub rest : g t₀ C ≡ g t left

-- l is the next literal, and `more` is left after it
module _ {A : Type 0} {g : List ℕ → Clause → A} {C : Clause} {t₀ t : List ℕ} {left : Clause} (k : Going g C t₀ t left) {l : ℕ} {more : Clause}
    (step : left ≡ l ∷ more) where
  pub going_here : l < 8192
  going_here = step_now l step k.fits

  pub going_now : g t₀ C ≡ g t (l ∷ more)
  going_now = k.rest ∙ ap (g t) step

  pub going_next : {u : List ℕ} → g t (l ∷ more) ≡ g u more → Going g C t₀ u more
  going_next q = record { fits = step_later l step k.fits; rest = going_now ∙ q }

-- 3. A turn over the images: a is the image of the next literal, as the loop has read it.
module _ {C : Clause} {t₀ t : List ℕ} {left : Clause} (k : Going imaged C t₀ t left) {l : ℕ} {more : Clause} (step : left ≡ l ∷ more) {a : ℕ}
    (e : a ≡ image_of t l) where
  pub image_true : a ≡ 0 → imaged t₀ C ≡ record { answer = Passes; table = t }
  image_true z = going_now k step ∙ imaged_true t l more (sym e ∙ z)

  pub image_false : a ≡ 1 → Going imaged C t₀ t more
  image_false z = going_next k step (imaged_false t l more (sym e ∙ z))

  module _ (n : a ≢ 0) (m : a ≢ 1) where
    pub image_already : true_at t a ≡ true → imaged t₀ C ≡ record { answer = Passes; table = t }
    image_already q = going_now k step ∙ imaged_already t l more (λ z. n (e ∙ z)) (λ z. m (e ∙ z)) (sym (ap (true_at t) e) ∙ q)

    pub image_next : true_at t a ≡ false → {u : List ℕ} → u ≡ make_true t (complement a) → Going imaged C t₀ u more
    image_next q w =
        going_next k step
        (imaged_next t l more (λ z. n (e ∙ z)) (λ z. m (e ∙ z)) (sym (ap (true_at t) e) ∙ q)
        ∙ ap (λ (x : List ℕ). imaged x more) (sym (w ∙ ap (λ (x : ℕ). make_true t (complement x)) e)))

-- the two halves of what the loop ends with
pub both_halves : {o : Outcome} {answer : Assumed} {table : List ℕ} → o ≡ record { answer = answer; table = table }
    → (answer ≡ o.answer) × (table ≡ o.table)
both_halves e = (sym (ap (λ (x : Outcome). x.answer) e), sym (ap (λ (x : Outcome). x.table) e))
