-- The answer of `trivialises`.
-- Assumes nothing.
use Prim.Native.Nat.{ℕ, ◌+◌, ◌*◌, ◌≤◌, ◌<◌}
use mathlib.Core.Path.{◌≡◌, refl, sym}
use mathlib.Core.Logic.{◌⊎◌, inl, inr}
use mathlib.Core.Bool.{Bool, true, false, true≢false, false≢true}
use mathlib.Core.List.{List, []}
use native.Mathlib.Omega.{arith}
use lib.ListN.{length}
use Rattle.paper.specs.Atoms.{complement, ◌∈◌, Clause, Witness}
use Rattle.paper.specs.Conditions.{image, Trivialises, under}
use Rattle.paper.specs.Valid.{Codes}
use Rattle.paper.proofs.Judging.{Atoms, image_range}
use Rattle.table.specs.Table.{image_of}
use Rattle.loading.specs.declared.Assumed.{Assumed}
use Rattle.loading.specs.declared.Assumed.TheVariants.{Passes, Open}
use Rattle.loading.specs.Loading.{Storable, imaged, Ready, Inward, Images, Decides}
use Rattle.loading.proofs.Opposed.{opposes_start, images_pass, images_not_trivial}

-- codes of the variables fit the table
pub codes_storable : (vars : ℕ) (C : Clause) → vars ≤ 4095 → Codes vars C → Storable C
codes_storable vars C h codes l m =
    let r = codes l m in
    omega arith

module _ (vars : ℕ) (t : List ℕ) (ready : Ready vars t) (inward : Inward vars t) (D : Clause) (codes : Codes vars D) where
  long : vars * 2 < length t
  long =
      let h = ready.small in
      let k = ready.long in
      omega arith

  module _ (s : Witness) (images : Images t s) where
    near : (l : ℕ) → 2 ≤ l → l ≤ 2 * vars + 1 → image_of t l ≡ image s l
    near l h k =
        let small = ready.small in
        images l h (omega arith)

    -- b is whether the literals pass by their images alone
    pub trivial_decided : {r : Assumed} → r ≡ (imaged t D).answer → {b : Bool} → (r ≡ Passes → b ≡ true) → (r ≡ Open → b ≡ false)
        → Decides b (Trivialises s D)
    trivial_decided {r = Passes} e p q =
        rw (p refl)
        (record {
          yes = λ _. go (images_pass vars t long s near inward D codes [] t (opposes_start vars t ready.unset) (sym e));
          no = λ z. absurd (true≢false z);
        })
      where
        go : (Trivialises s D) ⊎ ((l : ℕ) × (l ∈ under s D) × (complement l ∈ [])) → Trivialises s D
        go (inl p) = p
        go (inr p) = elim p.2 [ ]
    trivial_decided {r = Open} e p q =
        rw (q refl)
        (record {
          yes = λ z. absurd (false≢true z);
          no = λ _. images_not_trivial vars t long s near inward D codes [] t (opposes_start vars t ready.unset) (sym e);
        })

-- the images of a witness whose atoms are in range
pub images_inward : (vars : ℕ) (t : List ℕ) (s : Witness) → vars ≤ 4095 → Images t s → Atoms vars s → Inward vars t
images_inward vars t s small images atoms l h k =
    let e = images l h (omega arith) in
    let r = image_range vars s l atoms k in
    omega arith
