-- Demand 3 for one step: what RUP and DELETE preserve, and that a clause which passes is met after the move (`Moves`: SR and WSR).
-- Assumes nothing.
use Prim.Native.Nat.{ℕ, zero, suc, ◌+◌, ◌%◌, ◌/◌, ◌*◌, ◌≤◌}
use mathlib.Core.Path.{◌≡◌, refl, sym, ap, ◌∙◌, ap₂}
use mathlib.Core.Logic.{◌≢◌, ◌⊎◌, inl, inr}
use mathlib.Core.Bool.{Bool, true, false, not, ◌||◌, true≢false, false≢true}
use mathlib.Core.List.Memᴰ
use mathlib.Core.List.{List, [], ◌∷◌, ◌++◌, map}
use native.Mathlib.Omega.{arith}
use native.Mathlib.Decide.{ℕ_discrete}
use lib.Dec.{eqb}
use Rattle.paper.specs.Atoms.{complement, ◌∈◌, Clause, Formula, Live, Witness}
use Rattle.paper.specs.Conditions.{Derived, given, unit, Clash, both, broken, RUP, look, image, Trivialises, to_true, to_complements, under, Passes, trivial, opposed, follows, without, after}
use Rattle.paper.specs.Stowages.{Stowage, variable, value, moved, meets, Meets}
use Rattle.paper.specs.Valid.{Codes}
use Rattle.paper.proofs.Judging.{look_range}
use Rattle.paper.proofs.Lists.{complement_half, complement_mod, eqb_yes, eqb_no, eqb_same, eqb_other, map_out, under_out, without_out}

-- the value of an atom, by its sign
value_by : (I : Stowage) (a : ℕ) (b : Bool) → eqb (a % 2) 0 ≡ b
    → value I a ≡ elim b [ true ↦ variable I (a / 2) | false ↦ not (variable I (a / 2)) ]
unfolding value
value_by I a b e = rw (e, value)

-- complement turns an atom's value
pub value_complement : (I : Stowage) (a : ℕ) → value I (complement a) ≡ not (value I a)
value_complement I a = go (eqb (a % 2) 0) refl
  where
    twice : (b : Bool) → b ≡ not (not b)
    twice true = refl
    twice false = refl

    go : (b : Bool) → eqb (a % 2) 0 ≡ b → value I (complement a) ≡ not (value I a)
    go true e =
        let h = eqb_yes (a % 2) 0 e in
        let m = complement_mod a in
        value_by I (complement a) false (eqb_other (complement a % 2) 0 (omega arith)) ∙ ap (λ (v : ℕ). not (variable I v)) (complement_half a)
        ∙ ap not (sym (value_by I a true e))
    go false e =
        let h = eqb_no (a % 2) 0 e in
        let m = complement_mod a in
        value_by I (complement a) true (eqb_same (complement a % 2) 0 (omega arith)) ∙ ap (variable I) (complement_half a)
        ∙ twice (variable I (a / 2)) ∙ ap not (sym (value_by I a false e))

variable_moved : (s : Witness) (I : Stowage) (v : ℕ) → variable (moved s I) v ≡ value I (look s v)
unfolding variable moved look value
variable_moved s I zero = refl
variable_moved s I (suc v) = refl

-- Lemma 1's heart: an atom after the move has the value that its image had before
pub value_moved : (s : Witness) (I : Stowage) (a : ℕ) → value (moved s I) a ≡ value I (image s a)
unfolding image
value_moved s I a = go (eqb (a % 2) 0) refl
  where
    go : (b : Bool) → eqb (a % 2) 0 ≡ b
        → value (moved s I) a ≡ value I (elim b [ true ↦ look s (a / 2) | false ↦ complement (look s (a / 2)) ])
    go true e = value_by (moved s I) a true e ∙ variable_moved s I (a / 2)
    go false e = value_by (moved s I) a false e ∙ ap not (variable_moved s I (a / 2)) ∙ sym (value_complement I (look s (a / 2)))

absurd_bool : {A : Type 0} (b : Bool) → b ≡ true → b ≡ false → A
absurd_bool b p q = absurd (true≢false (sym p ∙ q))

not_true : (b : Bool) → not b ≡ true → b ≡ false
not_true true e = sym e
not_true false e = refl

not_false : (b : Bool) → not b ≡ false → b ≡ true
not_false true e = refl
not_false false e = sym e

-- a clause meets if one of its literals does
pub meets_in : (I : Stowage) {l : ℕ} {C : Clause} → l ∈ C → value I l ≡ true → meets I C ≡ true
unfolding meets
meets_in I {l} (Memᴰ.head {x} {xs} e) t = rw (sym (ap (value I) e) ∙ t) refl
meets_in I {l} (Memᴰ.tail {x} {xs} m) t = or_right (value I x) (meets I xs) (meets_in I m t)
  where
    or_right : (a b : Bool) → b ≡ true → (a || b) ≡ true
    or_right true b e = refl
    or_right false b e = e

pub meets_out : (I : Stowage) (C : Clause) → meets I C ≡ true → (l : ℕ) × (l ∈ C) × (value I l ≡ true)
unfolding meets
meets_out I [] t = absurd (false≢true t)
meets_out I (l ∷ C) t = go (meets_out I C) (value I l) refl t
  where
    go : (meets I C ≡ true → (k : ℕ) × (k ∈ C) × (value I k ≡ true)) → (b : Bool) → value I l ≡ b → (b || meets I C) ≡ true
        → (k : ℕ) × (k ∈ l ∷ C) × (value I k ≡ true)
    go below true e t = (l, Memᴰ.head refl, e)
    go below false e t = let r = below t in (r.0, Memᴰ.tail r.1, r.2)

pub fails_all : (I : Stowage) {C : Clause} → meets I C ≡ false → (l : ℕ) → l ∈ C → value I l ≡ false
fails_all I {C} f l m = go (value I l) refl
  where
    go : (b : Bool) → value I l ≡ b → value I l ≡ false
    go true e = absurd_bool (meets I C) (meets_in I m e) f
    go false e = e

-- a literal is true in a clause that meets and whose other literals are false
unit_true : (I : Stowage) (C : Clause) (l : ℕ) → meets I C ≡ true → ((k : ℕ) → k ∈ C → k ≢ l → value I (complement k) ≡ true) → value I l ≡ true
unit_true I C l h f = go (meets_out I C h)
  where
    at_k : (k : ℕ) → k ∈ C → value I k ≡ true → Dec (k ≡ l) → value I l ≡ true
    at_k k m t (yes e) = sym (ap (value I) e) ∙ t
    at_k k m t (no ne) = absurd_bool (value I k) t (not_true (value I k) (sym (value_complement I k) ∙ f k m ne))

    go : (k : ℕ) × (k ∈ C) × (value I k ≡ true) → value I l ≡ true
    go r = at_k r.0 r.1 r.2 (ℕ_discrete r.0 l)

-- what propagation derives from true literals is true
derived_true : (I : Stowage) (F : Formula) (A : List ℕ) → Meets I F → ((a : ℕ) → a ∈ A → value I a ≡ true)
    → {l : ℕ} → Derived F A l → value I l ≡ true
derived_true I F A mF mA (given m) = mA _ m
derived_true I F A mF mA (unit {n} {D} {l} m ml f) =
    unit_true I D l (mF n D m) (λ k km ne. derived_true I F A mF mA (f k km ne))

-- under assumptions that all hold nothing clashes
no_clash : (I : Stowage) (F : Formula) (A : List ℕ) → Meets I F → ((a : ℕ) → a ∈ A → value I a ≡ true) → Clash F A → ⊥
no_clash I F A mF mA (both {l} p q) =
    absurd_bool (value I l) (derived_true I F A mF mA p) (not_true (value I l) (sym (value_complement I l) ∙ derived_true I F A mF mA q))
no_clash I F A mF mA (broken {n} {D} m f) =
    let r = meets_out I D (mF n D m) in
    absurd_bool (value I r.0) r.2 (not_true (value I r.0) (sym (value_complement I r.0) ∙ derived_true I F A mF mA (f r.0 r.1)))

-- RUP is sound: where all of F hold, C meets
pub rup_sound : (I : Stowage) (F : Formula) (C : Clause) → RUP F C → Meets I F → meets I C ≡ true
rup_sound I F C r mF = go (meets I C) refl
  where
    go : (b : Bool) → meets I C ≡ b → meets I C ≡ true
    go true e = e
    go false e =
        absurd (no_clash I F (map complement C) mF
        (λ a m. let q = map_out complement C m in ap (value I) q.2 ∙ value_complement I q.0 ∙ ap not (fails_all I e q.0 q.1))
        r)

-- a trivialised clause meets after the move
pub trivialised_meets : (I : Stowage) (s : Witness) (D : Clause) → Trivialises s D → meets (moved s I) D ≡ true
unfolding value variable
trivialised_meets I s D (to_true {l} m e) = meets_in (moved s I) m (value_moved s I l ∙ ap (value I) e)
trivialised_meets I s D (to_complements {l} {k} m n e) = go (value (moved s I) k) refl
  where
    go : (b : Bool) → value (moved s I) k ≡ b → meets (moved s I) D ≡ true
    go true t = meets_in (moved s I) n t
    go false t =
        meets_in (moved s I) m
        (value_moved s I l ∙ ap (value I) e ∙ value_complement I (image s k) ∙ ap not (sym (value_moved s I k)) ∙ ap not t)

-- D under s meets before the move: D meets after it
under_meets : (I : Stowage) (s : Witness) (D : Clause) {k : ℕ} → k ∈ under s D → value I k ≡ true → meets (moved s I) D ≡ true
under_meets I s D m t =
    let r = under_out s D m in
    meets_in (moved s I) r.1 (value_moved s I r.0 ∙ ap (value I) (sym r.2) ∙ t)

pub passes_sound : (I : Stowage) (F : Formula) (C : Clause) (s : Witness) (D : Clause) → Meets I F → meets I C ≡ false
    → Passes F C s D → meets (moved s I) D ≡ true
passes_sound I F C s D mF f (trivial t) = trivialised_meets I s D t
passes_sound I F C s D mF f (opposed {l} m n) =
    under_meets I s D m (not_false (value I l) (sym (value_complement I l) ∙ fails_all I f (complement l) n))
passes_sound I F C s D mF f (follows r) = go (meets_out I (C ++ under s D) (rup_sound I F (C ++ under s D) r mF))
  where
    side : (k : ℕ) → value I k ≡ true → (k ∈ C) ⊎ (k ∈ under s D) → meets (moved s I) D ≡ true
    side k t (inl m) = absurd_bool (value I k) t (fails_all I f k m)
    side k t (inr m) = under_meets I s D m t

    go : (k : ℕ) × (k ∈ C ++ under s D) × (value I k ≡ true) → meets (moved s I) D ≡ true
    go r = side r.0 r.2 (Memᴰ.append_cases C r.1)

-- a RUP step keeps the stowage as it is
pub rup_step_sound : (I : Stowage) (F : Formula) (C : Clause) (n : ℕ) → RUP F C → Meets I F → Meets I (after [] n C F)
unfolding after
rup_step_sound I F C n r mF k D m = go (Memᴰ.append_cases (without [] F) m)
  where
    go : (Live (without [] F) k D) ⊎ (Live ((n, C) ∷ []) k D) → meets I D ≡ true
    go (inl q) = mF k D (without_out [] F q).0
    go (inr q) = ap (λ (p : ℕ × Clause). meets I p.1) (Memᴰ.eq_of_singleton q) ∙ rup_sound I F C r mF

-- and so does a deletion
pub delete_sound : (I : Stowage) (F : Formula) (ns : List ℕ) → Meets I F → Meets I (without ns F)
delete_sound I F ns mF k D m = mF k D (without_out ns F m).0

-- no stowage meets a live empty clause
pub empty_refutes : (I : Stowage) (F : Formula) (n : ℕ) → Live F n [] → Meets I F → ⊥
unfolding meets
empty_refutes I F n m mF = false≢true (mF n [] m)

-- What a stowage gives beyond V is never read: two that agree on 1 to V meet the same clauses, and still agree once moved.
module _ (vars : ℕ) (I J : Stowage) (alike : (v : ℕ) → 1 ≤ v → v ≤ vars → I v ≡ J v) where
  variable_alike : (v : ℕ) → v ≤ vars → variable I v ≡ variable J v
  unfolding variable
  variable_alike zero h = refl
  variable_alike (suc v) h = alike (suc v) (omega arith) h

  value_alike : (a : ℕ) → a ≤ 2 * vars + 1 → value I a ≡ value J a
  unfolding value
  value_alike a h =
      ap (λ (b : Bool). elim (eqb (a % 2) 0) as (λ _. Bool) [ true ↦ b | false ↦ not b ]) (variable_alike (a / 2) (omega arith))

  pub meets_alike : (D : Clause) → Codes vars D → meets I D ≡ meets J D
  unfolding meets
  meets_alike [] codes = refl
  meets_alike (l ∷ D) codes =
      ap₂ ◌||◌ (value_alike l (codes l (Memᴰ.head refl)).1) (meets_alike D (λ k m. codes k (Memᴰ.tail m)))

  pub moved_alike : (s : Witness) → ((v a : ℕ) → ◌∈◌ {A = ℕ × ℕ} (v, a) s → a ≤ 2 * vars + 1) → (v : ℕ) → v ≤ vars → moved s I v ≡ moved s J v
  unfolding moved
  moved_alike s atoms v h = value_alike (look s v) (look_range vars s v atoms h)
