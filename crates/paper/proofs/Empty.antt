-- Paper 02, §13: a WSR step with an empty witness asks of its clause what a RUP step asks.
-- Assumes nothing.
use Prim.Native.Nat.{ℕ, zero, suc, ◌+◌, ◌*◌, ◌%◌, ◌/◌, ◌≤◌}
use mathlib.Core.Path.{◌≡◌, refl, sym, ap, ◌∙◌, subst}
use mathlib.Core.Logic.{◌⊎◌, inl, inr, ◌↔◌}
use mathlib.Core.Bool.{Bool, true, false}
use mathlib.Core.List.Memᴰ
use mathlib.Core.List.{List, [], ◌++◌, map}
use native.Mathlib.Omega.{arith}
use lib.Dec.{eqb}
use Rattle.paper.specs.Atoms.{complement, ◌∈◌, Clause, Formula, Witness}
use Rattle.paper.specs.Files.{rup_step, wsr_step}
use Rattle.paper.specs.Conditions.{look, image, Derived, given, unit, Clash, both, broken, RUP, Trivialises, to_true, to_complements, under, Passes, follows}
use Rattle.paper.proofs.Lists.{complement_even, eqb_yes, eqb_no, map_out, map_in, under_out}
use Rattle.paper.proofs.Sides.{image_variable, derived_least, passes_exactly, Asks}

-- 1. Propagation from more literals clashes too: where C is RUP every clause passes, whatever the witness.
module _ (F : Formula) {A B : List ℕ} (more : (l : ℕ) → l ∈ A → l ∈ B) where
  derived_more : {l : ℕ} → Derived F A l → Derived F B l
  derived_more = derived_least F A (Derived F B) (record { holds = λ l m. given (more l m); closed = λ n D l q m fellows. unit q m fellows })

  clash_more : Clash F A → Clash F B
  clash_more (both p q) = both (derived_more p) (derived_more q)
  clash_more (broken q all) = broken q (λ k m. derived_more (all k m))

pub rup_more : (F : Formula) (C E : Clause) → ((l : ℕ) → l ∈ C → l ∈ E) → RUP F C → RUP F E
rup_more F C E more r = clash_more F complements r
  where
    complements : (a : ℕ) → a ∈ map complement C → a ∈ map complement E
    complements a m =
        let q = map_out complement C m in
        subst (λ (x : ℕ). x ∈ map complement E) (sym q.2) (map_in complement (more q.0 q.1))

pub rup_passes : (F : Formula) (C : Clause) (s : Witness) (D : Clause) → RUP F C → Passes F C s D
rup_passes F C s D r = follows (rup_more F C (C ++ under s D) (λ l m. Memᴰ.append_left (under s D) m) r)

-- with a literal and its complement in it, a clause is RUP over any clauses
rup_both : (F : Formula) (C : Clause) (l : ℕ) → l ∈ C → complement l ∈ C → RUP F C
rup_both F C l m k = both (given (map_in complement m)) (given (map_in complement k))

-- 2. The empty witness sends every atom to itself.
look_itself : (v : ℕ) → look [] v ≡ 2 * v
unfolding look
look_itself zero = refl
look_itself (suc v) = refl

pub image_itself : (a : ℕ) → image [] a ≡ a
image_itself a = go (eqb (a % 2) 0) refl
  where
    go : (b : Bool) → eqb (a % 2) 0 ≡ b → image [] a ≡ a
    go true e =
        let z = eqb_yes (a % 2) 0 e in
        let q : a ≡ 2 * (a / 2) = omega arith in
        ap (image []) q ∙ (image_variable [] (a / 2)).0 ∙ look_itself (a / 2) ∙ sym q
    go false e =
        let z = eqb_no (a % 2) 0 e in
        let q : a ≡ 2 * (a / 2) + 1 = omega arith in
        ap (image []) q ∙ (image_variable [] (a / 2)).1 ∙ ap complement (look_itself (a / 2)) ∙ complement_even (a / 2) ∙ sym q

under_itself : (D : Clause) (l : ℕ) → l ∈ under [] D → l ∈ D
under_itself D l m = let q = under_out [] D m in subst (λ (k : ℕ). k ∈ D) (sym (q.2 ∙ image_itself q.0)) q.1

-- 3. "A WSR step with an empty witness and empty MODULO passes its conditions exactly when the RUP step of the same clause
-- does, as corollary 9 says." Of what the reading has seen of C (`Seen`, by `Reading.read_step_seen`) this is needed: true is none of its
-- literals. A variable might stand in it twice.
module _ (F : Formula) (C : Clause) (literals : (l : ℕ) → l ∈ C → 1 ≤ l) where
  -- MODULO has no say in whether it is taken, empty or not: it only tells what is no longer live after the step
  pub empty_witness : (modulo : List ℕ) → Asks F (wsr_step C [] modulo) ↔ Asks F (rup_step C)
  empty_witness modulo = ((λ a. passes_rup a.0), λ r. (rup_passes F C [] C r, λ n D q out. rup_passes F C [] D r))
    where
      trivial_rup : Trivialises [] C → RUP F C
      trivial_rup (to_true {l} m e) = absurd (omega (arith, literals l m, sym (image_itself l) ∙ e))
      trivial_rup (to_complements {l} {k} m q e) =
          rup_both F C k q (subst (λ (x : ℕ). x ∈ C) (sym (image_itself l) ∙ e ∙ ap complement (image_itself k)) m)

      passes_rup : Passes F C [] C → RUP F C
      passes_rup p = go ((passes_exactly F C [] C).0 p)
        where
          either : (l : ℕ) → (l ∈ C) ⊎ (l ∈ under [] C) → l ∈ C
          either l (inl m) = m
          either l (inr m) = under_itself C l m

          go : Trivialises [] C ⊎ ((l : ℕ) × (l ∈ under [] C) × (complement l ∈ C)) ⊎ RUP F (C ++ under [] C) → RUP F C
          go (inl t) = trivial_rup t
          go (inr (inl r)) = rup_both F C r.0 (under_itself C r.0 r.1) r.2
          go (inr (inr r)) = rup_more F (C ++ under [] C) C (λ l m. either l (Memᴰ.append_cases C m)) r
