-- Theorems 8 and 5: WSR and SR steps, over `Soundness.passes_sound`.
-- Assumes nothing.
use Prim.Native.Nat.{ℕ}
use mathlib.Core.Path.{◌≡◌, refl, ap, ◌∙◌}
use mathlib.Core.Logic.{◌⊎◌, inl, inr}
use mathlib.Core.Bool.{Bool, true, false}
use mathlib.Core.List.Memᴰ
use mathlib.Core.List.{List, [], ◌∷◌}
use Rattle.paper.specs.Atoms.{Clause, Formula, Live, Witness}
use Rattle.paper.specs.Conditions.{trivial, SR, WSR, without, after}
use Rattle.paper.specs.Stowages.{Stowage, meets, moved, carried, Meets}
use Rattle.paper.proofs.Lists.{without_out}
use Rattle.paper.proofs.Soundness.{passes_sound}

-- Theorem 8: a stowage that meets F, moved by the witness where C fails, meets the clauses live after the step
pub wsr_sound : (I : Stowage) (F : Formula) (C : Clause) (s : Witness) (modulo : List ℕ) (n : ℕ) → WSR F C s modulo → Meets I F
    → Meets (carried s C I) (after modulo n C F)
unfolding carried after
wsr_sound I F C s modulo n w mF k D m = go (meets I C) refl (Memᴰ.append_cases (without modulo F) m)
  where
    go : (b : Bool) → meets I C ≡ b → (Live (without modulo F) k D) ⊎ (Live ((n, C) ∷ []) k D) → meets (elim (meets I C) [ true ↦ I | false ↦ moved s I ]) D ≡ true
    go true e (inl q) = rw e (mF k D (without_out modulo F q).0)
    go true e (inr q) = rw e (ap (λ (p : ℕ × Clause). meets I p.1) (Memᴰ.eq_of_singleton q) ∙ e)
    go false e (inl q) = rw e (passes_sound I F C s D mF e (w.old k D (without_out modulo F q).0 (without_out modulo F q).1))
    go false e (inr q) =
        rw e (ap (λ (p : ℕ × Clause). meets (moved s I) p.1) (Memᴰ.eq_of_singleton q) ∙ passes_sound I F C s C mF e w.new)

-- SR is WSR modulo nothing, with C trivialised
pub sr_wsr : (F : Formula) (C : Clause) (s : Witness) → SR F C s → WSR F C s []
sr_wsr F C s r = record { new = trivial r.new; old = λ n D m _. r.old n D m }

-- Theorem 5
pub sr_sound : (I : Stowage) (F : Formula) (C : Clause) (s : Witness) (n : ℕ) → SR F C s → Meets I F → Meets (carried s C I) (after [] n C F)
sr_sound I F C s n r mF = wsr_sound I F C s [] n (sr_wsr F C s r) mF
