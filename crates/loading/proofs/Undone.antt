-- Unsetting the variables of a clause's literals, or of their images, undoes what assuming has set.
-- Assumes nothing.
use Prim.Native.Nat.{ℕ, suc, ◌/◌, ◌%◌, ◌<◌}
use mathlib.Core.Path.{◌≡◌, refl, sym, ap, ◌∙◌, subst}
use mathlib.Core.Logic.{◌⊎◌, inl, inr}
use mathlib.Core.Bool.{Bool, true, false}
use mathlib.Core.List.Memᴰ
use mathlib.Core.List.{List, [], ◌∷◌, ◌++◌, append-nil, map}
use native.Mathlib.Omega.{arith}
use native.Mathlib.Decide.{ℕ_discrete}
use Rattle.paper.specs.Atoms.{complement, ◌∈◌, Clause}
use Rattle.paper.proofs.Lists.{complement_half, map_in}
use Rattle.table.specs.Table.{value_at, image_of, set_value}
use Rattle.table.proofs.Laws.{value_other}
use Rattle.table.proofs.Values.{value_unset}
use Rattle.table.proofs.Kept.{kept_refl, kept_set_value, kept_image_of, same_table}
use Rattle.loading.specs.Loading.{true_at, make_true, assumed, imaged, unset_clause, unset_images, Unset, Among}
use Rattle.loading.proofs.Turns.{assumed_next, assumed_end, imaged_end, imaged_true, imaged_false, imaged_already, imaged_next, unset_clause_next, unset_clause_end, unset_images_next, unset_images_end}

-- 1. A table in which no variable but those named has a value.
module _ (t₀ : List ℕ) where
  pub among_start : Unset t₀ → (names : List ℕ) → Among t₀ t₀ names
  among_start unset names = record { kept = kept_refl t₀; named = λ v. inl (unset v) }

  among_none : Unset t₀ → (t : List ℕ) → Among t₀ t [] → t ≡ t₀
  among_none unset t a = same_table a.kept (λ v. go v (a.named v))
    where
      go : (v : ℕ) → (value_at t v ≡ 0) ⊎ (v ∈ []) → value_at t v ≡ value_at t₀ v
      go v (inl e) = e ∙ sym (unset v)
      go v (inr m) = elim m [ ]

  -- a variable that is named gets a value
  pub among_put : (t names : List ℕ) (v x : ℕ) → x < 4 → v ∈ names → Among t₀ t names → Among t₀ (set_value t v x) names
  among_put t names v x h m a = record { kept = kept_set_value v x h a.kept; named = λ w. go w (ℕ_discrete w v) (a.named w) }
    where
      go : (w : ℕ) → Dec (w ≡ v) → (value_at t w ≡ 0) ⊎ (w ∈ names) → (value_at (set_value t v x) w ≡ 0) ⊎ (w ∈ names)
      go w (yes e) q = inr (subst (λ (y : ℕ). y ∈ names) (sym e) m)
      go w (no n) (inl e) = inl (value_other t v x w n ∙ e)
      go w (no n) (inr q) = inr q

  -- the first that is named is unset
  among_unset : (t names : List ℕ) (v : ℕ) → Among t₀ t (v ∷ names) → Among t₀ (set_value t v 0) names
  among_unset t names v a = record { kept = kept_set_value v 0 (omega arith) a.kept; named = λ w. go w (ℕ_discrete w v) (a.named w) }
    where
      go : (w : ℕ) → Dec (w ≡ v) → (value_at t w ≡ 0) ⊎ (w ∈ v ∷ names) → (value_at (set_value t v 0) w ≡ 0) ⊎ (w ∈ names)
      go w (yes e) q = inl (ap (value_at (set_value t v 0)) e ∙ value_unset t v)
      go w (no n) (inl e) = inl (value_other t v 0 w n ∙ e)
      go w (no n) (inr (Memᴰ.head e)) = absurd (n e)
      go w (no n) (inr (Memᴰ.tail m)) = inr m

  among_true : (t names : List ℕ) (a : ℕ) → a / 2 ∈ names → Among t₀ t names → Among t₀ (make_true t (complement a)) names
  among_true t names a m =
      among_put t names (complement a / 2) (suc (complement a % 2)) (omega arith) (subst (λ (v : ℕ). v ∈ names) (sym (complement_half a)) m)

  -- 2. The variables of a clause, and of the images of another's literals.
  abbrev variable : ℕ → ℕ
  variable l = l / 2

  abbrev target : ℕ → ℕ
  target l = image_of t₀ l / 2

  among_assumed : (names : List ℕ) (C : Clause) → ((l : ℕ) → l ∈ C → variable l ∈ names) → (t : List ℕ) → Among t₀ t names → Among t₀ (assumed t C) names
  among_assumed names [] in' t a = rw assumed_end a
  among_assumed names (l ∷ C) in' t a =
      rw assumed_next
      (among_assumed names C (λ k m. in' k (Memᴰ.tail m)) (make_true t (complement l)) (among_true t names l (in' l (Memᴰ.head refl)) a))

  among_imaged : (names : List ℕ) (D : Clause) → ((l : ℕ) → l ∈ D → target l ∈ names) → (t : List ℕ) → Among t₀ t names → Among t₀ (imaged t D).table names
  among_imaged names [] in' t a = rw imaged_end a
  among_imaged names (l ∷ D) in' t a =
      go (among_imaged names D (λ k m. in' k (Memᴰ.tail m))) (ℕ_discrete (image_of t l) 0) (ℕ_discrete (image_of t l) 1) (true_at t (image_of t l)) refl
    where
      here : image_of t l / 2 ∈ names
      here = subst (λ (x : ℕ). x / 2 ∈ names) (sym (kept_image_of a.kept l)) (in' l (Memᴰ.head refl))

      go : ((u : List ℕ) → Among t₀ u names → Among t₀ (imaged u D).table names) → Dec (image_of t l ≡ 0) → Dec (image_of t l ≡ 1) → (b : Bool)
          → true_at t (image_of t l) ≡ b → Among t₀ (imaged t (l ∷ D)).table names
      go rec (yes z) d b q = rw (imaged_true t l D z) a
      go rec (no n) (yes z) b q = rw (imaged_false t l D z) (rec t a)
      go rec (no n) (no m) true q = rw (imaged_already t l D n m q) a
      go rec (no n) (no m) false q = rw (imaged_next t l D n m q) (rec (make_true t (complement (image_of t l))) (among_true t names (image_of t l) here a))

  among_unset_clause : (names : List ℕ) (C : Clause) (t : List ℕ) → Among t₀ t (map variable C ++ names) → Among t₀ (unset_clause t C) names
  among_unset_clause names [] t a = rw unset_clause_end a
  among_unset_clause names (l ∷ C) t a =
      rw unset_clause_next (among_unset_clause names C (set_value t (l / 2) 0) (among_unset t (map variable C ++ names) (l / 2) a))

  among_unset_images : (D : Clause) (t : List ℕ) → Among t₀ t (map target D) → Among t₀ (unset_images t D) []
  among_unset_images [] t a = rw unset_images_end a
  among_unset_images (l ∷ D) t a =
      rw (unset_images_next, kept_image_of a.kept l) (among_unset_images D (set_value t (target l) 0) (among_unset t (map target D) (target l) a))

  -- 3. Undone they bring a table with no value back: the clause alone, the images alone, and both.
  pub clause_undone : Unset t₀ → (C : Clause) (t : List ℕ) → Among t₀ t (map variable C) → unset_clause t C ≡ t₀
  clause_undone unset C t a = among_none unset (unset_clause t C) (among_unset_clause [] C t (rw append-nil a))

  module _ (unset : Unset t₀) (D : Clause) where
    images_back : unset_images (imaged t₀ D).table D ≡ t₀
    images_back =
        among_none unset (unset_images (imaged t₀ D).table D)
        (among_unset_images D (imaged t₀ D).table (among_imaged (map target D) D (λ l m. map_in target m) t₀ (among_start unset (map target D))))

    -- the tables in turn
    pub images_undone : (u : List ℕ) → u ≡ (imaged t₀ D).table → unset_images u D ≡ t₀
    images_undone u e = ap (λ (x : List ℕ). unset_images x D) e ∙ images_back

    module _ (C : Clause) where
      abbrev names : List ℕ
      names = map variable C ++ map target D

      abbrev left : List ℕ
      left = (imaged (assumed t₀ C) D).table

      among_left : Among t₀ left names
      among_left =
          among_imaged names D (λ l m. Memᴰ.append_right (map variable C) (map_in target m)) (assumed t₀ C)
          (among_assumed names C (λ l m. Memᴰ.append_left (map target D) (map_in variable m)) t₀ (among_start unset names))

      both_back : unset_images (unset_clause left C) D ≡ t₀
      both_back =
          among_none unset (unset_images (unset_clause left C) D)
          (among_unset_images D (unset_clause left C) (among_unset_clause (map target D) C left among_left))

      pub both_undone : (u : List ℕ) → u ≡ assumed t₀ C → (v : List ℕ) → v ≡ (imaged u D).table → (w : List ℕ) → w ≡ unset_clause v C
          → unset_images w D ≡ t₀
      both_undone u e v f w g =
          ap (λ (x : List ℕ). unset_images x D) (g ∙ ap (λ (x : List ℕ). unset_clause x C) (f ∙ ap (λ (x : List ℕ). (imaged x D).table) e)) ∙ both_back
