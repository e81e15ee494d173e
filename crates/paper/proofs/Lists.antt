-- Tests as facts, and membership in the lists that the definitions make.
-- Assumes nothing.
use Prim.Native.Nat.{ℕ, ◌+◌, ◌*◌, ◌-◌, ◌%◌, ◌/◌, ◌≤◌, ◌<◌}
use mathlib.Core.Path.{◌≡◌, refl, sym, ap, ◌∙◌, subst}
use mathlib.Core.Logic.{◌≢◌, ◌⊎◌, inl, inr}
use mathlib.Core.Bool.{Bool, true, false, ◌&&◌, ◌||◌, true≢false, false≢true}
use mathlib.Core.List.Memᴰ
use mathlib.Core.List.{List, [], ◌∷◌, map}
use native.Mathlib.Omega.{arith}
use native.Mathlib.Decide.{dec_lt}
use lib.Dec.{T, eqb, eqb→eq, eqb_refl, leb, leb→le, le→leb}
use Rattle.paper.specs.Atoms.{complement, ◌∈◌, Clause, Formula, Live, Witness}
use Rattle.paper.specs.Conditions.{image, once, is_in, under, without, after}
use Rattle.paper.specs.Valid.{Distinct}

-- complement exchanges 2k and 2k + 1
pub complement_twice : (l : ℕ) → complement (complement l) ≡ l
unfolding complement
complement_twice l = omega arith

pub complement_even : (k : ℕ) → complement (2 * k) ≡ 2 * k + 1
unfolding complement
complement_even k = omega arith

pub complement_odd : (k : ℕ) → complement (2 * k + 1) ≡ 2 * k
unfolding complement
complement_odd k = omega arith

pub complement_half : (l : ℕ) → complement l / 2 ≡ l / 2
unfolding complement
complement_half l = omega arith

pub complement_mod : (l : ℕ) → complement l % 2 ≡ 1 - l % 2
unfolding complement
complement_mod l = omega arith

pub complement_other : (l : ℕ) → complement l ≢ l
unfolding complement
complement_other l = omega arith

pub complement_inj : (k l : ℕ) → complement k ≡ complement l → k ≡ l
complement_inj k l e = sym (complement_twice k) ∙ ap complement e ∙ complement_twice l

pub same_half : (k l : ℕ) → k / 2 ≡ l / 2 → k % 2 ≡ l % 2 → k ≡ l
same_half k l h m = omega arith

-- the tests, as facts
pub eqb_yes : (a b : ℕ) → eqb a b ≡ true → a ≡ b
eqb_yes a b e = eqb→eq a b (subst T (sym e) tt)

pub eqb_no : (a b : ℕ) → eqb a b ≡ false → a ≢ b
eqb_no a b e p = subst T e (subst (λ (x : ℕ). T (eqb a x)) p (eqb_refl a))

pub eqb_same : (a b : ℕ) → a ≡ b → eqb a b ≡ true
eqb_same a b e = go (eqb a b) refl
  where
    go : (t : Bool) → eqb a b ≡ t → eqb a b ≡ true
    go true q = q
    go false q = absurd (eqb_no a b q e)

pub eqb_other : (a b : ℕ) → a ≢ b → eqb a b ≡ false
eqb_other a b ne = go (eqb a b) refl
  where
    go : (t : Bool) → eqb a b ≡ t → eqb a b ≡ false
    go true q = absurd (ne (eqb_yes a b q))
    go false q = q

T_true : (b : Bool) → T b → b ≡ true
T_true true x = refl
T_true false x = absurd x

pub leb_yes : (a b : ℕ) → leb a b ≡ true → a ≤ b
leb_yes a b e = leb→le a b (subst T (sym e) tt)

pub leb_no : (a b : ℕ) → leb a b ≡ false → b < a
leb_no a b e = go (dec_lt b a)
  where
    go : Dec (b < a) → b < a
    go (yes h) = h
    go (no h) = absurd (false≢true (sym e ∙ T_true (leb a b) (le→leb a b (omega arith))))

pub leb_within : (a b : ℕ) → a ≤ b → leb a b ≡ true
leb_within a b h = T_true (leb a b) (le→leb a b h)

pub leb_beyond : (a b : ℕ) → b < a → leb a b ≡ false
leb_beyond a b h = go (leb a b) refl
  where
    go : (t : Bool) → leb a b ≡ t → leb a b ≡ false
    go true e = let k = leb_yes a b e in absurd (omega arith)
    go false e = e

pub and_yes : (a b : Bool) → (a && b) ≡ true → (a ≡ true) × (b ≡ true)
and_yes true b e = (refl, e)
and_yes false b e = absurd (false≢true e)

pub or_yes : (a b : Bool) → (a || b) ≡ true → (a ≡ true) ⊎ (b ≡ true)
or_yes true b e = inl refl
or_yes false b e = inr e

pub or_no : (a b : Bool) → (a || b) ≡ false → (a ≡ false) × (b ≡ false)
or_no true b e = absurd (true≢false e)
or_no false b e = (refl, e)

pub map_out : (f : ℕ → ℕ) (C : List ℕ) {a : ℕ} → a ∈ map f C → (l : ℕ) × (l ∈ C) × (a ≡ f l)
map_out f [] m = elim m [ ]
map_out f (x ∷ C) (Memᴰ.head e) = (x, Memᴰ.head refl, e)
map_out f (x ∷ C) (Memᴰ.tail m) = let r = map_out f C m in (r.0, Memᴰ.tail r.1, r.2)

pub map_in : (f : ℕ → ℕ) {l : ℕ} {C : List ℕ} → l ∈ C → f l ∈ map f C
map_in f (Memᴰ.head e) = Memᴰ.head (ap f e)
map_in f (Memᴰ.tail m) = Memᴰ.tail (map_in f m)

pub is_in_yes : (a : ℕ) (l : List ℕ) → is_in a l ≡ true → a ∈ l
unfolding is_in
is_in_yes a [] e = absurd (false≢true e)
is_in_yes a (b ∷ l) e = go (is_in_yes a l) (eqb a b) refl e
  where
    go : (is_in a l ≡ true → a ∈ l) → (t : Bool) → eqb a b ≡ t → (t || is_in a l) ≡ true → a ∈ b ∷ l
    go below true p e = Memᴰ.head (eqb_yes a b p)
    go below false p e = Memᴰ.tail (below e)

pub is_in_no : (a : ℕ) (l : List ℕ) → is_in a l ≡ false → ¬ (a ∈ l)
unfolding is_in
is_in_no a [] e m = elim m [ ]
is_in_no a (b ∷ l) e m = go (is_in_no a l) (eqb a b) refl e m
  where
    go : (is_in a l ≡ false → ¬ (a ∈ l)) → (t : Bool) → eqb a b ≡ t → (t || is_in a l) ≡ false → a ∈ b ∷ l → ⊥
    go below true p e m = true≢false e
    go below false p e (Memᴰ.head q) = eqb_no a b p q
    go below false p e (Memᴰ.tail m) = below e m

pub once_out : (a : ℕ) (l : List ℕ) {k : ℕ} → k ∈ once a l → (k ≡ a) ⊎ (k ∈ l)
unfolding once
once_out a l {k} m = go (is_in a l) m
  where
    go : (b : Bool) → k ∈ elim b [ true ↦ l | false ↦ a ∷ l ] → (k ≡ a) ⊎ (k ∈ l)
    go true m = inr m
    go false (Memᴰ.head e) = inl e
    go false (Memᴰ.tail m) = inr m

pub under_out : (s : Witness) (D : Clause) {k : ℕ} → k ∈ under s D → (l : ℕ) × (l ∈ D) × (k ≡ image s l)
unfolding under
under_out s [] m = elim m [ ]
under_out s (l ∷ D) {k} m = go (λ q. under_out s D {k = k} q) (eqb (image s l) 1) m
  where
    tail : (k ∈ under s D → (j : ℕ) × (j ∈ D) × (k ≡ image s j)) → k ∈ under s D → (j : ℕ) × (j ∈ l ∷ D) × (k ≡ image s j)
    tail below m = let r = below m in (r.0, Memᴰ.tail r.1, r.2)

    side : (k ∈ under s D → (j : ℕ) × (j ∈ D) × (k ≡ image s j)) → (k ≡ image s l) ⊎ (k ∈ under s D) → (j : ℕ) × (j ∈ l ∷ D) × (k ≡ image s j)
    side below (inl e) = (l, Memᴰ.head refl, e)
    side below (inr q) = tail below q

    go : (k ∈ under s D → (j : ℕ) × (j ∈ D) × (k ≡ image s j)) → (b : Bool)
        → k ∈ elim b [ true ↦ under s D | false ↦ once (image s l) (under s D) ] → (j : ℕ) × (j ∈ l ∷ D) × (k ≡ image s j)
    go below true m = tail below m
    go below false m = side below (once_out (image s l) (under s D) m)

pub without_out : (ns : List ℕ) (F : Formula) {n : ℕ} {D : Clause} → Live (without ns F) n D → (Live F n D) × (¬ (n ∈ ns))
unfolding without
without_out ns [] m = elim m [ ]
without_out ns (E ∷ F) {n} {D} m = go (λ q. without_out ns F {n = n} {D = D} q) (is_in E.0 ns) refl m
  where
    tail : (Live (without ns F) n D → (Live F n D) × (¬ (n ∈ ns))) → Live (without ns F) n D → (Live (E ∷ F) n D) × (¬ (n ∈ ns))
    tail below q = (Memᴰ.tail (below q).0, (below q).1)

    go : (Live (without ns F) n D → (Live F n D) × (¬ (n ∈ ns))) → (b : Bool) → is_in E.0 ns ≡ b
        → Live (elim b [ true ↦ without ns F | false ↦ E ∷ without ns F ]) n D → (Live (E ∷ F) n D) × (¬ (n ∈ ns))
    go below true e m = tail below m
    go below false e (Memᴰ.head p) =
        (Memᴰ.head p, subst (λ (x : ℕ). ¬ (x ∈ ns)) (sym (ap (λ (r : ℕ × Clause). r.0) p)) (is_in_no E.0 ns e))
    go below false e (Memᴰ.tail m) = tail below m

pub under_not_false : (s : Witness) (D : Clause) {k : ℕ} → k ∈ under s D → k ≢ 1
unfolding under
under_not_false s [] m = elim m [ ]
under_not_false s (l ∷ D) {k} m = go (λ q. under_not_false s D {k = k} q) (eqb (image s l) 1) refl m
  where
    side : (k ∈ under s D → k ≢ 1) → eqb (image s l) 1 ≡ false → (k ≡ image s l) ⊎ (k ∈ under s D) → k ≢ 1
    side below e (inl p) q = eqb_no (image s l) 1 e (sym p ∙ q)
    side below e (inr m) q = below m q

    go : (k ∈ under s D → k ≢ 1) → (b : Bool) → eqb (image s l) 1 ≡ b
        → k ∈ elim b [ true ↦ under s D | false ↦ once (image s l) (under s D) ] → k ≢ 1
    go below true e m = below m
    go below false e m = side below e (once_out (image s l) (under s D) m)

once_new : (a : ℕ) (l : List ℕ) → a ∈ once a l
unfolding once
once_new a l = go (is_in a l) refl
  where
    go : (b : Bool) → is_in a l ≡ b → a ∈ elim b [ true ↦ l | false ↦ a ∷ l ]
    go true e = is_in_yes a l e
    go false e = Memᴰ.head refl

once_old : (a : ℕ) (l : List ℕ) {k : ℕ} → k ∈ l → k ∈ once a l
unfolding once
once_old a l {k} m = go (is_in a l)
  where
    go : (b : Bool) → k ∈ elim b [ true ↦ l | false ↦ a ∷ l ]
    go true = m
    go false = Memᴰ.tail m

once_distinct : (a : ℕ) (l : List ℕ) → Distinct l → Distinct (once a l)
unfolding once
once_distinct a l d = go (is_in a l) refl
  where
    go : (b : Bool) → is_in a l ≡ b → Distinct (elim b [ true ↦ l | false ↦ a ∷ l ])
    go true e = d
    go false e = (is_in_no a l e, d)

-- every image but false stands in D under s, and each once
pub under_in : (s : Witness) (D : Clause) {l : ℕ} → l ∈ D → image s l ≢ 1 → image s l ∈ under s D
unfolding under
under_in s (x ∷ D) {l} m ne = go (λ q. under_in s D {l = l} q ne) (eqb (image s x) 1) refl m
  where
    go : (l ∈ D → image s l ∈ under s D) → (b : Bool) → eqb (image s x) 1 ≡ b → l ∈ x ∷ D
        → image s l ∈ elim b [ true ↦ under s D | false ↦ once (image s x) (under s D) ]
    go below true e (Memᴰ.head p) = absurd (ne (ap (image s) p ∙ eqb_yes (image s x) 1 e))
    go below true e (Memᴰ.tail q) = below q
    go below false e (Memᴰ.head p) = subst (λ (k : ℕ). k ∈ once (image s x) (under s D)) (sym (ap (image s) p)) (once_new (image s x) (under s D))
    go below false e (Memᴰ.tail q) = once_old (image s x) (under s D) (below q)
under_in s [] m ne = elim m [ ]

pub under_distinct : (s : Witness) (D : Clause) → Distinct (under s D)
unfolding under
under_distinct s [] = tt
under_distinct s (x ∷ D) = go (under_distinct s D) (eqb (image s x) 1)
  where
    go : Distinct (under s D) → (b : Bool) → Distinct (elim b [ true ↦ under s D | false ↦ once (image s x) (under s D) ])
    go below true = below
    go below false = once_distinct (image s x) (under s D) below

-- a clause whose number is not named stays live
pub without_in : (ns : List ℕ) (F : Formula) {n : ℕ} {D : Clause} → Live F n D → ¬ (n ∈ ns) → Live (without ns F) n D
unfolding without
without_in ns [] m out = elim m [ ]
without_in ns (E ∷ F) {n} {D} m out = go (λ q. without_in ns F {n = n} {D = D} q out) (is_in E.0 ns) refl m
  where
    go : (Live F n D → Live (without ns F) n D) → (b : Bool) → is_in E.0 ns ≡ b → Live (E ∷ F) n D
        → Live (elim b [ true ↦ without ns F | false ↦ E ∷ without ns F ]) n D
    go below true e (Memᴰ.head p) =
        absurd (out (subst (λ (x : ℕ). x ∈ ns) (sym (ap (λ (r : ℕ × Clause). r.0) p)) (is_in_yes E.0 ns e)))
    go below true e (Memᴰ.tail q) = below q
    go below false e (Memᴰ.head p) = Memᴰ.head p
    go below false e (Memᴰ.tail q) = Memᴰ.tail (below q)

pub after_new : (modulo : List ℕ) (n : ℕ) (C : Clause) (F : Formula) → Live (after modulo n C F) n C
unfolding after
after_new modulo n C F = Memᴰ.append_right (without modulo F) (Memᴰ.head refl)

pub after_old : (modulo : List ℕ) (n : ℕ) (C : Clause) (F : Formula) {m : ℕ} {D : Clause} → Live F m D → ¬ (m ∈ modulo) → Live (after modulo n C F) m D
unfolding after
after_old modulo n C F q out = Memᴰ.append_left ((n, C) ∷ []) (without_in modulo F q out)
