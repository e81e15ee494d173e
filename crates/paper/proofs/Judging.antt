-- The conditions as they are computed, and that the computed outcome of a step is the one that the conditions give, and the only one.
-- Assumes nothing.
use Prim.Native.Nat.{ℕ, zero, suc, ◌+◌, ◌*◌, ◌%◌, ◌/◌, ◌≤◌, ◌<◌}
use mathlib.Core.Path.{◌≡◌, refl, sym, ap, ◌∙◌, subst}
use mathlib.Core.Logic.{◌≢◌, ◌⊎◌, inl, inr}
use mathlib.Core.Bool.{Bool, true, false, ◌||◌, true≢false, false≢true}
use mathlib.Core.List.Memᴰ
use mathlib.Core.List.{List, [], ◌∷◌, ◌++◌, map}
use native.Mathlib.Omega.{arith}
use native.Mathlib.Nat.{le_antisymm}
use lib.Dec.{eqb}
use Rattle.paper.specs.declared.Reason.TheVariants.{NotRup, NotTrivialised, NotPassing}
use Rattle.paper.specs.Atoms.{complement, ◌∈◌, Clause, Formula, Live, Witness}
use Rattle.paper.specs.Files.{Step, rup_step, sr_step, wsr_step, delete_step}
use Rattle.paper.specs.Conditions.{look, image, RUP, Trivialises, to_true, to_complements, is_in, under, Passes, trivial, opposed, follows, Lowest, without, after}
use Rattle.paper.specs.Sweeps.{propagate}
use Rattle.paper.specs.Answers.{Outcome, taken, stops, Judged, rup, not_rup, sr, not_trivialised, sr_lowest, wsr, wsr_lowest, wsr_new, deleted}
use Rattle.paper.proofs.Lists.{eqb_yes, eqb_no, or_yes, or_no, is_in_yes, is_in_no, map_out, under_out, under_not_false, without_out}
use Rattle.paper.specs.Valid.{Codes, Apart, Valid, Rising, Kept, Seen}
use Rattle.paper.proofs.Propagation.{propagate_sound, propagate_complete}

-- 1. The tests.
unfoldable pub some : (ℕ → Bool) → List ℕ → Bool
some p [] = false
some p (l ∷ D) = elim (p l) [ true ↦ true | false ↦ some p D ]

unfoldable pub trivialises? : Witness → Clause → Bool
trivialises? s D = some (λ l. eqb (image s l) 0 || some (λ k. eqb (image s l) (complement (image s k))) D) D

unfoldable pub rup? : ℕ → Formula → Clause → Bool
rup? vars F C = (propagate vars F (map complement C)).clash

unfoldable pub passes? : ℕ → Formula → Clause → Witness → Clause → Bool
passes? vars F C s D =
    elim (trivialises? s D) [
      | true ↦ true
      | false ↦ elim (some (λ l. is_in (complement l) C) (under s D)) [ true ↦ true | false ↦ rup? vars F (C ++ under s D) ]
    ]

-- the number of the first clause of G, those named in MODULO apart, that does not pass
pub data Found : Type 0 where
  none : Found
  at : ℕ → Found

unfoldable pub failing : ℕ → Formula → Clause → Witness → List ℕ → Formula → Found
failing vars F C s modulo [] = none
failing vars F C s modulo (D ∷ G) =
    elim (is_in D.0 modulo) [
      | true ↦ failing vars F C s modulo G
      | false ↦ elim (passes? vars F C s D.1) [ true ↦ failing vars F C s modulo G | false ↦ at D.0 ]
    ]

unfoldable pub take_step : ℕ → Formula → ℕ → Step → Outcome
take_step vars F next (rup_step C) = elim (rup? vars F C) [ true ↦ taken (after [] next C F) (suc next) | false ↦ stops NotRup 0 ]
take_step vars F next (sr_step C s) =
    elim (trivialises? s C) [
      | true ↦ elim (failing vars F C s [] F) [ none ↦ taken (after [] next C F) (suc next) | at n ↦ stops NotPassing n ]
      | false ↦ stops NotTrivialised 0
    ]
take_step vars F next (wsr_step C s modulo) =
    elim (failing vars F C s modulo F) [
      | none ↦ elim (passes? vars F C s C) [ true ↦ taken (after modulo next C F) (suc next) | false ↦ stops NotPassing next ]
      | at n ↦ stops NotPassing n
    ]
take_step vars F next (delete_step ns) = taken (without ns F) next

-- 2. Each test against its condition.
some_yes : (p : ℕ → Bool) (D : Clause) → some p D ≡ true → (l : ℕ) × (l ∈ D) × (p l ≡ true)
unfolding some
some_yes p [] e = absurd (false≢true e)
some_yes p (l ∷ D) e = go (some_yes p D) (p l) refl e
  where
    go : (some p D ≡ true → (k : ℕ) × (k ∈ D) × (p k ≡ true)) → (b : Bool) → p l ≡ b → elim b [ true ↦ true | false ↦ some p D ] ≡ true
        → (k : ℕ) × (k ∈ l ∷ D) × (p k ≡ true)
    go below true q e = (l, Memᴰ.head refl, q)
    go below false q e = let r = below e in (r.0, Memᴰ.tail r.1, r.2)

some_no : (p : ℕ → Bool) (D : Clause) → some p D ≡ false → (l : ℕ) → l ∈ D → p l ≡ false
unfolding some
some_no p [] e l m = elim m [ ]
some_no p (x ∷ D) e l m = go (some_no p D) (p x) refl e m
  where
    go : (some p D ≡ false → (k : ℕ) → k ∈ D → p k ≡ false) → (b : Bool) → p x ≡ b → elim b [ true ↦ true | false ↦ some p D ] ≡ false
        → l ∈ x ∷ D → p l ≡ false
    go below true q e m = absurd (true≢false e)
    go below false q e (Memᴰ.head h) = ap p h ∙ q
    go below false q e (Memᴰ.tail m) = below e l m

pub trivialises_yes : (s : Witness) (D : Clause) → trivialises? s D ≡ true → Trivialises s D
unfolding trivialises?
trivialises_yes s D e =
    let r = some_yes (λ l. eqb (image s l) 0 || some (λ k. eqb (image s l) (complement (image s k))) D) D e in
    go r.0 r.1 (or_yes (eqb (image s r.0) 0) (some (λ k. eqb (image s r.0) (complement (image s k))) D) r.2)
  where
    go : (l : ℕ) → l ∈ D → (eqb (image s l) 0 ≡ true) ⊎ (some (λ k. eqb (image s l) (complement (image s k))) D ≡ true) → Trivialises s D
    go l m (inl q) = to_true m (eqb_yes (image s l) 0 q)
    go l m (inr q) =
        let r = some_yes (λ k. eqb (image s l) (complement (image s k))) D q in
        to_complements m r.1 (eqb_yes (image s l) (complement (image s r.0)) r.2)

pub trivialises_no : (s : Witness) (D : Clause) → trivialises? s D ≡ false → ¬ (Trivialises s D)
unfolding trivialises?
trivialises_no s D e t = go t
  where
    at_l : (l : ℕ) → l ∈ D → (eqb (image s l) 0 ≡ false) × (some (λ k. eqb (image s l) (complement (image s k))) D ≡ false)
    at_l l m =
        or_no (eqb (image s l) 0) (some (λ k. eqb (image s l) (complement (image s k))) D)
        (some_no (λ l. eqb (image s l) 0 || some (λ k. eqb (image s l) (complement (image s k))) D) D e l m)

    go : Trivialises s D → ⊥
    go (to_true {l} m q) = eqb_no (image s l) 0 (at_l l m).0 q
    go (to_complements {l} {k} m n q) =
        eqb_no (image s l) (complement (image s k)) (some_no (λ k. eqb (image s l) (complement (image s k))) D (at_l l m).1 k n) q

pub rup_yes : (vars : ℕ) (F : Formula) (C : Clause) → rup? vars F C ≡ true → RUP F C
unfolding rup?
rup_yes vars F C e = propagate_sound vars F (map complement C) e

complement_range : (vars l : ℕ) → (2 ≤ l) × (l ≤ 2 * vars + 1) → (2 ≤ complement l) × (complement l ≤ 2 * vars + 1)
unfolding complement
complement_range vars l h = omega arith

pub complements_codes : (vars : ℕ) (C : Clause) → Codes vars C → Codes vars (map complement C)
complements_codes vars C codes a m =
    let r = map_out complement C m in
    subst (λ (x : ℕ). (2 ≤ x) × (x ≤ 2 * vars + 1)) (sym r.2) (complement_range vars r.0 (codes r.0 r.1))

pub rup_complete : (vars : ℕ) (F : Formula) (C : Clause) → Valid vars F → Codes vars C → RUP F C → rup? vars F C ≡ true
unfolding rup?
rup_complete vars F C valid codes r = propagate_complete vars F (map complement C) valid (complements_codes vars C codes) r

-- images of validated atoms are atoms
abbrev pub Atoms : ℕ → Witness → Type 0
Atoms vars s = (v a : ℕ) → ◌∈◌ {A = ℕ × ℕ} (v, a) s → a ≤ 2 * vars + 1

pub look_range : (vars : ℕ) (s : Witness) (v : ℕ) → Atoms vars s → v ≤ vars → look s v ≤ 2 * vars + 1
unfolding look
look_range vars s zero atoms h = omega arith
look_range vars [] (suc v) atoms h = omega arith
look_range vars (m ∷ s) (suc v) atoms h = go (look_range vars s (suc v) (λ x a q. atoms x a (Memᴰ.tail q)) h) (eqb m.0 (suc v))
  where
    go : look s (suc v) ≤ 2 * vars + 1 → (b : Bool) → elim b [ true ↦ m.1 | false ↦ look s (suc v) ] ≤ 2 * vars + 1
    go below true = atoms m.0 m.1 (Memᴰ.head refl)
    go below false = below

pub image_range : (vars : ℕ) (s : Witness) (l : ℕ) → Atoms vars s → l ≤ 2 * vars + 1 → image s l ≤ 2 * vars + 1
unfolding image complement
image_range vars s l atoms h = go (eqb (l % 2) 0) (look_range vars s (l / 2) atoms (omega arith))
  where
    go : (b : Bool) → look s (l / 2) ≤ 2 * vars + 1 → elim b [ true ↦ look s (l / 2) | false ↦ complement (look s (l / 2)) ] ≤ 2 * vars + 1
    go true k = k
    go false k = omega arith

pub union_codes : (vars : ℕ) (C : Clause) (s : Witness) (D : Clause) → Codes vars C → Codes vars D → Atoms vars s → ¬ (Trivialises s D)
    → Codes vars (C ++ under s D)
union_codes vars C s D codes_c codes_d atoms nt l m = go (Memᴰ.append_cases C m)
  where
    go : (l ∈ C) ⊎ (l ∈ under s D) → (2 ≤ l) × (l ≤ 2 * vars + 1)
    go (inl q) = codes_c l q
    go (inr q) = (omega (arith, ne1, ne0), rw r.2 (image_range vars s r.0 atoms (codes_d r.0 r.1).1))
      where
        r : (k : ℕ) × (k ∈ D) × (l ≡ image s k)
        r = under_out s D q

        ne1 : l ≢ 1
        ne1 = under_not_false s D q

        ne0 : l ≢ 0
        ne0 e = nt (to_true r.1 (sym r.2 ∙ e))

pub passes_yes : (vars : ℕ) (F : Formula) (C : Clause) (s : Witness) (D : Clause) → passes? vars F C s D ≡ true → Passes F C s D
unfolding passes?
passes_yes vars F C s D e = go (trivialises? s D) refl (some (λ l. is_in (complement l) C) (under s D)) refl e
  where
    go : (a : Bool) → trivialises? s D ≡ a → (b : Bool) → some (λ l. is_in (complement l) C) (under s D) ≡ b
        → elim a [ true ↦ true | false ↦ elim b [ true ↦ true | false ↦ rup? vars F (C ++ under s D) ] ] ≡ true → Passes F C s D
    go true p b q e = trivial (trivialises_yes s D p)
    go false p true q e =
        let r = some_yes (λ l. is_in (complement l) C) (under s D) q in
        opposed r.1 (is_in_yes (complement r.0) C r.2)
    go false p false q e = follows (rup_yes vars F (C ++ under s D) e)

pub passes_complete : (vars : ℕ) (F : Formula) (C : Clause) (s : Witness) (D : Clause) → Valid vars F → Codes vars C → Codes vars D → Atoms vars s
    → Passes F C s D → passes? vars F C s D ≡ true
unfolding passes?
passes_complete vars F C s D valid codes_c codes_d atoms p = go (trivialises? s D) refl (some (λ l. is_in (complement l) C) (under s D)) refl p
  where
    go : (a : Bool) → trivialises? s D ≡ a → (b : Bool) → some (λ l. is_in (complement l) C) (under s D) ≡ b → Passes F C s D
        → elim a [ true ↦ true | false ↦ elim b [ true ↦ true | false ↦ rup? vars F (C ++ under s D) ] ] ≡ true
    go true t b q p = refl
    go false t true q p = refl
    go false t false q (trivial z) = absurd (trivialises_no s D t z)
    go false t false q (opposed {l} m n) = absurd (is_in_no (complement l) C (some_no (λ l. is_in (complement l) C) (under s D) q l m) n)
    go false t false q (follows r) = rup_complete vars F (C ++ under s D) valid (union_codes vars C s D codes_c codes_d atoms (trivialises_no s D t)) r

-- 3. The search for the lowest clause that does not pass.
module _ (vars : ℕ) (F : Formula) (C : Clause) (s : Witness) (modulo : List ℕ) where
  abbrev Searched : Formula → Found → Type 0
  Searched G none = (n : ℕ) (D : Clause) → Live G n D → ¬ (n ∈ modulo) → passes? vars F C s D ≡ true
  Searched G (at n) =
      ((D : Clause) × Live G n D × (¬ (n ∈ modulo)) × (passes? vars F C s D ≡ false))
      × ((m : ℕ) (E : Clause) → Live G m E → ¬ (m ∈ modulo) → passes? vars F C s E ≡ false → Rising G → n ≤ m)

  -- a clause that is named in MODULO, or passes, in front
  searched_first : (D : ℕ × Clause) (G : Formula) → (¬ (D.0 ∈ modulo) → passes? vars F C s D.1 ≡ true) → (r : Found) → Searched G r → Searched (D ∷ G) r
  searched_first D G ok none h = all
    where
      all : (n : ℕ) (E : Clause) → Live (D ∷ G) n E → ¬ (n ∈ modulo) → passes? vars F C s E ≡ true
      all n E (Memᴰ.head e) out =
          let q = ok (subst (λ (x : ℕ × Clause). ¬ (x.0 ∈ modulo)) e out) in
          subst (λ (x : ℕ × Clause). passes? vars F C s x.1 ≡ true) (sym e) q
      all n E (Memᴰ.tail m) out = h n E m out
  searched_first D G ok (at n) h = ((h.0.0, Memᴰ.tail h.0.1, h.0.2, h.0.3), least)
    where
      least : (m : ℕ) (E : Clause) → Live (D ∷ G) m E → ¬ (m ∈ modulo) → passes? vars F C s E ≡ false → Rising (D ∷ G) → n ≤ m
      least m E (Memᴰ.head e) out f rise =
          absurd (true≢false (sym (ok (subst (λ (x : ℕ × Clause). ¬ (x.0 ∈ modulo)) e out)) ∙ subst (λ (x : ℕ × Clause). passes? vars F C s x.1 ≡ false) e f))
      least m E (Memᴰ.tail q) out f rise = h.1 m E q out f rise.1

  searched : (G : Formula) → Searched G (failing vars F C s modulo G)
  unfolding failing
  searched [] = λ n D m out. elim m [ ]
  searched (D ∷ G) = go (searched G) (is_in D.0 modulo) refl (passes? vars F C s D.1) refl
    where
      go : Searched G (failing vars F C s modulo G) → (a : Bool) → is_in D.0 modulo ≡ a → (b : Bool) → passes? vars F C s D.1 ≡ b
          → Searched (D ∷ G) (elim a [
            | true ↦ failing vars F C s modulo G
            | false ↦ elim b [ true ↦ failing vars F C s modulo G | false ↦ at D.0 ]
          ])
      go below true p b q = searched_first D G (λ out. absurd (out (is_in_yes D.0 modulo p))) (failing vars F C s modulo G) below
      go below false p true q = searched_first D G (λ out. q) (failing vars F C s modulo G) below
      go below false p false q =
          ((D.1, Memᴰ.head refl, is_in_no D.0 modulo p, q), least)
        where
          least : (m : ℕ) (E : Clause) → Live (D ∷ G) m E → ¬ (m ∈ modulo) → passes? vars F C s E ≡ false → Rising (D ∷ G) → D.0 ≤ m
          least m E (Memᴰ.head e) out f rise = omega (arith, ap (λ (x : ℕ × Clause). x.0) e)
          least m E (Memᴰ.tail z) out f rise = omega (arith, rise.0 m E z)

-- 4. The outcome of a step.
module _ (vars : ℕ) (F : Formula) (valid : Valid vars F) (rising : Rising F) where
  not_passes : (C : Clause) (s : Witness) (D : Clause) → Codes vars C → Atoms vars s → Codes vars D → passes? vars F C s D ≡ false → ¬ (Passes F C s D)
  not_passes C s D codes atoms codes_d e p = true≢false (sym (passes_complete vars F C s D valid codes codes_d atoms p) ∙ e)

  fails_test : (C : Clause) (s : Witness) (D : Clause) → ¬ (Passes F C s D) → passes? vars F C s D ≡ false
  fails_test C s D np = go (passes? vars F C s D) refl
    where
      go : (b : Bool) → passes? vars F C s D ≡ b → passes? vars F C s D ≡ false
      go true e = absurd (np (passes_yes vars F C s D e))
      go false e = e

  lowest : (C : Clause) (s : Witness) (modulo : List ℕ) (n : ℕ) → Codes vars C → Atoms vars s → Searched vars F C s modulo F (at n) → Lowest F C s modulo n
  lowest C s modulo n codes atoms h =
      record {
        clause = h.0.0;
        live = h.0.1;
        unnamed = h.0.2;
        fails = not_passes C s h.0.0 codes atoms (valid.codes n h.0.0 h.0.1) h.0.3;
        least = λ m E q out np. h.1 m E q out (fails_test C s E np) rising;
      }

  pub take_step_judged : (next : ℕ) (t : Step) → Seen vars F next t → Judged F next t (take_step vars F next t)
  unfolding take_step
  take_step_judged next (rup_step C) ok = go (rup? vars F C) refl
    where
      go : (b : Bool) → rup? vars F C ≡ b → Judged F next (rup_step C) (elim b [ true ↦ taken (after [] next C F) (suc next) | false ↦ stops NotRup 0 ])
      go true e = rup (rup_yes vars F C e)
      go false e = not_rup (λ r. true≢false (sym (rup_complete vars F C valid ok.codes r) ∙ e))
  take_step_judged next (sr_step C s) ok = go (trivialises? s C) refl (failing vars F C s [] F) (searched vars F C s [] F)
    where
      go : (b : Bool) → trivialises? s C ≡ b → (r : Found) → Searched vars F C s [] F r
          → Judged F next (sr_step C s) (elim b [
            | true ↦ elim r [ none ↦ taken (after [] next C F) (suc next) | at n ↦ stops NotPassing n ]
            | false ↦ stops NotTrivialised 0
          ])
      go true e none h =
          sr (record { new = trivialises_yes s C e; old = λ n D q. passes_yes vars F C s D (h n D q (λ z. elim z [ ])) })
      go true e (at n) h = sr_lowest (trivialises_yes s C e) (lowest C s [] n ok.0.codes ok.1.atoms h)
      go false e r h = not_trivialised (trivialises_no s C e)
  take_step_judged next (wsr_step C s modulo) ok =
      go (failing vars F C s modulo F) (searched vars F C s modulo F) (passes? vars F C s C) refl
    where
      go : (r : Found) → Searched vars F C s modulo F r → (b : Bool) → passes? vars F C s C ≡ b
          → Judged F next (wsr_step C s modulo) (elim r [
            | none ↦ elim b [ true ↦ taken (after modulo next C F) (suc next) | false ↦ stops NotPassing next ]
            | at n ↦ stops NotPassing n
          ])
      go none h true e =
          wsr (record { new = passes_yes vars F C s C e; old = λ n D q out. passes_yes vars F C s D (h n D q out) })
      go none h false e =
          wsr_new (λ n D q out. passes_yes vars F C s D (h n D q out)) (not_passes C s C ok.0.codes ok.1.atoms ok.0.codes e)
      go (at n) h b e = wsr_lowest (lowest C s modulo n ok.0.codes ok.1.atoms h)
  take_step_judged next (delete_step ns) ok = deleted

-- 5. A step has one outcome.
pub same_lowest : (F : Formula) (C : Clause) (s : Witness) (modulo : List ℕ) (n m : ℕ) → Lowest F C s modulo n → Lowest F C s modulo m → n ≡ m
same_lowest F C s modulo n m a b =
    le_antisymm (a.least m b.clause b.live b.unnamed b.fails) (b.least n a.clause a.live a.unnamed a.fails)

pub judged_once : (F : Formula) (next : ℕ) (t : Step) (o p : Outcome) → Judged F next t o → Judged F next t p → o ≡ p
judged_once F next t o p (rup a) (rup b) = refl
judged_once F next t o p (rup a) (not_rup b) = absurd (b a)
judged_once F next t o p (not_rup a) (rup b) = absurd (a b)
judged_once F next t o p (not_rup a) (not_rup b) = refl
judged_once F next t o p (sr a) (sr b) = refl
judged_once F next t o p (sr a) (not_trivialised b) = absurd (b a.new)
judged_once F next t o p (sr a) (sr_lowest {n} b c) = absurd (c.fails (a.old n c.clause c.live))
judged_once F next t o p (not_trivialised a) (sr b) = absurd (a b.new)
judged_once F next t o p (not_trivialised a) (not_trivialised b) = refl
judged_once F next t o p (not_trivialised a) (sr_lowest b c) = absurd (a b)
judged_once F next t o p (sr_lowest {n} a c) (sr b) = absurd (c.fails (b.old n c.clause c.live))
judged_once F next t o p (sr_lowest a c) (not_trivialised b) = absurd (b a)
judged_once F next t o p (sr_lowest {C} {s} {n} a c) (sr_lowest {n = m} b d) = ap (stops NotPassing) (same_lowest F C s [] n m c d)
judged_once F next t o p (wsr a) (wsr b) = refl
judged_once F next t o p (wsr a) (wsr_lowest {n} c) = absurd (c.fails (a.old n c.clause c.live c.unnamed))
judged_once F next t o p (wsr a) (wsr_new b c) = absurd (c a.new)
judged_once F next t o p (wsr_lowest {n} c) (wsr a) = absurd (c.fails (a.old n c.clause c.live c.unnamed))
judged_once F next t o p (wsr_lowest {C} {s} {modulo} {n} c) (wsr_lowest {n = m} d) = ap (stops NotPassing) (same_lowest F C s modulo n m c d)
judged_once F next t o p (wsr_lowest {n} c) (wsr_new b d) = absurd (c.fails (b n c.clause c.live c.unnamed))
judged_once F next t o p (wsr_new a c) (wsr b) = absurd (c b.new)
judged_once F next t o p (wsr_new b d) (wsr_lowest {n} c) = absurd (c.fails (b n c.clause c.live c.unnamed))
judged_once F next t o p (wsr_new a c) (wsr_new b d) = refl
judged_once F next t o p deleted deleted = refl

-- 6. What a step leaves is kept well.
without_rising : (ns : List ℕ) (F : Formula) → Rising F → Rising (without ns F)
unfolding without
without_rising ns [] r = tt
without_rising ns (D ∷ F) r = go (without_rising ns F r.1) (is_in D.0 ns)
  where
    go : Rising (without ns F) → (b : Bool) → Rising (elim b [ true ↦ without ns F | false ↦ D ∷ without ns F ])
    go below true = below
    go below false = ((λ m E q. r.0 m E (without_out ns F q).0), below)

pub without_kept : (vars next : ℕ) (ns : List ℕ) (F : Formula) → Kept vars next F → Kept vars next (without ns F)
without_kept vars next ns F k =
    record {
      valid = record {
        codes = λ n D q. k.valid.codes n D (without_out ns F q).0;
        apart = λ n D q. k.valid.apart n D (without_out ns F q).0;
      };
      rising = without_rising ns F k.rising;
      from = λ n D q. k.from n D (without_out ns F q).0;
    }

last_rising : (F : Formula) (next : ℕ) (C : Clause) → Rising F → ((n : ℕ) (D : Clause) → Live F n D → n < next) → Rising (F ++ ((next, C) ∷ []))
last_rising [] next C r below = ((λ m E q. elim q [ ]), tt)
last_rising (D ∷ F) next C r below = (first, last_rising F next C r.1 (λ n E q. below n E (Memᴰ.tail q)))
  where
    side : (m : ℕ) (E : Clause) → (Live F m E) ⊎ (Live ((next, C) ∷ []) m E) → D.0 < m
    side m E (inl q) = r.0 m E q
    side m E (inr q) =
        let e = ap (λ (x : ℕ × Clause). x.0) (Memᴰ.eq_of_singleton q) in
        let h = below D.0 D.1 (Memᴰ.head refl) in
        omega arith

    first : (m : ℕ) (E : Clause) → Live (F ++ ((next, C) ∷ [])) m E → D.0 < m
    first m E q = side m E (Memᴰ.append_cases F q)

pub after_kept : (vars next : ℕ) (modulo : List ℕ) (C : Clause) (F : Formula) → 1 ≤ next → Codes vars C → Apart C → Kept vars next F
    → Kept vars (suc next) (after modulo next C F)
unfolding after
after_kept vars next modulo C F one codes apart k =
    record {
      valid = record { codes = codes'; apart = apart' };
      rising = last_rising G next C g.rising (λ n D q. (g.from n D q).1);
      from = from';
    }
  where
    G : Formula
    G = without modulo F

    g : Kept vars next G
    g = without_kept vars next modulo F k

    -- of a clause of G or C
    either : (P : ℕ × Clause → Type 0) → ((n : ℕ) (D : Clause) → Live G n D → P (n, D)) → P (next, C) → (n : ℕ) (D : Clause)
        → Live (G ++ ((next, C) ∷ [])) n D → P (n, D)
    either P old new n D q = side (Memᴰ.append_cases G q)
      where
        side : (Live G n D) ⊎ (Live ((next, C) ∷ []) n D) → P (n, D)
        side (inl m) = old n D m
        side (inr m) = subst P (sym (Memᴰ.eq_of_singleton m)) new

    codes' : (n : ℕ) (D : Clause) → Live (G ++ ((next, C) ∷ [])) n D → Codes vars D
    codes' n D q = either (λ x. Codes vars x.1) g.valid.codes codes n D q

    apart' : (n : ℕ) (D : Clause) → Live (G ++ ((next, C) ∷ [])) n D → Apart D
    apart' n D q = either (λ x. Apart x.1) g.valid.apart apart n D q

    from' : (n : ℕ) (D : Clause) → Live (G ++ ((next, C) ∷ [])) n D → (1 ≤ n) × (n < suc next)
    from' n D q =
        either (λ x. (1 ≤ x.0) × (x.0 < suc next)) (λ m E p. let h = g.from m E p in (omega arith, omega arith)) (one, omega arith) n D q

pub judged_kept : (vars : ℕ) (F : Formula) (next : ℕ) (t : Step) (G : Formula) (m : ℕ) → 1 ≤ next → Kept vars next F → Seen vars F next t
    → Judged F next t (taken G m) → (1 ≤ m) × Kept vars m G
judged_kept vars F next t G m one k s (rup {C} j) = (omega arith, after_kept vars next [] C F one s.codes s.apart k)
judged_kept vars F next t G m one k s (sr {C} j) = (omega arith, after_kept vars next [] C F one s.0.codes s.0.apart k)
judged_kept vars F next t G m one k s (wsr {C} {modulo} j) = (omega arith, after_kept vars next modulo C F one s.0.codes s.0.apart k)
judged_kept vars F next t G m one k s (deleted {ns}) = (one, without_kept vars next ns F k)
