-- The definitions of the promise held from both sides: what the paper's sentence takes in is in, and nothing else is. One that were empty,
-- or true of everything, would not meet these laws.
-- Assumes nothing.
use Prim.Native.Nat.{ℕ, zero, suc, ◌+◌, ◌*◌, ◌-◌, ◌%◌, ◌/◌, ◌≤◌, ◌<◌}
use mathlib.Core.Path.{◌≡◌, refl, sym, ap, ◌∙◌, subst}
use mathlib.Core.Logic.{◌≢◌, ◌⊎◌, inl, inr, ◌↔◌}
use mathlib.Core.Bool.{Bool, true, false, not, true≢false, false≢true}
use mathlib.Core.List.Memᴰ
use mathlib.Core.List.{List, [], ◌∷◌, ◌++◌, map}
use native.Mathlib.Omega.{arith}
use lib.Dec.{eqb}
use lib.ListN.{length, get_or, drop, replicate, length-append, length-drop, length-replicate, get_or-replicate, get_or-append}
use lib.Seq.{get_or-append-add, get_or-drop}
use Rattle.paper.specs.declared.Reason.{Reason}
use Rattle.paper.specs.declared.Verdict.{Verdict}
use Rattle.paper.specs.Atoms.{complement, ◌∈◌, Clause, Formula, Live, Witness}
use Rattle.paper.specs.Files.{File, ok, ◌>>=◌, ◌>>◌, need, two, payload, past, field, four, even, codes, Step, rup_step, sr_step, wsr_step, delete_step}
use Rattle.paper.specs.Conditions.{look, image, is_in, Derived, given, unit, Clash, both, broken, RUP, Trivialises, to_true, to_complements, under, Passes, trivial, opposed, follows, without, after}
use Rattle.paper.specs.Stowages.{Stowage, variable, value, moved, meets, Meets, carried}
use Rattle.paper.specs.Refusals.{each, no_two, between, check_clause, read_clauses, read_formula}
use Rattle.paper.specs.Answers.{verdict_numbers, Outcome, taken, stops, Judged, rup, not_trivialised, sr, sr_lowest, wsr, wsr_lowest, wsr_new, deleted, memory_after, stowed, Carried, start, step}
use Rattle.paper.proofs.Lists.{complement_twice, complement_inj, complement_even, eqb_yes, eqb_no, eqb_same, eqb_other, is_in_yes, is_in_no, map_out, map_in, under_in, under_out, without_out, after_new, after_old}
use Rattle.paper.proofs.Judging.{trivialises?, trivialises_yes, trivialises_no, judged_once}
use Rattle.paper.proofs.Answering.{same_read}
use Rattle.paper.proofs.Soundness.{value_moved, meets_in, meets_out, trivialised_meets}
use Rattle.paper.proofs.Cases.{F1, pair}

-- 1. Stowages. "A stowage gives each of the variables 1 to V true or false"; "a constant has its own value".
pub value_variable : (I : Stowage) (v : ℕ) → 1 ≤ v → (value I (2 * v) ≡ I v) × (value I (2 * v + 1) ≡ not (I v))
unfolding value variable
value_variable I zero h = absurd (omega arith)
value_variable I (suc v) h =
    let a : 2 * suc v % 2 ≡ 0 = omega arith in
    let b : 2 * suc v / 2 ≡ suc v = omega arith in
    let c : (2 * suc v + 1) % 2 ≡ 1 = omega arith in
    let d : (2 * suc v + 1) / 2 ≡ suc v = omega arith in
    (rw (a, value, b), rw (c, value, d))

pub value_constant : (I : Stowage) → (value I 0 ≡ true) × (value I 1 ≡ false)
unfolding value variable
value_constant I = (refl, refl)

-- exactly the stowages that make a literal of it true meet a clause
pub meets_exactly : (I : Stowage) (C : Clause) → (meets I C ≡ true) ↔ ((l : ℕ) × (l ∈ C) × (value I l ≡ true))
meets_exactly I C = (meets_out I C, λ r. meets_in I r.1 r.2)

-- exactly those that make a literal of every live clause true meet a formula
pub formula_met_exactly : (I : Stowage) (F : Formula)
    → Meets I F ↔ ((n : ℕ) (D : Clause) → Live F n D → (l : ℕ) × (l ∈ D) × (value I l ≡ true))
formula_met_exactly I F =
    ((λ m n D q. (meets_exactly I D).0 (m n D q)), λ f n D q. (meets_exactly I D).1 (f n D q))

-- The formula of case A, as it is read; 1 true, 2 false meets it, and 1 true, 2 true does not.
pub read_a : read_formula F1 ≡ ok (2, (1, 3 ∷ 5 ∷ []) ∷ [], 2)
unfolding read_formula read_clauses check_clause each no_two between field need two payload past four even codes is_in ◌>>=◌ ◌>>◌
read_a = refl

pub met_a : Meets (pair true false) ((1, 3 ∷ 5 ∷ []) ∷ [])
unfolding meets value variable pair
met_a n D (Memᴰ.head e) = ap (λ (x : ℕ × Clause). meets (pair true false) x.1) e
met_a n D (Memᴰ.tail m) = elim m [ ]

pub unmet_a : ¬ (Meets (pair true true) ((1, 3 ∷ 5 ∷ []) ∷ []))
unfolding meets value variable pair
unmet_a m = false≢true (m 1 (3 ∷ 5 ∷ []) (Memᴰ.head refl))

-- 2. Witnesses. "Unlisted variables map to themselves"; a variable that is listed once, to its atom.
pub look_listed : (s : Witness) (v a : ℕ) → 1 ≤ v → ◌∈◌ {A = ℕ × ℕ} (v, a) s → ((b : ℕ) → ◌∈◌ {A = ℕ × ℕ} (v, b) s → b ≡ a) → look s v ≡ a
unfolding look
look_listed s zero a h m once = absurd (omega arith)
look_listed [] (suc v) a h m once = elim m [ ]
look_listed (x ∷ s) (suc v) a h m once = go (λ q. look_listed s (suc v) a h q (λ b r. once b (Memᴰ.tail r))) (eqb x.0 (suc v)) refl m
  where
    go : (◌∈◌ {A = ℕ × ℕ} (suc v, a) s → look s (suc v) ≡ a) → (t : Bool) → eqb x.0 (suc v) ≡ t → ◌∈◌ {A = ℕ × ℕ} (suc v, a) (x ∷ s)
        → elim t [ true ↦ x.1 | false ↦ look s (suc v) ] ≡ a
    go below true e m = once x.1 (Memᴰ.head (ap (λ (w : ℕ). (w, x.1)) (sym (eqb_yes x.0 (suc v) e))))
    go below false e (Memᴰ.head p) = absurd (eqb_no x.0 (suc v) e (sym (ap (λ (y : ℕ × ℕ). y.0) p)))
    go below false e (Memᴰ.tail q) = below q

pub look_unlisted : (s : Witness) (v : ℕ) → 1 ≤ v → ((a : ℕ) → ¬ (◌∈◌ {A = ℕ × ℕ} (v, a) s)) → look s v ≡ 2 * v
unfolding look
look_unlisted s zero h out = absurd (omega arith)
look_unlisted [] (suc v) h out = refl
look_unlisted (x ∷ s) (suc v) h out = go (look_unlisted s (suc v) h (λ a q. out a (Memᴰ.tail q))) (eqb x.0 (suc v)) refl
  where
    go : look s (suc v) ≡ 2 * suc v → (t : Bool) → eqb x.0 (suc v) ≡ t → elim t [ true ↦ x.1 | false ↦ look s (suc v) ] ≡ 2 * suc v
    go below true e = absurd (out x.1 (Memᴰ.head (ap (λ (w : ℕ). (w, x.1)) (sym (eqb_yes x.0 (suc v) e)))))
    go below false e = below

-- "s of a complement is the complement of s"; a constant is its own image
pub image_variable : (s : Witness) (v : ℕ) → (image s (2 * v) ≡ look s v) × (image s (2 * v + 1) ≡ complement (look s v))
unfolding image
image_variable s v =
    let a : 2 * v % 2 ≡ 0 = omega arith in
    let b : 2 * v / 2 ≡ v = omega arith in
    let c : (2 * v + 1) % 2 ≡ 1 = omega arith in
    let d : (2 * v + 1) / 2 ≡ v = omega arith in
    (rw (a, image, b), rw (c, image, d))

pub image_constant : (s : Witness) → (image s 0 ≡ 0) × (image s 1 ≡ 1)
unfolding image look complement
image_constant s = (refl, refl)

-- "Moved by s, it gives each variable the value that its image had before the move"
module _ (s : Witness) (I : Stowage) (v : ℕ) (h : 1 ≤ v) where
  pub moved_listed : (a : ℕ) → ◌∈◌ {A = ℕ × ℕ} (v, a) s → ((b : ℕ) → ◌∈◌ {A = ℕ × ℕ} (v, b) s → b ≡ a) → moved s I v ≡ value I a
  unfolding moved
  moved_listed a m once = ap (value I) (look_listed s v a h m once)

  pub moved_unlisted : ((a : ℕ) → ¬ (◌∈◌ {A = ℕ × ℕ} (v, a) s)) → moved s I v ≡ I v
  unfolding moved
  moved_unlisted out = ap (value I) (look_unlisted s v h out) ∙ (value_variable I v h).0

-- moved by the witness at an SR or WSR step whose new clause fails, and left alone otherwise
module _ (I : Stowage) (C : Clause) (s : Witness) (modulo : List ℕ) where
  pub stowed_moved : meets I C ≡ false → (stowed (sr_step C s) I ≡ moved s I) × (stowed (wsr_step C s modulo) I ≡ moved s I)
  unfolding stowed carried
  stowed_moved e = (rw (e, carried), rw (e, carried))

  pub stowed_kept : meets I C ≡ true → (stowed (sr_step C s) I ≡ I) × (stowed (wsr_step C s modulo) I ≡ I)
  unfolding stowed carried
  stowed_kept e = (rw (e, carried), rw (e, carried))

pub stowed_alone : (I : Stowage) (C : Clause) (ns : List ℕ) → (stowed (rup_step C) I ≡ I) × (stowed (delete_step ns) I ≡ I)
unfolding stowed
stowed_alone I C ns = (refl, refl)

-- D under s is met before the move exactly where D is met after it
pub under_exactly : (s : Witness) (I : Stowage) (D : Clause) → (meets I (under s D) ≡ true) ↔ (meets (moved s I) D ≡ true)
under_exactly s I D = (after_move, before_move)
  where
    after_move : meets I (under s D) ≡ true → meets (moved s I) D ≡ true
    after_move e =
        let r = meets_out I (under s D) e in
        let q = under_out s D r.1 in
        meets_in (moved s I) q.1 (value_moved s I q.0 ∙ ap (value I) (sym q.2) ∙ r.2)

    before_move : meets (moved s I) D ≡ true → meets I (under s D) ≡ true
    before_move e =
        let r = meets_out (moved s I) D e in
        let t = sym (value_moved s I r.0) ∙ r.2 in
        meets_in I (under_in s D r.1 (λ f. false≢true (sym (value_constant I).1 ∙ ap (value I) (sym f) ∙ t))) t

-- s trivialises D exactly where every stowage, once moved by s, meets D. Where no image is true and no two are complements, this one makes
-- them all false.
unfoldable against : Witness → Clause → Stowage
against s D v = is_in (2 * v + 1) (under s D)

module _ (s : Witness) (D : Clause) (not_trivial : ¬ (Trivialises s D)) where
  against_even : (l v : ℕ) → l ∈ D → image s l ≡ 2 * v → against s D v ≡ false
  unfolding against
  against_even l v m i = go (is_in (2 * v + 1) (under s D)) refl
    where
      go : (b : Bool) → is_in (2 * v + 1) (under s D) ≡ b → b ≡ false
      go true e =
          let r = under_out s D (is_in_yes (2 * v + 1) (under s D) e) in
          absurd (not_trivial (to_complements r.1 m (sym r.2 ∙ sym (complement_even v) ∙ ap complement (sym i))))
      go false e = refl

  against_odd : (l v : ℕ) → l ∈ D → 1 ≤ v → image s l ≡ 2 * v + 1 → against s D v ≡ true
  unfolding against
  against_odd l v m h i = go (is_in (2 * v + 1) (under s D)) refl
    where
      one : 2 * v + 1 ≢ 1
      one = omega arith

      go : (b : Bool) → is_in (2 * v + 1) (under s D) ≡ b → b ≡ true
      go true e = refl
      go false e =
          absurd (is_in_no (2 * v + 1) (under s D) e (subst (λ (a : ℕ). a ∈ under s D) i (under_in s D m (λ f. one (sym i ∙ f)))))

  against_image : (l a : ℕ) → l ∈ D → image s l ≡ a → value (against s D) a ≡ false
  against_image l zero m i = absurd (not_trivial (to_true m i))
  against_image l (suc zero) m i = (value_constant (against s D)).1
  against_image l (suc (suc b)) m i = go (eqb (suc (suc b) % 2) 0) refl
    where
      v : ℕ
      v = suc (suc b) / 2

      go : (t : Bool) → eqb (suc (suc b) % 2) 0 ≡ t → value (against s D) (suc (suc b)) ≡ false
      go true e =
          let z = eqb_yes (suc (suc b) % 2) 0 e in
          let q : suc (suc b) ≡ 2 * (suc (suc b) / 2) = omega arith in
          let one : 1 ≤ suc (suc b) / 2 = omega arith in
          ap (value (against s D)) q ∙ (value_variable (against s D) v one).0 ∙ against_even l v m (i ∙ q)
      go false e =
          let z = eqb_no (suc (suc b) % 2) 0 e in
          let q : suc (suc b) ≡ 2 * (suc (suc b) / 2) + 1 = omega arith in
          let one : 1 ≤ suc (suc b) / 2 = omega arith in
          ap (value (against s D)) q ∙ (value_variable (against s D) v one).1 ∙ ap not (against_odd l v m one (i ∙ q))

pub trivialises_exactly : (s : Witness) (D : Clause) → Trivialises s D ↔ ((I : Stowage) → meets (moved s I) D ≡ true)
unfolding meets
trivialises_exactly s D = ((λ t I. trivialised_meets I s D t), λ all. go all (trivialises? s D) refl)
  where
    go : ((I : Stowage) → meets (moved s I) D ≡ true) → (b : Bool) → trivialises? s D ≡ b → Trivialises s D
    go all true e = trivialises_yes s D e
    go all false e =
        let I = against s D in
        let r = meets_out (moved s I) D (all I) in
        absurd (true≢false (sym r.2 ∙ value_moved s I r.0 ∙ against_image s D (trivialises_no s D e) r.0 (image s r.0) r.1 refl))

-- 3. Propagation. "The least set that holds them and, for each clause of F and each literal in it whose fellow literals all have their
-- complements in the set, that literal": such a set, and the least.
module _ (F : Formula) (A : List ℕ) where
  pub record Propagates (P : ℕ → Type 0) : Type 0 where
    pub holds : (l : ℕ) → l ∈ A → P l
    pub closed : (n : ℕ) (D : Clause) (l : ℕ) → Live F n D → l ∈ D → ((k : ℕ) → k ∈ D → k ≢ l → P (complement k)) → P l

  pub derived_propagates : Propagates (Derived F A)
  derived_propagates = record { holds = λ l m. given m; closed = λ n D l q m fellows. unit q m fellows }

  pub derived_least : (P : ℕ → Type 0) → Propagates P → {l : ℕ} → Derived F A l → P l
  derived_least P c (given {l} m) = c.holds l m
  derived_least P c (unit {n} {D} {l} q m fellows) = c.closed n D l q m (λ k r ne. derived_least P c (fellows k r ne))

  -- "It clashes if the set holds a literal and its complement, or if some clause of F has the complement of every literal in the set."
  pub clash_exactly : Clash F A ↔ (((l : ℕ) × Derived F A l × Derived F A (complement l))
      ⊎ ((n : ℕ) × (D : Clause) × Live F n D × ((k : ℕ) → k ∈ D → Derived F A (complement k))))
  clash_exactly = (there, back)
    where
      there : Clash F A → ((l : ℕ) × Derived F A l × Derived F A (complement l))
          ⊎ ((n : ℕ) × (D : Clause) × Live F n D × ((k : ℕ) → k ∈ D → Derived F A (complement k)))
      there (both {l} p q) = inl (l, p, q)
      there (broken {n} {D} q all) = inr (n, D, q, all)

      back : ((l : ℕ) × Derived F A l × Derived F A (complement l))
          ⊎ ((n : ℕ) × (D : Clause) × Live F n D × ((k : ℕ) → k ∈ D → Derived F A (complement k))) → Clash F A
      back (inl r) = both r.1 r.2
      back (inr r) = broken r.2 r.3

-- "The empty clause always clashes": where it is live every clause is RUP; and a live clause is RUP itself
pub rup_empty : (F : Formula) (n : ℕ) (C : Clause) → Live F n [] → RUP F C
rup_empty F n C q = broken q (λ k m. elim m [ ])

pub rup_live : (F : Formula) (n : ℕ) (C : Clause) → Live F n C → RUP F C
rup_live F n C q = broken q (λ k m. given (map_in complement m))

-- over no clauses, only one with a literal and its complement is RUP
pub rup_none : (C : Clause) → RUP [] C → (l : ℕ) × (l ∈ C) × (complement l ∈ C)
rup_none C r = go ((clash_exactly [] A).0 r)
  where
    A : List ℕ
    A = map complement C

    only : {l : ℕ} → Derived [] A l → l ∈ A
    only = derived_least [] A (λ l. l ∈ A) (record { holds = λ l m. m; closed = λ n D l q m fellows. elim q [ ] })

    -- a complement in A is of a literal of C
    of_c : (l : ℕ) → complement l ∈ A → l ∈ C
    of_c l m = let q = map_out complement C m in subst (λ (k : ℕ). k ∈ C) (sym (complement_inj l q.0 q.2)) q.1

    go : ((l : ℕ) × Derived [] A l × Derived [] A (complement l))
        ⊎ ((n : ℕ) × (D : Clause) × Live [] n D × ((k : ℕ) → k ∈ D → Derived [] A (complement k))) → (l : ℕ) × (l ∈ C) × (complement l ∈ C)
    go (inl r) =
        (r.0, of_c r.0 (only r.2), of_c (complement r.0) (subst (λ (k : ℕ). k ∈ A) (sym (complement_twice r.0)) (only r.1)))
    go (inr r) = elim r.2 [ ]

-- 4. The conditions and the outcome of a step. "D passes if s trivialises it, or a literal of D under s has its complement in C, or the
-- union of C and D under s is RUP over F."
pub passes_exactly : (F : Formula) (C : Clause) (s : Witness) (D : Clause)
    → Passes F C s D ↔ (Trivialises s D ⊎ ((l : ℕ) × (l ∈ under s D) × (complement l ∈ C)) ⊎ RUP F (C ++ under s D))
passes_exactly F C s D = (there, back)
  where
    there : Passes F C s D → Trivialises s D ⊎ ((l : ℕ) × (l ∈ under s D) × (complement l ∈ C)) ⊎ RUP F (C ++ under s D)
    there (trivial t) = inl t
    there (opposed {l} m q) = inr (inl (l, m, q))
    there (follows r) = inr (inr r)

    back : Trivialises s D ⊎ ((l : ℕ) × (l ∈ under s D) × (complement l ∈ C)) ⊎ RUP F (C ++ under s D) → Passes F C s D
    back (inl t) = trivial t
    back (inr (inl r)) = opposed r.1 r.2
    back (inr (inr r)) = follows r

-- A step that meets its condition is always taken: what it asks, and what it leaves live, with the next number.
abbrev pub Asks : Formula → Step → Type 0
Asks F (rup_step C) = RUP F C
Asks F (sr_step C s) = Trivialises s C × ((n : ℕ) (D : Clause) → Live F n D → Passes F C s D)
Asks F (wsr_step C s modulo) = Passes F C s C × ((n : ℕ) (D : Clause) → Live F n D → ¬ (n ∈ modulo) → Passes F C s D)
Asks F (delete_step ns) = Unit {0}

abbrev pub leaves : Formula → ℕ → Step → Outcome
leaves F next (rup_step C) = taken (after [] next C F) (suc next)
leaves F next (sr_step C s) = taken (after [] next C F) (suc next)
leaves F next (wsr_step C s modulo) = taken (after modulo next C F) (suc next)
leaves F next (delete_step ns) = taken (without ns F) next

pub always_taken : (F : Formula) (next : ℕ) (t : Step) → Asks F t → Judged F next t (leaves F next t)
always_taken F next (rup_step C) a = rup a
always_taken F next (sr_step C s) a = sr (record { new = a.0; old = a.1 })
always_taken F next (wsr_step C s modulo) a = wsr (record { new = a.0; old = a.1 })
always_taken F next (delete_step ns) a = deleted

-- and only such a step is taken
pub only_taken : {F : Formula} {next : ℕ} {t : Step} {G : Formula} {m : ℕ} → Judged F next t (taken G m) → Asks F t × (taken G m ≡ leaves F next t)
only_taken (rup r) = (r, refl)
only_taken (sr r) = ((r.new, r.old), refl)
only_taken (wsr r) = ((r.new, r.old), refl)
only_taken deleted = (tt, refl)

-- 15: "lowest such number, C counted with the number it would get": the one named does not pass, and none that does not has a lower one
pub lowest_sr : {F : Formula} {next : ℕ} {C : Clause} {s : Witness} {r : Reason} {n : ℕ} → Judged F next (sr_step C s) (stops r n) → Trivialises s C
    → ((D : Clause) × Live F n D × (¬ (Passes F C s D))) × ((m : ℕ) (D : Clause) → Live F m D → ¬ (Passes F C s D) → n ≤ m)
lowest_sr (not_trivialised a) t = absurd (a t)
lowest_sr (sr_lowest a l) t = ((l.clause, l.live, l.fails), λ m D q fails. l.least m D q (λ z. elim z [ ]) fails)

pub lowest_wsr : {F : Formula} {next : ℕ} {C : Clause} {s : Witness} {modulo : List ℕ} {r : Reason} {n : ℕ} → Judged F next (wsr_step C s modulo) (stops r n)
    → (((D : Clause) × Live F n D × (¬ (n ∈ modulo)) × (¬ (Passes F C s D))) ⊎ ((n ≡ next) × (¬ (Passes F C s C))))
    × ((m : ℕ) (D : Clause) → Live F m D → ¬ (m ∈ modulo) → ¬ (Passes F C s D) → n ≤ m)
lowest_wsr (wsr_lowest l) = (inl (l.clause, l.live, l.unnamed, l.fails), l.least)
lowest_wsr (wsr_new all new) = (inr (refl, new), λ m D q out fails. absurd (fails (all m D q out)))

-- what is live after a step: C under its number, and what was live and is not named in MODULO
pub after_exactly : (modulo : List ℕ) (next : ℕ) (C : Clause) (F : Formula) (n : ℕ) (D : Clause)
    → Live (after modulo next C F) n D ↔ (◌≡◌ {A = ℕ × Clause} (n, D) (next, C) ⊎ (Live F n D × (¬ (n ∈ modulo))))
unfolding after
after_exactly modulo next C F n D = ((λ m. there (Memᴰ.append_cases (without modulo F) m)), back)
  where
    there : Live (without modulo F) n D ⊎ Live ((next, C) ∷ []) n D → ◌≡◌ {A = ℕ × Clause} (n, D) (next, C) ⊎ (Live F n D × (¬ (n ∈ modulo)))
    there (inl q) = inr (without_out modulo F q)
    there (inr q) = inl (Memᴰ.eq_of_singleton q)

    back : ◌≡◌ {A = ℕ × Clause} (n, D) (next, C) ⊎ (Live F n D × (¬ (n ∈ modulo))) → Live (after modulo next C F) n D
    back (inl e) = subst (λ (x : ℕ × Clause). x ∈ after modulo next C F) (sym e) (after_new modulo next C F)
    back (inr r) = after_old modulo next C F r.0 r.1

-- 5. The answer. k steps that are taken leave one set of live clauses and carry a stowage to one.
pub carried_once : {proof : File} {vars k : ℕ} {F G G' : Formula} {next at : ℕ} {I J J' : Stowage} → Carried proof vars k F next at I G J
    → Carried proof vars k F next at I G' J' → (G ≡ G') × (J ≡ J')
carried_once start start = (refl, refl)
carried_once {proof} {vars} {G'} {J'} (step {k} {F} {H = H} {next} {m} {later = later} {t = t} {I = I} a b j c) (step {H = H'} {m = m'} {later = later'} d e i x) =
    let same = same_read b e in
    let q = judged_once F next t (taken H m) (taken H' m') j (subst (λ (y : Step). Judged F next y (taken H' m')) (sym same.0) i) in
    let g : H ≡ H' = cc in
    let n : m ≡ m' = cc in
    carried_once c
    (subst (λ (z : Formula). Carried proof vars k z m later (stowed t I) G' J') (sym g)
    (subst (λ (z : ℕ). Carried proof vars k H' z later (stowed t I) G' J') (sym n)
    (subst (λ (z : ℕ). Carried proof vars k H' m' z (stowed t I) G' J') (sym same.1)
    (subst (λ (y : Step). Carried proof vars k H' m' later' (stowed y I) G' J') (sym same.0) x))))

-- "under reason 1 both slices are as at entry. After any other answer the first .. are zero and the rest is as at entry"
module _ (n : ℕ) (v : Verdict) (m : List ℕ) where
  pub memory_kept : (verdict_numbers v).reason ≡ 1 → memory_after n v m ≡ m
  unfolding memory_after
  memory_kept e = rw (eqb_same (verdict_numbers v).reason 1 e, memory_after)

  module _ (other : (verdict_numbers v).reason ≢ 1) where
    memory_cleared : memory_after n v m ≡ replicate n 0 ++ drop n m
    unfolding memory_after
    memory_cleared = rw (eqb_other (verdict_numbers v).reason 1 other, memory_after)

    pub memory_zero : (i d : ℕ) → i < n → get_or (memory_after n v m) i d ≡ 0
    memory_zero i d h =
        ap (λ (l : List ℕ). get_or l i d) memory_cleared
        ∙ get_or-append (replicate n 0) (drop n m) d i (rw length-replicate h)
        ∙ get_or-replicate n i 0 d h

    pub memory_rest : (i d : ℕ) → n ≤ i → get_or (memory_after n v m) i d ≡ get_or m i d
    memory_rest i d h =
        let e : length {A = ℕ} (replicate n 0) + (i - n) ≡ i = simp length-replicate (omega arith) in
        let f : n + (i - n) ≡ i = omega arith in
        ap (λ (l : List ℕ). get_or l i d) memory_cleared
        ∙ ap (λ (j : ℕ). get_or (replicate n 0 ++ drop n m) j d) (sym e)
        ∙ get_or-append-add (replicate n 0) (drop n m) (i - n) d
        ∙ get_or-drop n m (i - n) d
        ∙ ap (λ (j : ℕ). get_or m j d) f

    pub memory_length : n ≤ length m → length (memory_after n v m) ≡ length m
    memory_length h = ap length memory_cleared ∙ simp (length-append, length-replicate, length-drop) (omega arith)
