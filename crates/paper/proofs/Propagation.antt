-- The sweeps clash exactly when propagation does, and vars + 1 of them are enough.
-- Assumes nothing.
use Prim.Native.Nat.{ℕ, zero, suc, ◌+◌, ◌*◌, ◌-◌, ◌%◌, ◌/◌, ◌≤◌, ◌<◌}
use mathlib.Core.Path.{◌≡◌, refl, sym, ap, ◌∙◌, subst}
use mathlib.Core.Logic.{◌↔◌, ◌≢◌, ◌⊎◌, inl, inr}
use mathlib.Core.Bool.{Bool, true, false, true≢false, false≢true}
use mathlib.Core.List.Memᴰ
use mathlib.Core.List.{List, [], ◌∷◌}
use native.Mathlib.Omega.{arith}
use native.Mathlib.Decide.{ℕ_discrete}
use lib.Dec.{eqb}
use lib.ListN.{length, get_or, set, replicate, length-replicate}
use lib.Seq.{get_or-set_other}
use Rattle.paper.specs.Atoms.{complement, ◌∈◌, Clause, Formula, Live}
use Rattle.paper.specs.Conditions.{Derived, given, unit, Clash, both, broken}
use Rattle.paper.specs.Sweeps.{Values, is_true, put, not_false, State, visit, visits, sweep, sweeps_to, assume, blank, propagate}
use Rattle.paper.proofs.Lists.{complement_half, complement_mod, eqb_same, eqb_other, map_in}
use Rattle.paper.specs.Valid.{Distinct, Codes, Apart, Valid}
use Rattle.paper.proofs.Values.{when_true, when_false, truth_at, not_true_at, never_both, put_out, put_in, put_keep, length_put, not_false_out, not_false_in, not_false_distinct}

-- 1. The definitions by cases: what a loop of the code does in a turn.
-- a clash found
abbrev pub clashing : State → State
clashing s = record { values = s.values; literals = s.literals; sweeps = s.sweeps; clash = true }

-- a literal set by a clause
abbrev pub setting : ℕ → State → State
setting l s = record { values = put s.values l; literals = suc s.literals; sweeps = s.sweeps; clash = false }

-- an assumption made true
abbrev pub assuming : ℕ → State → State
assuming a s = record { values = put s.values a; literals = s.literals; sweeps = s.sweeps; clash = false }

-- a sweep begun
abbrev pub sweeping : State → State
sweeping s = record { values = s.values; literals = s.literals; sweeps = suc s.sweeps; clash = s.clash }

pub visit_none : (s : State) → visit [] s ≡ clashing s
unfolding visit
visit_none s = refl

pub visit_true : (l : ℕ) (s : State) → is_true s.values l ≡ true → visit (l ∷ []) s ≡ s
unfolding visit
visit_true l s e = rw (e, visit)

pub visit_set : (l : ℕ) (s : State) → is_true s.values l ≡ false → visit (l ∷ []) s ≡ setting l s
unfolding visit
visit_set l s e = rw (e, visit)

pub visit_more : (l k : ℕ) (r : Clause) (s : State) → visit (l ∷ k ∷ r) s ≡ s
unfolding visit
visit_more l k r s = refl

pub visits_end : (s : State) → visits [] s ≡ s
unfolding visits
visits_end s = refl

pub visits_clashed : (F : Formula) (s : State) → s.clash ≡ true → visits F s ≡ s
unfolding visits
visits_clashed [] s e = refl
visits_clashed (D ∷ F) s e = when_true s.clash _ _ e

pub visits_next : (D : ℕ × Clause) (F : Formula) (s : State) → s.clash ≡ false → visits (D ∷ F) s ≡ visits F (visit (not_false s.values D.1) s)
unfolding visits
visits_next D F s e = when_false s.clash _ _ e

pub sweep_visits : (F : Formula) (s : State) → sweep F s ≡ visits F (sweeping s)
unfolding sweep
sweep_visits F s = refl

pub sweeps_none : (F : Formula) (s : State) → sweeps_to zero F s ≡ s
unfolding sweeps_to
sweeps_none F s = refl

pub sweeps_clash : (n : ℕ) (F : Formula) (s : State) → (sweep F s).clash ≡ true → sweeps_to (suc n) F s ≡ sweep F s
unfolding sweeps_to
sweeps_clash n F s e = when_true (sweep F s).clash _ _ e

pub sweeps_last : (n : ℕ) (F : Formula) (s : State) → (sweep F s).clash ≡ false → (sweep F s).literals ≡ s.literals → sweeps_to (suc n) F s ≡ sweep F s
unfolding sweeps_to
sweeps_last n F s e q = when_false (sweep F s).clash _ _ e ∙ when_true (eqb (sweep F s).literals s.literals) _ _ (eqb_same _ _ q)

pub sweeps_next : (n : ℕ) (F : Formula) (s : State) → (sweep F s).clash ≡ false → (sweep F s).literals ≢ s.literals
    → sweeps_to (suc n) F s ≡ sweeps_to n F (sweep F s)
unfolding sweeps_to
sweeps_next n F s e q = when_false (sweep F s).clash _ _ e ∙ when_false (eqb (sweep F s).literals s.literals) _ _ (eqb_other _ _ q)

pub assume_none : (s : State) → assume [] s ≡ s
unfolding assume
assume_none s = refl

pub assume_clash : (a : ℕ) (A : List ℕ) (s : State) → is_true s.values (complement a) ≡ true → assume (a ∷ A) s ≡ clashing s
unfolding assume
assume_clash a A s e = rw (e, assume)

pub assume_next : (a : ℕ) (A : List ℕ) (s : State) → is_true s.values (complement a) ≡ false → assume (a ∷ A) s ≡ assume A (assuming a s)
unfolding assume
assume_next a A s e = rw (e, assume)

pub propagate_clash : (vars : ℕ) (F : Formula) (A : List ℕ) → (assume A (blank vars)).clash ≡ true → propagate vars F A ≡ assume A (blank vars)
unfolding propagate
propagate_clash vars F A e = when_true (assume A (blank vars)).clash _ _ e

pub propagate_sweeps : (vars : ℕ) (F : Formula) (A : List ℕ) → (assume A (blank vars)).clash ≡ false
    → propagate vars F A ≡ sweeps_to (suc vars) F (assume A (blank vars))
unfolding propagate
propagate_sweeps vars F A e = when_false (assume A (blank vars)).clash _ _ e

get_or_zeros : (n i : ℕ) → ◌≡◌ {A = ℕ} (get_or (replicate n 0) i 0) 0
get_or_zeros zero i = refl
get_or_zeros (suc n) zero = refl
get_or_zeros (suc n) (suc i) = get_or_zeros n i

pub none_true : (n l : ℕ) → is_true (replicate n 0) l ≡ true → ⊥
none_true n l t = let a = truth_at (replicate n 0) l t in let b = get_or_zeros n (l / 2) in omega arith

-- 2. Soundness: what is true is derived, and where a state is clashed propagation clashes.
module _ (F : Formula) (A : List ℕ) where
  abbrev pub Known : Values → Type 0
  Known vs = (l : ℕ) → is_true vs l ≡ true → Derived F A l

  pub record Sound (s : State) : Type 0 where
    pub known : Known s.values
    pub clashed : s.clash ≡ true → Clash F A

  pub put_known : (vs : Values) (l : ℕ) → Derived F A l → Known vs → Known (put vs l)
  put_known vs l d known k t = go (put_out vs l k t)
    where
      go : (k ≡ l) ⊎ (is_true vs k ≡ true) → Derived F A k
      go (inl e) = rw e d
      go (inr q) = known k q

  pub visit_sound : (s : State) (m : ℕ) (D : Clause) → Live F m D → Sound s → Sound (visit (not_false s.values D) s)
  visit_sound s m D live good = go (not_false s.values D) refl
    where
      fellow : (r : Clause) → not_false s.values D ≡ r → (k : ℕ) → k ∈ D → ¬ (k ∈ r) → Derived F A (complement k)
      fellow r e k km out = side (not_false_in s.values D km)
        where
          side : (is_true s.values (complement k) ≡ true) ⊎ (k ∈ not_false s.values D) → Derived F A (complement k)
          side (inl t) = good.known (complement k) t
          side (inr q) = absurd (out (rw e at q))

      go : (r : Clause) → not_false s.values D ≡ r → Sound (visit r s)
      go [] e =
          subst Sound (sym (visit_none s))
          (record { known = good.known; clashed = λ c. broken live (λ k km. fellow [] e k km (λ q. elim q [ ])) })
      go (l ∷ []) e = one (is_true s.values l) refl
        where
          derived : Derived F A l
          derived =
              unit live (not_false_out s.values D {k = l} (rw e (Memᴰ.head refl))).0
              (λ k km ne. fellow (l ∷ []) e k km (λ q. ne (Memᴰ.eq_of_singleton q)))

          one : (b : Bool) → is_true s.values l ≡ b → Sound (visit (l ∷ []) s)
          one true t = subst Sound (sym (visit_true l s t)) good
          one false t =
              subst Sound (sym (visit_set l s t))
              (record { known = put_known s.values l derived good.known; clashed = λ c. absurd (false≢true c) })
      go (l ∷ k ∷ r) e = subst Sound (sym (visit_more l k r s)) good

  pub visits_sound : (G : Formula) → ((m : ℕ) (D : Clause) → Live G m D → Live F m D) → (s : State) → Sound s → Sound (visits G s)
  visits_sound [] sub s good = subst Sound (sym (visits_end s)) good
  visits_sound (D ∷ G) sub s good = go (visits_sound G (λ m E q. sub m E (Memᴰ.tail q))) s.clash refl
    where
      go : ((t : State) → Sound t → Sound (visits G t)) → (b : Bool) → s.clash ≡ b → Sound (visits (D ∷ G) s)
      go rec true e = subst Sound (sym (visits_clashed (D ∷ G) s e)) good
      go rec false e =
          subst Sound (sym (visits_next D G s e))
          (rec (visit (not_false s.values D.1) s) (visit_sound s D.0 D.1 (sub D.0 D.1 (Memᴰ.head refl)) good))

  pub sweep_sound : (s : State) → Sound s → Sound (sweep F s)
  sweep_sound s good =
      subst Sound (sym (sweep_visits F s)) (visits_sound F (λ m D q. q) (sweeping s) (record { known = good.known; clashed = good.clashed }))

  pub sweeps_sound : (n : ℕ) (s : State) → Sound s → Sound (sweeps_to n F s)
  sweeps_sound zero s good = subst Sound (sym (sweeps_none F s)) good
  sweeps_sound (suc n) s good = go (sweeps_sound n (sweep F s)) (sweep F s).clash refl (ℕ_discrete (sweep F s).literals s.literals)
    where
      next : Sound (sweep F s)
      next = sweep_sound s good

      go : (Sound (sweep F s) → Sound (sweeps_to n F (sweep F s))) → (b : Bool) → (sweep F s).clash ≡ b → Dec ((sweep F s).literals ≡ s.literals)
          → Sound (sweeps_to (suc n) F s)
      go rec true e d = subst Sound (sym (sweeps_clash n F s e)) next
      go rec false e (yes q) = subst Sound (sym (sweeps_last n F s e q)) next
      go rec false e (no q) = subst Sound (sym (sweeps_next n F s e q)) (rec next)

  pub assume_sound : (B : List ℕ) → ((b : ℕ) → b ∈ B → Derived F A b) → (s : State) → Sound s → Sound (assume B s)
  assume_sound [] sub s good = subst Sound (sym (assume_none s)) good
  assume_sound (b ∷ B) sub s good = go (assume_sound B (λ c q. sub c (Memᴰ.tail q))) (is_true s.values (complement b)) refl
    where
      here : Derived F A b
      here = sub b (Memᴰ.head refl)

      go : ((t : State) → Sound t → Sound (assume B t)) → (t : Bool) → is_true s.values (complement b) ≡ t → Sound (assume (b ∷ B) s)
      go rec true e = subst Sound (sym (assume_clash b B s e)) (record { known = good.known; clashed = λ c. both here (good.known (complement b) e) })
      go rec false e =
          subst Sound (sym (assume_next b B s e))
          (rec (assuming b s) (record { known = put_known s.values b here good.known; clashed = λ c. absurd (false≢true c) }))

  pub blank_sound : (vars : ℕ) → Sound (blank vars)
  unfolding blank
  blank_sound vars = record { known = λ l t. absurd (none_true (suc vars) l t); clashed = λ c. absurd (false≢true c) }

-- 3. The measure: how many values are unset.
open_at : ℕ → ℕ
open_at zero = 1
open_at (suc zero) = 0
open_at (suc (suc zero)) = 0
open_at (suc (suc (suc x))) = 1

unset : Values → ℕ
unset [] = 0
unset (x ∷ vs) = open_at x + unset vs

open_le : (x : ℕ) → open_at x ≤ 1
unfolding open_at
open_le zero = omega arith
open_le (suc zero) = omega arith
open_le (suc (suc zero)) = omega arith
open_le (suc (suc (suc x))) = omega arith

unset_le : (vs : Values) → unset vs ≤ length vs
unfolding unset
unset_le [] = omega arith
unset_le (x ∷ vs) = let r = unset_le vs in let o = open_le x in omega arith

unset_set : (vs : Values) (i v : ℕ) → i < length vs → open_at (get_or vs i 0) ≡ 1 → open_at v ≡ 0 → suc (unset (set vs i v)) ≡ unset vs
unfolding unset
unset_set [] i v h p q = absurd (omega arith)
unset_set (x ∷ vs) zero v h p q = omega arith
unset_set (x ∷ vs) (suc i) v h p q = let r = unset_set vs i v (omega arith) p q in omega arith

open_ne : (x : ℕ) → x ≢ 1 → x ≢ 2 → open_at x ≡ 1
unfolding open_at
open_ne zero p q = refl
open_ne (suc zero) p q = absurd (p refl)
open_ne (suc (suc zero)) p q = absurd (q refl)
open_ne (suc (suc (suc x))) p q = refl

open_put : (r : ℕ) → r < 2 → open_at (suc r) ≡ 0
unfolding open_at
open_put zero h = refl
open_put (suc zero) h = refl
open_put (suc (suc r)) h = absurd (omega arith)

unset_put : (vs : Values) (l : ℕ) → l / 2 < length vs → is_true vs l ≡ false → is_true vs (complement l) ≡ false
    → suc (unset (put vs l)) ≡ unset vs
unfolding put
unset_put vs l h f g =
    unset_set vs (l / 2) (suc (l % 2)) h (open_ne (get_or vs (l / 2) 0) (omega (arith, a, b)) (omega (arith, a, b))) (open_put (l % 2) (omega arith))
  where
    a : get_or vs (l / 2) 0 ≢ suc (l % 2)
    a = not_true_at vs l f

    b : get_or vs (l / 2) 0 ≢ suc (1 - l % 2)
    b = simp (complement_half, complement_mod) at (not_true_at vs (complement l) g)

-- vars + 1 values, and that of variable 0 unset
pub record Fits (vars : ℕ) (vs : Values) : Type 0 where
  pub long : length vs ≡ suc vars
  pub first : get_or vs 0 0 ≡ 0

unset_pos : (vars : ℕ) (vs : Values) → Fits vars vs → 1 ≤ unset vs
unfolding unset open_at
unset_pos vars [] f = let q = f.long in absurd (omega arith)
unset_pos vars (zero ∷ vs) f = omega arith
unset_pos vars (suc x ∷ vs) f = let q = f.first in absurd (omega arith)

pub put_fits : (vars : ℕ) (vs : Values) (l : ℕ) → 2 ≤ l → Fits vars vs → Fits vars (put vs l)
unfolding put
put_fits vars vs l h f =
    record { long = length_put vs l ∙ f.long; first = get_or-set_other vs (l / 2) 0 (suc (l % 2)) 0 (omega arith) ∙ f.first }

-- 4. What a sweep does.
-- a visit of the clause would change nothing
abbrev Settled : Values → Clause → Type 0
Settled vs [] = ⊥
Settled vs (l ∷ []) = is_true vs l ≡ true
Settled vs (l ∷ k ∷ r) = Unit {0}

abbrev AllSettled : Formula → Values → Type 0
AllSettled G vs = (m : ℕ) (D : Clause) → Live G m D → Settled vs (not_false vs D)

-- what the visits to the clauses of G make of the state s
record Visited (vars : ℕ) (G : Formula) (s t : State) : Type 0 where
  grows : (l : ℕ) → is_true s.values l ≡ true → is_true t.values l ≡ true
  fits : Fits vars t.values
  count : unset t.values + t.literals ≡ unset s.values + s.literals
  more : s.literals ≤ t.literals
  still : t.literals ≡ s.literals → t.values ≡ s.values
  quiet : t.clash ≡ false → t.literals ≡ s.literals → AllSettled G t.values

-- no visit, at a clash
stopped : (vars : ℕ) (G : Formula) (s : State) → Fits vars s.values → s.clash ≡ true → Visited vars G s s
stopped vars G s fits c =
    record { grows = λ l t. t; fits = fits; count = refl; more = omega arith; still = λ e. refl; quiet = λ g. absurd (true≢false (sym c ∙ g)) }

-- the first visit finds a clash
clash_first : (vars : ℕ) (G : Formula) (s : State) → Fits vars s.values → Visited vars G s (clashing s)
clash_first vars G s fits =
    record { grows = λ l t. t; fits = fits; count = refl; more = omega arith; still = λ e. refl; quiet = λ g. absurd (true≢false g) }

-- the first clause is settled
settled_first : (vars : ℕ) (D : ℕ × Clause) (G : Formula) (s t : State) → Settled s.values (not_false s.values D.1)
    → Visited vars G s t → Visited vars (D ∷ G) s t
settled_first vars D G s t ok w =
    record { grows = w.grows; fits = w.fits; count = w.count; more = w.more; still = w.still; quiet = λ g e. quiet' g e }
  where
    quiet' : t.clash ≡ false → t.literals ≡ s.literals → AllSettled (D ∷ G) t.values
    quiet' g e m E (Memᴰ.head p) =
        subst (λ (x : Values). Settled x (not_false x E)) (sym (w.still e))
        (subst (λ (q : ℕ × Clause). Settled s.values (not_false s.values q.1)) (sym p) ok)
    quiet' g e m E (Memᴰ.tail q) = w.quiet g e m E q

-- the first clause sets a literal
set_first : (vars : ℕ) (D : ℕ × Clause) (G : Formula) (s t : State) (l : ℕ) → l / 2 < length s.values → is_true s.values l ≡ false
    → is_true s.values (complement l) ≡ false → Visited vars G (setting l s) t → Visited vars (D ∷ G) s t
set_first vars D G s t l h f g w =
    record {
      grows = λ j q. w.grows j (put_keep s.values l j g q);
      fits = w.fits;
      count = omega (arith, w.count, unset_put s.values l h f g);
      more = omega (arith, w.more);
      still = λ e. absurd (omega (arith, w.more));
      quiet = λ _ e. absurd (omega (arith, w.more));
    }

visits_visited : (vars : ℕ) (G : Formula) → ((m : ℕ) (D : Clause) → Live G m D → Codes vars D) → (s : State) → Fits vars s.values
    → Visited vars G s (visits G s)
visits_visited vars [] codes s fits =
    subst (Visited vars [] s) (sym (visits_end s))
    (record { grows = λ l t. t; fits = fits; count = refl; more = omega arith; still = λ e. refl; quiet = λ g e m D q. elim q [ ] })
visits_visited vars (D ∷ G) codes s fits =
    pick (visits_visited vars G (λ m E q. codes m E (Memᴰ.tail q))) s.clash refl
  where
    go : ((t : State) → Fits vars t.values → Visited vars G t (visits G t)) → (r : Clause) → not_false s.values D.1 ≡ r
        → Visited vars (D ∷ G) s (visits G (visit r s))
    go rec [] e =
        subst (λ (t : State). Visited vars (D ∷ G) s (visits G t)) (sym (visit_none s))
        (subst (Visited vars (D ∷ G) s) (sym (visits_clashed G (clashing s) refl)) (clash_first vars (D ∷ G) s fits))
    go rec (l ∷ []) e = one (is_true s.values l) refl
      where
        mem : (l ∈ D.1) × (is_true s.values (complement l) ≡ false)
        mem = not_false_out s.values D.1 (rw e (Memᴰ.head refl))

        range : (2 ≤ l) × (l ≤ 2 * vars + 1)
        range = codes D.0 D.1 (Memᴰ.head refl) l mem.0

        one : (b : Bool) → is_true s.values l ≡ b → Visited vars (D ∷ G) s (visits G (visit (l ∷ []) s))
        one true t =
            subst (λ (x : State). Visited vars (D ∷ G) s (visits G x)) (sym (visit_true l s t))
            (settled_first vars D G s (visits G s) (rw e t) (rec s fits))
        one false f =
            subst (λ (x : State). Visited vars (D ∷ G) s (visits G x)) (sym (visit_set l s f))
            (set_first vars D G s (visits G (setting l s)) l (omega (arith, range, fits.long)) f mem.1
            (rec (setting l s) (put_fits vars s.values l range.0 fits)))
    go rec (l ∷ k ∷ r) e =
        subst (λ (x : State). Visited vars (D ∷ G) s (visits G x)) (sym (visit_more l k r s))
        (settled_first vars D G s (visits G s) (rw e tt) (rec s fits))

    pick : ((t : State) → Fits vars t.values → Visited vars G t (visits G t)) → (b : Bool) → s.clash ≡ b
        → Visited vars (D ∷ G) s (visits (D ∷ G) s)
    pick rec true c = subst (Visited vars (D ∷ G) s) (sym (visits_clashed (D ∷ G) s c)) (stopped vars (D ∷ G) s fits c)
    pick rec false c = subst (Visited vars (D ∷ G) s) (sym (visits_next D G s c)) (go rec (not_false s.values D.1) refl)

sweep_visited : (vars : ℕ) (F : Formula) → ((m : ℕ) (D : Clause) → Live F m D → Codes vars D) → (s : State) → Fits vars s.values
    → Visited vars F s (sweep F s)
unfolding sweep
sweep_visited vars F codes s fits =
    let w : Visited vars F (sweeping s) (visits F (sweeping s)) = visits_visited vars F codes (sweeping s) fits in
    record { grows = w.grows; fits = w.fits; count = w.count; more = w.more; still = w.still; quiet = w.quiet }

-- what is true stays true
abbrev Grows : State → State → Type 0
Grows s t = (l : ℕ) → is_true s.values l ≡ true → is_true t.values l ≡ true

module _ (vars : ℕ) (F : Formula) (codes : (m : ℕ) (D : Clause) → Live F m D → Codes vars D) where
  sweeps_grow : (n : ℕ) (s : State) → Fits vars s.values → Grows s (sweeps_to n F s)
  sweeps_grow zero s fits = subst (Grows s) (sym (sweeps_none F s)) (λ l t. t)
  sweeps_grow (suc n) s fits = go (sweeps_grow n (sweep F s) w.fits) (sweep F s).clash refl (ℕ_discrete (sweep F s).literals s.literals)
    where
      w : Visited vars F s (sweep F s)
      w = sweep_visited vars F codes s fits

      go : Grows (sweep F s) (sweeps_to n F (sweep F s)) → (b : Bool) → (sweep F s).clash ≡ b → Dec ((sweep F s).literals ≡ s.literals)
          → Grows s (sweeps_to (suc n) F s)
      go rec true e d = subst (Grows s) (sym (sweeps_clash n F s e)) w.grows
      go rec false e (yes q) = subst (Grows s) (sym (sweeps_last n F s e q)) w.grows
      go rec false e (no q) = subst (Grows s) (sym (sweeps_next n F s e q)) (λ l t. rec l (w.grows l t))

  -- as many sweeps as values are unset: the last of them sets nothing
  sweeps_settled : (n : ℕ) (s : State) → Fits vars s.values → unset s.values ≤ n → (sweeps_to n F s).clash ≡ false
      → AllSettled F (sweeps_to n F s).values
  sweeps_settled zero s fits h = absurd (omega (arith, unset_pos vars s.values fits))
  sweeps_settled (suc n) s fits h =
      go (sweeps_settled n (sweep F s) w.fits) (sweep F s).clash refl (ℕ_discrete (sweep F s).literals s.literals)
    where
      w : Visited vars F s (sweep F s)
      w = sweep_visited vars F codes s fits

      go : (unset (sweep F s).values ≤ n → (sweeps_to n F (sweep F s)).clash ≡ false → AllSettled F (sweeps_to n F (sweep F s)).values)
          → (b : Bool) → (sweep F s).clash ≡ b → Dec ((sweep F s).literals ≡ s.literals) → (sweeps_to (suc n) F s).clash ≡ false
          → AllSettled F (sweeps_to (suc n) F s).values
      go rec true e d =
          subst (λ (x : State). x.clash ≡ false → AllSettled F x.values) (sym (sweeps_clash n F s e)) (λ g. absurd (true≢false (sym e ∙ g)))
      go rec false e (yes q) =
          subst (λ (x : State). x.clash ≡ false → AllSettled F x.values) (sym (sweeps_last n F s e q)) (λ g. w.quiet g q)
      go rec false e (no q) =
          subst (λ (x : State). x.clash ≡ false → AllSettled F x.values) (sym (sweeps_next n F s e q))
          (rec (omega (arith, w.count, w.more)))

  -- more sweeps than values are unset change nothing
  sweeps_same : (f n : ℕ) (s : State) → Fits vars s.values → unset s.values ≤ f → f ≤ n → sweeps_to n F s ≡ sweeps_to f F s
  sweeps_same zero n s fits h g = absurd (omega (arith, unset_pos vars s.values fits))
  sweeps_same (suc f) zero s fits h g = absurd (omega arith)
  sweeps_same (suc f) (suc n) s fits h g =
      go (sweeps_same f n (sweep F s) w.fits) (sweep F s).clash refl (ℕ_discrete (sweep F s).literals s.literals)
    where
      w : Visited vars F s (sweep F s)
      w = sweep_visited vars F codes s fits

      go : (unset (sweep F s).values ≤ f → f ≤ n → sweeps_to n F (sweep F s) ≡ sweeps_to f F (sweep F s)) → (b : Bool) → (sweep F s).clash ≡ b
          → Dec ((sweep F s).literals ≡ s.literals) → sweeps_to (suc n) F s ≡ sweeps_to (suc f) F s
      go rec true e d = sweeps_clash n F s e ∙ sym (sweeps_clash f F s e)
      go rec false e (yes q) = sweeps_last n F s e q ∙ sym (sweeps_last f F s e q)
      go rec false e (no q) = sweeps_next n F s e q ∙ rec (omega (arith, w.count, w.more)) (omega arith) ∙ sym (sweeps_next f F s e q)

-- 5. Completeness: where no clause is left to set a literal, nothing more is derived.
-- a settled clause has its unit literal true
settled_unit : (vs : Values) (D : Clause) (l : ℕ) → Distinct D → Settled vs (not_false vs D)
    → ((k : ℕ) → k ∈ D → k ≢ l → is_true vs (complement k) ≡ true) → is_true vs l ≡ true
settled_unit vs D l d ok f = go (not_false vs D) refl ok
  where
    only : (x : ℕ) → x ∈ not_false vs D → Dec (x ≡ l) → x ≡ l
    only x m (yes e) = e
    only x m (no ne) = absurd (false≢true (sym (not_false_out vs D m).1 ∙ f x (not_false_out vs D m).0 ne))

    is_l : (x : ℕ) → x ∈ not_false vs D → x ≡ l
    is_l x m = only x m (ℕ_discrete x l)

    go : (r : Clause) → not_false vs D ≡ r → Settled vs r → is_true vs l ≡ true
    go [] e ok = absurd ok
    go (x ∷ []) e ok = rw (← is_l x (rw e (Memᴰ.head refl))) ok
    go (x ∷ y ∷ r) e ok =
        absurd ((subst Distinct e (not_false_distinct vs D d)).0
        (Memᴰ.head (is_l x (rw e (Memᴰ.head refl)) ∙ sym (is_l y (rw e (Memᴰ.tail (Memᴰ.head refl)))))))

-- a settled clause is not all false
settled_not_false : (vs : Values) (D : Clause) → Settled vs (not_false vs D) → ((k : ℕ) → k ∈ D → is_true vs (complement k) ≡ true) → ⊥
settled_not_false vs D ok f = go (not_false vs D) refl ok
  where
    go : (r : Clause) → not_false vs D ≡ r → Settled vs r → ⊥
    go [] e ok = ok
    go (x ∷ r) e ok =
        let m = not_false_out vs D {k = x} (rw e (Memᴰ.head refl)) in
        false≢true (sym m.1 ∙ f x m.0)

-- a clause with no variable twice has no literal twice
pub apart_distinct : (D : Clause) → Apart D → Distinct D
apart_distinct [] a = tt
apart_distinct (l ∷ D) a = (λ m. a.0 (map_in (λ k. k / 2) m), apart_distinct D a.1)

module _ (F : Formula) (A : List ℕ) (vs : Values) (all : (a : ℕ) → a ∈ A → is_true vs a ≡ true) (settled : AllSettled F vs)
    (apart : (n : ℕ) (D : Clause) → Live F n D → Apart D) where
  derived_set : {l : ℕ} → Derived F A l → is_true vs l ≡ true
  derived_set (given m) = all _ m
  derived_set (unit {n} {D} {l} m ml f) =
      settled_unit vs D l (apart_distinct D (apart n D m)) (settled n D m) (λ k km ne. derived_set (f k km ne))

  no_clash : Clash F A → ⊥
  no_clash (both {l} p q) = never_both vs l (derived_set p) (derived_set q)
  no_clash (broken {n} {D} m f) = settled_not_false vs D (settled n D m) (λ k km. derived_set (f k km))

-- 6. The sweeps from any state in which the literals of A, and nothing that is not derived from them, are true.
pub record Loaded (vars : ℕ) (F : Formula) (A : List ℕ) (s : State) : Type 0 where
  pub fits : Fits vars s.values
  pub known : Known F A s.values
  pub all : (a : ℕ) → a ∈ A → is_true s.values a ≡ true
  pub going : s.clash ≡ false

unset_enough : (vars : ℕ) (vs : Values) → Fits vars vs → unset vs ≤ suc vars
unset_enough vars vs fits = omega (arith, unset_le vs, fits.long)

module _ (vars : ℕ) (F : Formula) (valid : Valid vars F) where
  module _ (A : List ℕ) (s : State) (loaded : Loaded vars F A s) where
    loaded_sound : Sound F A s
    loaded_sound = record { known = loaded.known; clashed = λ c. absurd (false≢true (sym loaded.going ∙ c)) }

    end_all : (a : ℕ) → a ∈ A → is_true (sweeps_to (suc vars) F s).values a ≡ true
    end_all a m = sweeps_grow vars F valid.codes (suc vars) s loaded.fits a (loaded.all a m)

    end_settled : (sweeps_to (suc vars) F s).clash ≡ false → AllSettled F (sweeps_to (suc vars) F s).values
    end_settled = sweeps_settled vars F valid.codes (suc vars) s loaded.fits (unset_enough vars s.values loaded.fits)

    sweeps_clash_in : Clash F A → (sweeps_to (suc vars) F s).clash ≡ true
    sweeps_clash_in c = go (sweeps_to (suc vars) F s).clash refl
      where
        go : (b : Bool) → (sweeps_to (suc vars) F s).clash ≡ b → (sweeps_to (suc vars) F s).clash ≡ true
        go true e = e
        go false e = absurd (no_clash F A (sweeps_to (suc vars) F s).values end_all (end_settled e) valid.apart c)

    -- vars + 1 sweeps clash exactly when propagation does
    pub sweeps_iff : ((sweeps_to (suc vars) F s).clash ≡ true) ↔ Clash F A
    sweeps_iff = ((sweeps_sound F A (suc vars) s loaded_sound).clashed, sweeps_clash_in)

  -- further sweeps change nothing
  pub sweeps_enough : (s : State) → Fits vars s.values → (n : ℕ) → suc vars ≤ n → sweeps_to n F s ≡ sweeps_to (suc vars) F s
  sweeps_enough s fits n h = sweeps_same vars F valid.codes (suc vars) n s fits (unset_enough vars s.values fits) h

-- 7. Propagation from A.
pub blank_fits : (vars : ℕ) → Fits vars (blank vars).values
unfolding blank
blank_fits vars = record { long = length-replicate (suc vars) 0; first = refl }

-- what assuming the literals of B makes of a state
pub record Assumed (vars : ℕ) (B : List ℕ) (s t : State) : Type 0 where
  pub fits : Fits vars t.values
  pub grows : (l : ℕ) → is_true s.values l ≡ true → is_true t.values l ≡ true
  pub all : t.clash ≡ false → (b : ℕ) → b ∈ B → is_true t.values b ≡ true

pub assume_all : (vars : ℕ) (B : List ℕ) → Codes vars B → (s : State) → Fits vars s.values → Assumed vars B s (assume B s)
assume_all vars [] codes s fits =
    subst (Assumed vars [] s) (sym (assume_none s)) (record { fits = fits; grows = λ l t. t; all = λ g b q. elim q [ ] })
assume_all vars (b ∷ B) codes s fits = go (assume_all vars B (λ l q. codes l (Memᴰ.tail q))) (is_true s.values (complement b)) refl
  where
    range : (2 ≤ b) × (b ≤ 2 * vars + 1)
    range = codes b (Memᴰ.head refl)

    step : is_true s.values (complement b) ≡ false → (t : State) → Assumed vars B (assuming b s) t → Assumed vars (b ∷ B) s t
    step e t a =
        record { fits = a.fits; grows = λ l q. a.grows l (put_keep s.values b l e q); all = all' }
      where
        all' : t.clash ≡ false → (c : ℕ) → c ∈ b ∷ B → is_true t.values c ≡ true
        all' g c (Memᴰ.head p) = rw p (a.grows b (put_in s.values b (omega (arith, range, fits.long))))
        all' g c (Memᴰ.tail q) = a.all g c q

    go : ((t : State) → Fits vars t.values → Assumed vars B t (assume B t)) → (t : Bool) → is_true s.values (complement b) ≡ t
        → Assumed vars (b ∷ B) s (assume (b ∷ B) s)
    go rec true e =
        subst (Assumed vars (b ∷ B) s) (sym (assume_clash b B s e))
        (record { fits = fits; grows = λ l t. t; all = λ g. absurd (true≢false g) })
    go rec false e =
        subst (Assumed vars (b ∷ B) s) (sym (assume_next b B s e))
        (step e (assume B (assuming b s)) (rec (assuming b s) (put_fits vars s.values b range.0 fits)))

pub assume_loaded : (vars : ℕ) (F : Formula) (A : List ℕ) → Codes vars A → (assume A (blank vars)).clash ≡ false → Loaded vars F A (assume A (blank vars))
assume_loaded vars F A codes g =
    let a : Assumed vars A (blank vars) (assume A (blank vars)) = assume_all vars A codes (blank vars) (blank_fits vars) in
    record { fits = a.fits; known = (assume_sound F A A (λ b q. given q) (blank vars) (blank_sound F A vars)).known; all = a.all g; going = g }

-- Where propagation as it is run clashes, propagation clashes.
pub propagate_sound : (vars : ℕ) (F : Formula) (A : List ℕ) → (propagate vars F A).clash ≡ true → Clash F A
propagate_sound vars F A = go (assume A (blank vars)).clash refl
  where
    start : Sound F A (assume A (blank vars))
    start = assume_sound F A A (λ b q. given q) (blank vars) (blank_sound F A vars)

    go : (b : Bool) → (assume A (blank vars)).clash ≡ b → (propagate vars F A).clash ≡ true → Clash F A
    go true e = subst (λ (t : State). t.clash ≡ true → Clash F A) (sym (propagate_clash vars F A e)) start.clashed
    go false e =
        subst (λ (t : State). t.clash ≡ true → Clash F A) (sym (propagate_sweeps vars F A e))
        (sweeps_sound F A (suc vars) (assume A (blank vars)) start).clashed

-- Where propagation clashes, propagation as it is run does.
pub propagate_complete : (vars : ℕ) (F : Formula) (A : List ℕ) → Valid vars F → Codes vars A → Clash F A → (propagate vars F A).clash ≡ true
propagate_complete vars F A valid codes c = go (assume A (blank vars)).clash refl
  where
    go : (b : Bool) → (assume A (blank vars)).clash ≡ b → (propagate vars F A).clash ≡ true
    go true e = ap (λ (t : State). t.clash) (propagate_clash vars F A e) ∙ e
    go false e =
        ap (λ (t : State). t.clash) (propagate_sweeps vars F A e)
        ∙ (sweeps_iff vars F valid A (assume A (blank vars)) (assume_loaded vars F A codes e)).1 c

-- The theorem: propagation as it is run clashes exactly when propagation does.
pub propagate_iff : (vars : ℕ) (F : Formula) (A : List ℕ) → Valid vars F → Codes vars A → ((propagate vars F A).clash ≡ true) ↔ Clash F A
propagate_iff vars F A valid codes = (propagate_sound vars F A, propagate_complete vars F A valid codes)
