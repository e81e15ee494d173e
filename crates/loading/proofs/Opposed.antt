-- Which literals are true in the table after the complements of a clause's literals, or of their images, are made true.
-- Assumes nothing.
use Prim.Native.Nat.{ℕ, suc, ◌+◌, ◌*◌, ◌/◌, ◌%◌, ◌≤◌, ◌<◌}
use mathlib.Core.Path.{◌≡◌, refl, sym, ap, ◌∙◌, subst}
use mathlib.Core.Logic.{◌≢◌, ◌⊎◌, inl, inr}
use mathlib.Core.Bool.{Bool, true, false, true≢false}
use mathlib.Core.List.Memᴰ
use mathlib.Core.List.{List, [], ◌∷◌, ◌++◌, map}
use native.Mathlib.Omega.{arith}
use native.Mathlib.Decide.{ℕ_discrete, dec_lt}
use lib.ListN.{length, get_or-eq_default}
use Rattle.paper.specs.Atoms.{complement, ◌∈◌, Clause, Formula, Witness}
use Rattle.paper.specs.Conditions.{image, given, under, Trivialises, to_true, to_complements}
use Rattle.paper.specs.Sweeps.{Values, is_true, put, State}
use Rattle.paper.proofs.Lists.{complement_twice, complement_half, complement_inj, eqb_yes, eqb_other, map_in, map_out, under_in, under_out, under_not_false}
use Rattle.paper.specs.Valid.{Codes, Apart}
use Rattle.paper.proofs.Values.{truth_at, never_both, put_out, put_in, put_keep}
use Rattle.paper.proofs.Propagation.{Fits, Loaded}
use Rattle.table.specs.Table.{Kept, value_at, image_of, values}
use Rattle.table.proofs.Laws.{value_same, value_other}
use Rattle.table.proofs.Values.{values_length, values_at, is_true_values, put_values}
use Rattle.table.proofs.Kept.{kept_refl, kept_set_value, kept_image_of}
use Rattle.loading.specs.declared.Assumed.{Assumed}
use Rattle.loading.specs.declared.Assumed.TheVariants.{Passes, Open}
use Rattle.loading.specs.Loading.{true_at, make_true, assumed, Outcome, imaged, Unset, Inward}
use Rattle.loading.proofs.Turns.{assumed_next, assumed_end, imaged_end, imaged_true, imaged_false, imaged_already, imaged_next}

-- 1. What is true after a literal is made true, by the paper's laws of values.
pub none_true : (t : List ℕ) → Unset t → (l : ℕ) → true_at t l ≡ false
none_true t unset l =
    let e = unset (l / 2) in
    eqb_other (value_at t (l / 2)) (suc (l % 2)) (omega arith)

module _ (t : List ℕ) (a : ℕ) where
  module _ (k : ℕ) where
    span : ℕ
    span = k / 2 + a / 2

    now : is_true (values span t) k ≡ true_at t k
    unfolding span
    now = is_true_values (k / 2 + a / 2) t k (omega arith)

    after : a / 2 * 2 < length t → is_true (put (values span t) a) k ≡ true_at (make_true t a) k
    unfolding span
    after h =
        ap (λ (vs : Values). is_true vs k) (sym (put_values (k / 2 + a / 2) t a (omega arith) h))
        ∙ is_true_values (k / 2 + a / 2) (make_true t a) k (omega arith)

    pub true_out : a / 2 * 2 < length t → true_at (make_true t a) k ≡ true → (k ≡ a) ⊎ (true_at t k ≡ true)
    true_out h q = go (put_out (values span t) a k (after h ∙ q))
      where
        go : (k ≡ a) ⊎ (is_true (values span t) k ≡ true) → (k ≡ a) ⊎ (true_at t k ≡ true)
        go (inl e) = inl e
        go (inr e) = inr (sym now ∙ e)

    pub true_keep : a / 2 * 2 < length t → true_at t (complement a) ≡ false → true_at t k ≡ true → true_at (make_true t a) k ≡ true
    unfolding span
    true_keep h f q = sym (after h) ∙ put_keep (values span t) a k other (now ∙ q)
      where
        other : is_true (values (k / 2 + a / 2) t) (complement a) ≡ false
        other = is_true_values (k / 2 + a / 2) t (complement a) (rw complement_half (omega arith)) ∙ f

  pub true_in : a / 2 * 2 < length t → true_at (make_true t a) a ≡ true
  unfolding span
  true_in h = sym (after a h) ∙ put_in (values (a / 2 + a / 2) t) a (omega (arith, values_length (a / 2 + a / 2) t))

  pub not_both : true_at t a ≡ true → true_at t (complement a) ≡ true → ⊥
  unfolding span
  not_both p q =
      never_both (values (a / 2 + a / 2) t) a (now a ∙ p)
      (is_true_values (a / 2 + a / 2) t (complement a) (rw complement_half (omega arith)) ∙ q)

-- 2. A table t that is t₀ but for values of the variables 1 to vars.
pub record Within (vars : ℕ) (t₀ t : List ℕ) : Type 0 where
  pub kept : Kept t₀ t
  pub first : value_at t 0 ≡ 0
  pub small : (v : ℕ) → value_at t v < 3
  pub beyond : (v : ℕ) → vars < v → value_at t v ≡ 0

pub within_start : (vars : ℕ) (t : List ℕ) → Unset t → Within vars t t
within_start vars t unset =
    record { kept = kept_refl t; first = unset 0; small = λ v. let e = unset v in omega arith; beyond = λ v h. unset v }

pub within_put : (vars : ℕ) (t₀ t : List ℕ) (a : ℕ) → 2 ≤ a → a ≤ 2 * vars + 1 → vars * 2 < length t₀ → Within vars t₀ t → Within vars t₀ (make_true t a)
within_put vars t₀ t a low high long w =
    record {
      kept = kept_set_value (a / 2) (suc (a % 2)) (omega arith) w.kept;
      first = value_other t (a / 2) (suc (a % 2)) 0 (omega arith) ∙ w.first;
      small = λ v. small v (ℕ_discrete v (a / 2));
      beyond = λ v h. value_other t (a / 2) (suc (a % 2)) v (omega arith) ∙ w.beyond v h;
    }
  where
    small : (v : ℕ) → Dec (v ≡ a / 2) → value_at (make_true t a) v < 3
    small v (yes e) =
        let k = w.kept.long in
        let q = value_same t (a / 2) (suc (a % 2)) (omega arith) (omega arith) in
        rw e (omega arith)
    small v (no n) =
        let q = value_other t (a / 2) (suc (a % 2)) v n in
        let k = w.small v in
        omega arith

-- 3. The literals of B are false, and no others.
pub record Opposes (vars : ℕ) (t₀ t : List ℕ) (B : Clause) : Type 0 where
  pub within : Within vars t₀ t
  pub all : (l : ℕ) → l ∈ B → true_at t (complement l) ≡ true
  pub only : (l : ℕ) → true_at t (complement l) ≡ true → l ∈ B

-- a literal that is true has its complement in B
pub opposed_true : (vars : ℕ) (t₀ t : List ℕ) (B : Clause) → Opposes vars t₀ t B → (l : ℕ) → true_at t l ≡ true → complement l ∈ B
opposed_true vars t₀ t B o l q = o.only (complement l) (ap (true_at t) (complement_twice l) ∙ q)

-- no literal stands in B with its complement
pub opposed_apart : (vars : ℕ) (t₀ t : List ℕ) (B : Clause) → Opposes vars t₀ t B → (l : ℕ) → l ∈ B → complement l ∈ B → ⊥
opposed_apart vars t₀ t B o l p q = not_both t (complement l) (o.all l p) (o.all (complement l) q)

pub opposes_start : (vars : ℕ) (t : List ℕ) → Unset t → Opposes vars t t []
opposes_start vars t unset =
    record {
      within = within_start vars t unset;
      all = λ l m. elim m [ ];
      only = λ l q. absurd (true≢false (sym q ∙ none_true t unset (complement l)));
    }

pub opposes_same : (vars : ℕ) (t₀ t : List ℕ) (A B : Clause) → ((l : ℕ) → l ∈ A → l ∈ B) → ((l : ℕ) → l ∈ B → l ∈ A) → Opposes vars t₀ t A → Opposes vars t₀ t B
opposes_same vars t₀ t A B out in' o = record { within = o.within; all = λ l m. o.all l (in' l m); only = λ l q. out l (o.only l q) }

complement_one : complement 1 ≡ 0
unfolding complement
complement_one = refl

complement_range : (vars l : ℕ) → 2 ≤ l → l ≤ 2 * vars + 1 → (2 ≤ complement l) × (complement l ≤ 2 * vars + 1)
unfolding complement
complement_range vars l h k = omega arith

module _ (vars : ℕ) (t₀ : List ℕ) (long : vars * 2 < length t₀) where
  pub opposes_put : (t : List ℕ) (B : Clause) (a : ℕ) → 2 ≤ a → a ≤ 2 * vars + 1 → true_at t a ≡ false → Opposes vars t₀ t B
      → Opposes vars t₀ (make_true t (complement a)) (a ∷ B)
  opposes_put t B a low high f o =
      record {
        within = within_put vars t₀ t (complement a) range.0 range.1 long o.within;
        all = all;
        only = λ l q. only l (true_out t (complement a) (complement l) fits q);
      }
    where
      range : (2 ≤ complement a) × (complement a ≤ 2 * vars + 1)
      range = complement_range vars a low high

      fits : complement a / 2 * 2 < length t
      fits =
          let k = o.within.kept.long in
          let r = range.1 in
          omega arith

      all : (l : ℕ) → l ∈ a ∷ B → true_at (make_true t (complement a)) (complement l) ≡ true
      all l (Memᴰ.head e) = rw e (true_in t (complement a) fits)
      all l (Memᴰ.tail m) = true_keep t (complement a) (complement l) fits (ap (true_at t) (complement_twice a) ∙ f) (o.all l m)

      only : (l : ℕ) → (complement l ≡ complement a) ⊎ (true_at t (complement l) ≡ true) → l ∈ a ∷ B
      only l (inl e) = Memᴰ.head (complement_inj l a e)
      only l (inr q) = Memᴰ.tail (o.only l q)

  -- the complements of a clause with no variable twice, none of them a variable of B
  opposes_assumed : (C : Clause) → Codes vars C → Apart C → (t : List ℕ) (B : Clause)
      → ((l : ℕ) → l ∈ C → ¬ (l / 2 ∈ map (λ k. k / 2) B)) → Opposes vars t₀ t B → Opposes vars t₀ (assumed t C) (C ++ B)
  opposes_assumed [] codes apart t B new o = rw assumed_end o
  opposes_assumed (l ∷ C) codes apart t B new o =
      rw assumed_next
      (opposes_same vars t₀ (assumed (make_true t (complement l)) C) (C ++ (l ∷ B)) ((l ∷ C) ++ B) out in'
      (opposes_assumed C (λ k m. codes k (Memᴰ.tail m)) apart.1 (make_true t (complement l)) (l ∷ B) new'
      (opposes_put t B l here.0 here.1 unset o)))
    where
      here : (2 ≤ l) × (l ≤ 2 * vars + 1)
      here = codes l (Memᴰ.head refl)

      unset : true_at t l ≡ false
      unset = go (true_at t l) refl
        where
          go : (b : Bool) → true_at t l ≡ b → true_at t l ≡ false
          go true e =
              absurd (new l (Memᴰ.head refl)
              (subst (λ (x : ℕ). x ∈ map (λ k. k / 2) B) (complement_half l) (map_in (λ k. k / 2) (opposed_true vars t₀ t B o l e))))
          go false e = e

      new' : (k : ℕ) → k ∈ C → ¬ (k / 2 ∈ map (λ k. k / 2) (l ∷ B))
      new' k m (Memᴰ.head e) = apart.0 (subst (λ (x : ℕ). x ∈ map (λ k. k / 2) C) e (map_in (λ k. k / 2) m))
      new' k m (Memᴰ.tail q) = new k (Memᴰ.tail m) q

      out : (k : ℕ) → k ∈ C ++ (l ∷ B) → k ∈ (l ∷ C) ++ B
      out k m = go (Memᴰ.append_cases C m)
        where
          go : (k ∈ C) ⊎ (k ∈ l ∷ B) → k ∈ l ∷ (C ++ B)
          go (inl q) = Memᴰ.tail (Memᴰ.append_left B q)
          go (inr (Memᴰ.head e)) = Memᴰ.head e
          go (inr (Memᴰ.tail q)) = Memᴰ.tail (Memᴰ.append_right C q)

      in' : (k : ℕ) → k ∈ (l ∷ C) ++ B → k ∈ C ++ (l ∷ B)
      in' k (Memᴰ.head e) = Memᴰ.append_right C (Memᴰ.head e)
      in' k (Memᴰ.tail m) = go (Memᴰ.append_cases C m)
        where
          go : (k ∈ C) ⊎ (k ∈ B) → k ∈ C ++ (l ∷ B)
          go (inl q) = Memᴰ.append_left (l ∷ B) q
          go (inr q) = Memᴰ.append_right C (Memᴰ.tail q)

  pub clause_opposed : (C : Clause) → Codes vars C → Apart C → Unset t₀ → Opposes vars t₀ (assumed t₀ C) C
  clause_opposed C codes apart unset =
      opposes_same vars t₀ (assumed t₀ C) (C ++ []) C (λ l m. go l (Memᴰ.append_cases C m)) (λ l m. Memᴰ.append_left [] m)
      (opposes_assumed C codes apart t₀ [] (λ l m q. elim q [ ]) (opposes_start vars t₀ unset))
    where
      go : (l : ℕ) → (l ∈ C) ⊎ (l ∈ []) → l ∈ C
      go l (inl m) = m
      go l (inr m) = elim m [ ]

-- 4. The images of D's literals.
-- whatever the answer, the table differs in values of the variables 1 to vars alone
module _ (vars : ℕ) (t₀ : List ℕ) (long : vars * 2 < length t₀) (inward : Inward vars t₀) where
  pub imaged_within : (D : Clause) → Codes vars D → (t : List ℕ) → Within vars t₀ t → Within vars t₀ (imaged t D).table
  imaged_within [] codes t w = rw imaged_end w
  imaged_within (l ∷ D) codes t w =
      go (imaged_within D (λ k m. codes k (Memᴰ.tail m))) (ℕ_discrete (image_of t l) 0) (ℕ_discrete (image_of t l) 1) (true_at t (image_of t l)) refl
    where
      here : (2 ≤ l) × (l ≤ 2 * vars + 1)
      here = codes l (Memᴰ.head refl)

      e : image_of t l ≡ image_of t₀ l
      e = kept_image_of w.kept l

      put_here : image_of t l ≢ 0 → image_of t l ≢ 1 → Within vars t₀ (make_true t (complement (image_of t l)))
      put_here n m =
          let r = complement_range vars (image_of t l) (omega arith) (omega (arith, e, inward l here.0 here.1)) in
          within_put vars t₀ t (complement (image_of t l)) r.0 r.1 long w

      go : ((u : List ℕ) → Within vars t₀ u → Within vars t₀ (imaged u D).table) → Dec (image_of t l ≡ 0) → Dec (image_of t l ≡ 1) → (b : Bool)
          → true_at t (image_of t l) ≡ b → Within vars t₀ (imaged t (l ∷ D)).table
      go rec (yes z) d b q = rw (imaged_true t l D z) w
      go rec (no n) (yes z) b q = rw (imaged_false t l D z) (rec t w)
      go rec (no n) (no m) true q = rw (imaged_already t l D n m q) w
      go rec (no n) (no m) false q = rw (imaged_next t l D n m q) (rec (make_true t (complement (image_of t l))) (put_here n m))

under_none : (s : Witness) → under s [] ≡ []
unfolding under
under_none s = refl

-- D under s by its first literal
module _ (s : Witness) (l : ℕ) (D : Clause) where
  under_here : image s l ≢ 1 → image s l ∈ under s (l ∷ D)
  under_here ne = under_in s (l ∷ D) (Memᴰ.head refl) ne

  under_more : {k : ℕ} → k ∈ under s D → k ∈ under s (l ∷ D)
  under_more {k} m =
      let r = under_out s D m in
      rw r.2 (under_in s (l ∷ D) (Memᴰ.tail r.1) (λ e. under_not_false s D m (r.2 ∙ e)))

  under_first : {k : ℕ} → k ∈ under s (l ∷ D) → (k ≡ image s l) ⊎ (k ∈ under s D)
  under_first {k} m = go (under_out s (l ∷ D) m)
    where
      go : (j : ℕ) × (j ∈ l ∷ D) × (k ≡ image s j) → (k ≡ image s l) ⊎ (k ∈ under s D)
      go (j, Memᴰ.head e, q) = inl (q ∙ ap (image s) e)
      go (j, Memᴰ.tail n, q) = inr (rw q (under_in s D n (λ e. under_not_false s (l ∷ D) m (q ∙ e))))

  -- its first image opposed before, or with the rest
  module _ (B : Clause) (ne : image s l ≢ 1) (k : ℕ) where
    under_out_first : k ∈ under s D ++ (image s l ∷ B) → k ∈ under s (l ∷ D) ++ B
    under_out_first m = go (Memᴰ.append_cases (under s D) m)
      where
        go : (k ∈ under s D) ⊎ (k ∈ image s l ∷ B) → k ∈ under s (l ∷ D) ++ B
        go (inl q) = Memᴰ.append_left B (under_more q)
        go (inr (Memᴰ.head e)) = rw e (Memᴰ.append_left B (under_here ne))
        go (inr (Memᴰ.tail q)) = Memᴰ.append_right (under s (l ∷ D)) q

    under_in_first : k ∈ under s (l ∷ D) ++ B → k ∈ under s D ++ (image s l ∷ B)
    under_in_first m = go (Memᴰ.append_cases (under s (l ∷ D)) m)
      where
        one : (k ≡ image s l) ⊎ (k ∈ under s D) → k ∈ under s D ++ (image s l ∷ B)
        one (inl e) = Memᴰ.append_right (under s D) (Memᴰ.head e)
        one (inr q) = Memᴰ.append_left (image s l ∷ B) q

        go : (k ∈ under s (l ∷ D)) ⊎ (k ∈ B) → k ∈ under s D ++ (image s l ∷ B)
        go (inl q) = one (under_first q)
        go (inr q) = Memᴰ.append_right (under s D) (Memᴰ.tail q)

  -- a first literal that is sent to false
  module _ (B : Clause) (e : image s l ≡ 1) (k : ℕ) where
    under_out_false : k ∈ under s D ++ B → k ∈ under s (l ∷ D) ++ B
    under_out_false m = go (Memᴰ.append_cases (under s D) m)
      where
        go : (k ∈ under s D) ⊎ (k ∈ B) → k ∈ under s (l ∷ D) ++ B
        go (inl q) = Memᴰ.append_left B (under_more q)
        go (inr q) = Memᴰ.append_right (under s (l ∷ D)) q

    under_in_false : k ∈ under s (l ∷ D) ++ B → k ∈ under s D ++ B
    under_in_false m = go (Memᴰ.append_cases (under s (l ∷ D)) m)
      where
        one : k ∈ under s (l ∷ D) → (k ≡ image s l) ⊎ (k ∈ under s D) → k ∈ under s D ++ B
        one n (inl p) = absurd (under_not_false s (l ∷ D) n (p ∙ e))
        one n (inr q) = Memᴰ.append_left B q

        go : (k ∈ under s (l ∷ D)) ⊎ (k ∈ B) → k ∈ under s D ++ B
        go (inl q) = one q (under_first q)
        go (inr q) = Memᴰ.append_right (under s D) q

-- a literal of D is sent to true, or to one whose complement is opposed with D's images or was before
pub data Passing (s : Witness) (D B : Clause) : Type 0 where
  true_image : {l : ℕ} → l ∈ D → image s l ≡ 0 → Passing s D B
  opposed_image : {l : ℕ} → l ∈ D → image s l ≢ 1 → complement (image s l) ∈ under s D ++ B → Passing s D B

passing_more : (s : Witness) (l : ℕ) (D A B : Clause) → ((k : ℕ) → k ∈ under s D ++ A → k ∈ under s (l ∷ D) ++ B) → Passing s D A → Passing s (l ∷ D) B
passing_more s l D A B out (true_image m e) = true_image (Memᴰ.tail m) e
passing_more s l D A B out (opposed_image m ne q) = opposed_image (Memᴰ.tail m) ne (out _ q)

module _ (vars : ℕ) (t₀ : List ℕ) (long : vars * 2 < length t₀) (s : Witness) where
  -- what an answer says of D, after B
  abbrev pub Says : Clause → Clause → List ℕ → Assumed → Type 0
  Says D B t Passes = Passing s D B
  Says D B t Open = Opposes vars t₀ t (under s D ++ B) × ((l : ℕ) → l ∈ D → image s l ≢ 0)

  says_more : (l : ℕ) (D A B : Clause) → image s l ≢ 0 → ((k : ℕ) → k ∈ under s D ++ A → k ∈ under s (l ∷ D) ++ B)
      → ((k : ℕ) → k ∈ under s (l ∷ D) ++ B → k ∈ under s D ++ A) → (t : List ℕ) (r : Assumed) → Says D A t r → Says (l ∷ D) B t r
  says_more l D A B n out in' t Passes p = passing_more s l D A B out p
  says_more l D A B n out in' t Open (o, f) = (opposes_same vars t₀ t (under s D ++ A) (under s (l ∷ D) ++ B) out in' o, all)
    where
      all : (k : ℕ) → k ∈ l ∷ D → image s k ≢ 0
      all k (Memᴰ.head e) = rw e n
      all k (Memᴰ.tail m) = f k m

  module _ (images : (l : ℕ) → 2 ≤ l → l ≤ 2 * vars + 1 → image_of t₀ l ≡ image s l) (inward : Inward vars t₀) where
    pub imaged_says : (D : Clause) → Codes vars D → (t : List ℕ) (B : Clause) → Opposes vars t₀ t B → Says D B (imaged t D).table (imaged t D).answer
    imaged_says [] codes t B o = rw imaged_end (rw under_none o, λ l m. elim m [ ])
    imaged_says (l ∷ D) codes t B o =
        go (imaged_says D (λ k m. codes k (Memᴰ.tail m))) (ℕ_discrete (image_of t l) 0) (ℕ_discrete (image_of t l) 1) (true_at t (image_of t l)) refl
      where
        here : (2 ≤ l) × (l ≤ 2 * vars + 1)
        here = codes l (Memᴰ.head refl)

        e : image_of t l ≡ image s l
        e = kept_image_of o.within.kept l ∙ images l here.0 here.1

        by : (x : Outcome) → imaged t (l ∷ D) ≡ x → Says (l ∷ D) B x.table x.answer → Says (l ∷ D) B (imaged t (l ∷ D)).table (imaged t (l ∷ D)).answer
        by x q p = subst (λ (y : Outcome). Says (l ∷ D) B y.table y.answer) (sym q) p

        put_here : image s l ≢ 0 → image s l ≢ 1 → true_at t (image_of t l) ≡ false → Opposes vars t₀ (make_true t (complement (image_of t l))) (image s l ∷ B)
        put_here n m q =
            rw e
            (opposes_put vars t₀ long t B (image s l) (omega arith) (omega (arith, inward l here.0 here.1, images l here.0 here.1))
            (sym (ap (true_at t) e) ∙ q) o)

        go : ((u : List ℕ) (A : Clause) → Opposes vars t₀ u A → Says D A (imaged u D).table (imaged u D).answer) → Dec (image_of t l ≡ 0)
            → Dec (image_of t l ≡ 1) → (b : Bool) → true_at t (image_of t l) ≡ b → Says (l ∷ D) B (imaged t (l ∷ D)).table (imaged t (l ∷ D)).answer
        go rec (yes z) d b q = by (record { answer = Passes; table = t }) (imaged_true t l D z) (true_image (Memᴰ.head refl) (sym e ∙ z))
        go rec (no n) (yes z) b q =
            by (imaged t D) (imaged_false t l D z)
            (says_more l D B B (λ p. n (e ∙ p)) (under_out_false s l D B (sym e ∙ z)) (under_in_false s l D B (sym e ∙ z)) (imaged t D).table (imaged t D).answer
            (rec t B o))
        go rec (no n) (no m) true q =
            by (record { answer = Passes; table = t }) (imaged_already t l D n m q)
            (opposed_image (Memᴰ.head refl) (λ p. m (e ∙ p))
            (Memᴰ.append_right (under s (l ∷ D)) (opposed_true vars t₀ t B o (image s l) (sym (ap (true_at t) e) ∙ q))))
        go rec (no n) (no m) false q =
            let n' : image s l ≢ 0 = λ p. n (e ∙ p) in
            let m' : image s l ≢ 1 = λ p. m (e ∙ p) in
            let u : List ℕ = make_true t (complement (image_of t l)) in
            by (imaged u D) (imaged_next t l D n m q)
            (says_more l D (image s l ∷ B) B n' (under_out_first s l D B m') (under_in_first s l D B m') (imaged u D).table (imaged u D).answer
            (rec u (image s l ∷ B) (put_here n' m' q)))

    -- 5. The answers, after the new clause C: D passes by the witness or by a complement in C, or its images are opposed too.
    module _ (D : Clause) (codes : Codes vars D) (C : Clause) (t : List ℕ) (o : Opposes vars t₀ t C) where
      said : (r : Assumed) → (imaged t D).answer ≡ r → Says D C (imaged t D).table r
      said r e = subst (Says D C (imaged t D).table) e (imaged_says D codes t C o)

      pub images_pass : (imaged t D).answer ≡ Passes → (Trivialises s D) ⊎ ((l : ℕ) × (l ∈ under s D) × (complement l ∈ C))
      images_pass e = go (said Passes e)
        where
          side : (l : ℕ) → l ∈ D → image s l ≢ 1 → (complement (image s l) ∈ under s D) ⊎ (complement (image s l) ∈ C)
              → (Trivialises s D) ⊎ ((k : ℕ) × (k ∈ under s D) × (complement k ∈ C))
          side l m ne (inl q) =
              let r = under_out s D q in
              inl (to_complements m r.1 (sym (complement_twice (image s l)) ∙ ap complement r.2))
          side l m ne (inr q) = inr (image s l, under_in s D m ne, q)

          go : Passing s D C → (Trivialises s D) ⊎ ((k : ℕ) × (k ∈ under s D) × (complement k ∈ C))
          go (true_image m z) = inl (to_true m z)
          go (opposed_image {l} m ne q) = side l m ne (Memᴰ.append_cases (under s D) q)

      module _ (e : (imaged t D).answer ≡ Open) where
        pub images_opposed : Opposes vars t₀ (imaged t D).table (C ++ under s D)
        images_opposed =
            opposes_same vars t₀ (imaged t D).table (under s D ++ C) (C ++ under s D) (λ l m. swap l (under s D) C m) (λ l m. swap l C (under s D) m)
            (said Open e).0
          where
            swap : (l : ℕ) (A B : Clause) → l ∈ A ++ B → l ∈ B ++ A
            swap l A B m = go (Memᴰ.append_cases A m)
              where
                go : (l ∈ A) ⊎ (l ∈ B) → l ∈ B ++ A
                go (inl q) = Memᴰ.append_right B q
                go (inr q) = Memᴰ.append_left A q

        pub images_not_opposed : (l : ℕ) → l ∈ under s D → ¬ (complement l ∈ C)
        images_not_opposed l m q =
            opposed_apart vars t₀ (imaged t D).table (C ++ under s D) images_opposed l (Memᴰ.append_right C m) (Memᴰ.append_left (under s D) q)

        pub images_not_trivial : ¬ (Trivialises s D)
        images_not_trivial (to_true {l} m z) = (said Open e).1 l m z
        images_not_trivial (to_complements {l} {k} m n q) = go (ℕ_discrete (image s l) 1) (ℕ_discrete (image s k) 1)
          where
            go : Dec (image s l ≡ 1) → Dec (image s k ≡ 1) → ⊥
            go (yes z) d = (said Open e).1 k n (sym (complement_twice (image s k)) ∙ ap complement (sym q ∙ z) ∙ complement_one)
            go (no z) (yes w) = (said Open e).1 l m (q ∙ ap complement w ∙ complement_one)
            go (no z) (no w) =
                opposed_apart vars t₀ (imaged t D).table (C ++ under s D) images_opposed (image s k) (Memᴰ.append_right C (under_in s D n w))
                (Memᴰ.append_right C (subst (λ (x : ℕ). x ∈ under s D) q (under_in s D m z)))

-- 6. The table as a state of the propagation: what is true is what is assumed.
-- a literal that is true is one of the variables that have values
pub value_of_true : (t : List ℕ) (l : ℕ) → true_at t l ≡ true → value_at t (l / 2) ≡ suc (l % 2)
value_of_true t l q = eqb_yes (value_at t (l / 2)) (suc (l % 2)) q

module _ (vars n : ℕ) (t₀ t : List ℕ) (B : Clause) (h : vars ≤ n) (o : Opposes vars t₀ t B) where
  pub state_out : (l : ℕ) → is_true (values n t) l ≡ true → l ∈ map complement B
  state_out l q = go (dec_lt n (l / 2))
    where
      go : Dec (n < l / 2) → l ∈ map complement B
      go (yes far) =
          let a = truth_at (values n t) l q in
          let k = values_length n t in
          let z = get_or-eq_default (values n t) 0 {n = l / 2} (omega arith) in
          absurd (omega arith)
      go (no near) =
          subst (λ (x : ℕ). x ∈ map complement B) (complement_twice l)
          (map_in complement (opposed_true vars t₀ t B o l (sym (is_true_values n t l (omega arith)) ∙ q)))

  pub state_in : (a : ℕ) → a ∈ map complement B → is_true (values n t) a ≡ true
  state_in a m = go (dec_lt vars (a / 2))
    where
      r : (l : ℕ) × (l ∈ B) × (a ≡ complement l)
      r = map_out complement B m

      here : true_at t a ≡ true
      here = ap (true_at t) r.2 ∙ o.all r.0 r.1

      go : Dec (vars < a / 2) → is_true (values n t) a ≡ true
      go (yes far) =
          let z = o.within.beyond (a / 2) far in
          let q = value_of_true t a here in
          absurd (omega arith)
      go (no near) = is_true_values n t a (omega arith) ∙ here

  pub state_fits : Fits n (values n t)
  state_fits = record { long = values_length n t; first = values_at n t (omega arith) ∙ o.within.first }

  pub opposes_loaded : (F : Formula) (x : State) → x.values ≡ values n t → x.clash ≡ false → Loaded n F (map complement B) x
  opposes_loaded F x e g =
      record {
        fits = rw e state_fits;
        known = λ l q. given (state_out l (ap (λ (vs : Values). is_true vs l) (sym e) ∙ q));
        all = λ a m. ap (λ (vs : Values). is_true vs a) e ∙ state_in a m;
        going = g;
      }
