-- The rules of reading held from both sides: a field, a list, a formula is read exactly where the paper says so, and refused at the place
-- that it names. A rule changed in the definition and in the code alike would not meet these laws.
-- Assumes nothing.
use Prim.Native.Nat.{ℕ, zero, suc, ◌+◌, ◌*◌, ◌%◌, ◌/◌, ◌≤◌, ◌<◌}
use mathlib.Core.Path.{◌≡◌, refl, sym, ap, ◌∙◌, subst}
use mathlib.Core.Logic.{◌≢◌, ◌⊎◌, inl, inr, ◌↔◌}
use mathlib.Core.Bool.{Bool, true, false, ◌&&◌, ◌||◌, true≢false}
use mathlib.Core.List.Memᴰ
use mathlib.Core.List.{List, [], ◌∷◌, ◌++◌, append-nil, map}
use native.Mathlib.Omega.{arith}
use lib.Dec.{eqb, leb, ltb}
use lib.ListN.{length, get_or}
use Rattle.paper.specs.declared.Reason.{Reason}
use Rattle.paper.specs.declared.Reason.TheVariants.{FormulaField, OverLimit, FormulaCode, FormulaTwice, FormulaEnd, ProofField, ProofCode, NumberNotLive}
use Rattle.paper.specs.declared.Extent.{Extent}
use Rattle.paper.specs.declared.Fields.{Fields}
use Rattle.paper.specs.declared.Verdict.{Verdict}
use Rattle.paper.specs.declared.Verdict.TheVariants.{Refuted, Held, Refused}
use Rattle.paper.specs.Atoms.{◌∈◌, Clause, Formula, Live, Witness}
use Rattle.paper.specs.Files.{File, Read, ok, bad, ◌>>=◌, ◌>>◌, need, two, payload, past, field, four, even, fours, codes, rup_step, sr_step, wsr_step, delete_step}
use Rattle.paper.specs.Conditions.{is_in}
use Rattle.paper.specs.Refusals.{each, no_two, between, check_clause, read_clauses, read_formula, field_if, read_fields, check_mappings, is_live, check_numbers, to_step}
use Rattle.paper.specs.Answers.{number_of, verdict_numbers, Answer, work_short, file_long, formula_bad, proof_judged}
use Rattle.paper.specs.Valid.{Distinct, Codes, Apart, Listed}
use Rattle.paper.proofs.Lists.{eqb_yes, eqb_same, or_yes, leb_yes, leb_no, leb_within, leb_beyond, is_in_yes, is_in_no}
use Rattle.paper.proofs.Reading.{Reads, reads_bind, reads_seq, reads_need, reads_each, reads_no_two, Then, then_bind, then_seq, anything, each_then, no_two_then, check_clause_then, check_mappings_then, check_numbers_then, Ranged}
use Rattle.paper.proofs.Reasons.{OfFormula, formula_reasons, OfSteps, steps_reasons}

-- "HEAD has length 4, code and number lists even length, a WITNESS a multiple of 4"
pub lengths_exactly : (n : ℕ) → ((four n ≡ true) ↔ (n ≡ 4)) × ((even n ≡ true) ↔ ((k : ℕ) × (n ≡ 2 * k))) × ((fours n ≡ true) ↔ ((k : ℕ) × (n ≡ 4 * k)))
unfolding four even fours
lengths_exactly n = (
  (eqb_yes n 4, eqb_same n 4),
  ((λ e. let z = eqb_yes (n % 2) 0 e in (n / 2, omega arith)), λ r. let h = r.1 in eqb_same (n % 2) 0 (omega arith)),
  ((λ e. let z = eqb_yes (n % 4) 0 e in (n / 4, omega arith)), λ r. let h = r.1 in eqb_same (n % 4) 0 (omega arith)),
)

-- "A code is two bytes, high byte first": the codes of a payload are its bytes two by two, whatever they are
pub codes_pair : (a b : ℕ) (bs : List ℕ) → codes (a ∷ b ∷ bs) ≡ (a * 256 + b) ∷ codes bs
unfolding codes
codes_pair a b bs = refl

-- "A file is a run of fields: one byte tag, two bytes length (high byte first), then that many bytes." A field is read exactly where its
-- tag, its length and its payload are right; its payload is then the bytes after these three.
pub record Whole (tag : ℕ) (allowed : ℕ → Bool) (f : File) (at : ℕ) (e : Extent) : Type 0 where
  pub three : at + 3 ≤ length f
  pub tagged : get_or f at 0 ≡ tag
  pub starts : e.start ≡ at + 3
  pub sized : e.size ≡ get_or f (at + 1) 0 * 256 + get_or f (at + 2) 0
  pub fits : allowed e.size ≡ true
  pub ends : e.start + e.size ≤ length f

two_bytes : (f : File) (at : ℕ) → two f (at + 1) ≡ get_or f (at + 1) 0 * 256 + get_or f (at + 2) 0
unfolding two
two_bytes f at = let e : at + 1 + 1 ≡ at + 2 = omega arith in ap (λ (i : ℕ). get_or f (at + 1) 0 * 256 + get_or f i 0) e

reads_field : (Q : Reason → ℕ → Type 0) (r : Reason) (tag : ℕ) (allowed : ℕ → Bool) (f : File) (at : ℕ) → Q r at
    → Reads (Whole tag allowed f at) Q (field r tag allowed f at)
unfolding field
reads_field Q r tag allowed f at q =
    reads_seq Q _ _ _ _ (reads_need Q (leb (at + 3) (length f)) r at (λ _. q)) λ _ a.
    reads_seq Q _ _ _ _ (reads_need Q (eqb (get_or f at 0) tag) r at (λ _. q)) λ _ b.
    reads_seq Q _ _ _ _ (reads_need Q (allowed (two f (at + 1))) r at (λ _. q)) λ _ c.
    reads_seq Q _ _ _ _ (reads_need Q (leb (at + 3 + two f (at + 1)) (length f)) r at (λ _. q)) λ _ d.
    record { three = leb_yes _ _ a; tagged = eqb_yes _ _ b; starts = refl; sized = two_bytes f at; fits = c; ends = leb_yes _ _ d }

pub field_exactly : (r : Reason) (tag : ℕ) (allowed : ℕ → Bool) (f : File) (at : ℕ) (e : Extent)
    → (field r tag allowed f at ≡ ok e) ↔ Whole tag allowed f at e
unfolding field need ◌>>◌
field_exactly r tag allowed f at e =
    ((λ h. subst (Reads (Whole tag allowed f at) (λ q p. Unit {0})) h (reads_field (λ q p. Unit {0}) r tag allowed f at tt)), back)
  where
    back : Whole tag allowed f at e → field r tag allowed f at ≡ ok e
    back w =
        let n = two_bytes f at ∙ sym w.sized in
        let fits : allowed (two f (at + 1)) ≡ true = ap allowed n ∙ w.fits in
        let ends : at + 3 + two f (at + 1) ≤ length f = omega (arith, n, w.starts, w.ends) in
        rw (leb_within (at + 3) (length f) w.three, eqb_same (get_or f at 0) tag w.tagged, fits, leb_within (at + 3 + two f (at + 1)) (length f) ends, n, sym w.starts)

-- "Within one reason and field the first place counts." Each list is read exactly where nothing in it is wrong; the first that is wrong, xs
-- before it being right, is refused at its place.
module _ (r : Reason) (good : ℕ → Bool) (u : ℕ) where
  pub each_place : (p : ℕ) (xs : List ℕ) (x : ℕ) (ys : List ℕ) → ((l : ℕ) → l ∈ xs → good l ≡ true) → good x ≡ false
      → each r good u p (xs ++ (x ∷ ys)) ≡ bad r (p + u * length xs)
  unfolding each
  each_place p [] x ys all e = let q : p + u * 0 ≡ p = omega arith in rw (e, q)
  each_place p (l ∷ xs) x ys all e =
      let q : p + u + u * length xs ≡ p + u * suc (length xs) = omega arith in
      rw (all l (Memᴰ.head refl)) (each_place (p + u) xs x ys (λ k m. all k (Memᴰ.tail m)) e ∙ ap (bad r) q)

  each_all : (p : ℕ) (xs : List ℕ) → ((l : ℕ) → l ∈ xs → good l ≡ true) → each r good u p xs ≡ ok tt
  unfolding each
  each_all p [] all = refl
  each_all p (l ∷ xs) all = rw (all l (Memᴰ.head refl), each) (each_all (p + u) xs (λ k m. all k (Memᴰ.tail m)))

  pub each_exactly : (p : ℕ) (xs : List ℕ) → (each r good u p xs ≡ ok tt) ↔ ((l : ℕ) → l ∈ xs → good l ≡ true)
  each_exactly p xs = ((λ h. subst (Then (λ _. (l : ℕ) → l ∈ xs → good l ≡ true)) h (each_then r good u p xs)), each_all p xs)

is_in_true : (a : ℕ) (l : List ℕ) → a ∈ l → is_in a l ≡ true
is_in_true a l m = go (is_in a l) refl
  where
    go : (b : Bool) → is_in a l ≡ b → b ≡ true
    go true e = refl
    go false e = absurd (is_in_no a l e m)

is_in_false : (a : ℕ) (l : List ℕ) → ¬ (a ∈ l) → is_in a l ≡ false
is_in_false a l out = go (is_in a l) refl
  where
    go : (b : Bool) → is_in a l ≡ b → b ≡ false
    go true e = absurd (out (is_in_yes a l e))
    go false e = refl

-- "variable twice in a clause, or mapped twice": exactly where one stands twice, at "the second"
module _ (r : Reason) (u : ℕ) where
  no_two_from : (seen : List ℕ) (p : ℕ) (xs : List ℕ) → Distinct xs → ((l : ℕ) → l ∈ xs → ¬ (l ∈ seen)) → no_two r seen u p xs ≡ ok tt
  unfolding no_two
  no_two_from seen p [] d out = refl
  no_two_from seen p (l ∷ xs) d out =
      rw (is_in_false l seen (out l (Memᴰ.head refl)), no_two) (no_two_from (l ∷ seen) (p + u) xs d.1 fresh)
    where
      fresh : (k : ℕ) → k ∈ xs → ¬ (k ∈ l ∷ seen)
      fresh k m (Memᴰ.head e) = d.0 (subst (λ (j : ℕ). j ∈ xs) e m)
      fresh k m (Memᴰ.tail q) = out k (Memᴰ.tail m) q

  pub no_two_exactly : (p : ℕ) (xs : List ℕ) → (no_two r [] u p xs ≡ ok tt) ↔ Distinct xs
  no_two_exactly p xs = ((λ h. subst (Then (λ _. Distinct xs)) h (no_two_then r u p xs)), λ d. no_two_from [] p xs d (λ l m q. elim q [ ]))

  no_two_at : (seen : List ℕ) (p : ℕ) (xs : List ℕ) (x : ℕ) (ys : List ℕ) → Distinct xs → ((l : ℕ) → l ∈ xs → ¬ (l ∈ seen)) → (x ∈ seen) ⊎ (x ∈ xs)
      → no_two r seen u p (xs ++ (x ∷ ys)) ≡ bad r (p + u * length xs)
  unfolding no_two
  no_two_at seen p [] x ys d out (inl m) = let q : p + u * 0 ≡ p = omega arith in rw (q, is_in_true x seen m, no_two)
  no_two_at seen p [] x ys d out (inr m) = elim m [ ]
  no_two_at seen p (l ∷ xs) x ys d out twice =
      let q : p + u + u * length xs ≡ p + u * suc (length xs) = omega arith in
      rw (is_in_false l seen (out l (Memᴰ.head refl)), no_two)
      (no_two_at (l ∷ seen) (p + u) xs x ys d.1 fresh (earlier twice) ∙ ap (bad r) q)
    where
      fresh : (k : ℕ) → k ∈ xs → ¬ (k ∈ l ∷ seen)
      fresh k m (Memᴰ.head e) = d.0 (subst (λ (j : ℕ). j ∈ xs) e m)
      fresh k m (Memᴰ.tail q) = out k (Memᴰ.tail m) q

      earlier : (x ∈ seen) ⊎ (x ∈ l ∷ xs) → (x ∈ l ∷ seen) ⊎ (x ∈ xs)
      earlier (inl m) = inl (Memᴰ.tail m)
      earlier (inr (Memᴰ.head e)) = inl (Memᴰ.head e)
      earlier (inr (Memᴰ.tail m)) = inr m

  pub no_two_place : (p : ℕ) (xs : List ℕ) (x : ℕ) (ys : List ℕ) → Distinct xs → x ∈ xs → no_two r [] u p (xs ++ (x ∷ ys)) ≡ bad r (p + u * length xs)
  no_two_place p xs x ys d m = no_two_at [] p xs x ys d (λ l q z. elim z [ ]) (inr m)

between_within : (low high x : ℕ) → low ≤ x → x ≤ high → between low high x ≡ true
unfolding between
between_within low high x a b = rw (leb_within low x a, leb_within x high b)

and_false : (a b : Bool) → b ≡ false → (a && b) ≡ false
and_false true b e = e
and_false false b e = refl

between_outside : (low high x : ℕ) → (x < low) ⊎ (high < x) → between low high x ≡ false
unfolding between
between_outside low high x (inl h) = rw (leb_beyond low x h)
between_outside low high x (inr h) = and_false (leb low x) (leb x high) (leb_beyond x high h)

-- "code outside 2 to 2V+1", "variable twice in a clause": a clause is read exactly where it has neither
pub clause_exactly : (range twice : Reason) (vars p : ℕ) (C : Clause) → (check_clause range twice vars p C ≡ ok tt) ↔ (Codes vars C × Apart C)
unfolding check_clause ◌>>◌
clause_exactly range twice vars p C = (
  (λ h. subst (Then (λ _. Codes vars C × Apart C)) h (check_clause_then range twice vars p C)),
  λ k. rw (
    (each_exactly range (between 2 (2 * vars + 1)) 2 p C).1 (λ l m. let h = k.0 l m in between_within 2 (2 * vars + 1) l h.0 h.1),
    (no_two_exactly twice 2 p (map (λ l. l / 2) C)).1 k.1,
  ),
)

-- "witness variable outside 1 to V, atom outside 0 to 2V+1": the variable before its atom, a pair before the next
module _ (vars : ℕ) where
  -- the pairs xs in range: what comes after them is read next
  mappings_after : (p : ℕ) (xs ys : Witness) → Ranged vars xs → check_mappings vars p (xs ++ ys) ≡ check_mappings vars (p + 4 * length xs) ys
  unfolding check_mappings need ◌>>◌
  mappings_after p [] ys all = let q : p + 4 * 0 ≡ p = omega arith in rw q
  mappings_after p (x ∷ xs) ys all =
      let h = all x.0 x.1 (Memᴰ.head refl) in
      let q : p + 4 + 4 * length xs ≡ p + 4 * suc (length xs) = omega arith in
      rw (between_within 1 vars x.0 h.0 h.1, leb_within x.1 (2 * vars + 1) h.2)
      (mappings_after (p + 4) xs ys (λ v a m. all v a (Memᴰ.tail m)) ∙ ap (λ (i : ℕ). check_mappings vars i ys) q)

  pub mappings_exactly : (p : ℕ) (s : Witness) → (check_mappings vars p s ≡ ok tt) ↔ Ranged vars s
  unfolding check_mappings
  mappings_exactly p s = ((λ h. subst (Then (λ _. Ranged vars s)) h (check_mappings_then vars p s)), λ all. rw append-nil at (mappings_after p s [] all))

  pub variable_place : (p : ℕ) (xs : Witness) (v a : ℕ) (ys : Witness) → Ranged vars xs → (v < 1) ⊎ (vars < v)
      → check_mappings vars p (xs ++ ((v, a) ∷ ys)) ≡ bad ProofCode (p + 4 * length xs)
  unfolding check_mappings need ◌>>◌
  variable_place p xs v a ys all out = mappings_after p xs ((v, a) ∷ ys) all ∙ rw (between_outside 1 vars v out)

  pub atom_place : (p : ℕ) (xs : Witness) (v a : ℕ) (ys : Witness) → Ranged vars xs → 1 ≤ v → v ≤ vars → 2 * vars + 1 < a
      → check_mappings vars p (xs ++ ((v, a) ∷ ys)) ≡ bad ProofCode (p + 4 * length xs + 2)
  unfolding check_mappings need ◌>>◌
  atom_place p xs v a ys all low high out =
      mappings_after p xs ((v, a) ∷ ys) all ∙ rw (between_within 1 vars v low high, leb_beyond a (2 * vars + 1) out)

-- "number not live, or not above the one before it in its list": the last of the numbers xs, or the one before them
unfoldable pub last_of : ℕ → List ℕ → ℕ
last_of n [] = n
last_of n (x ∷ xs) = last_of x xs

module _ (F : Formula) where
  numbers_after : (last p : ℕ) (xs ys : List ℕ) → Listed F last xs
      → check_numbers F last p (xs ++ ys) ≡ check_numbers F (last_of last xs) (p + 2 * length xs) ys
  unfolding check_numbers last_of need ◌>>◌
  numbers_after last p [] ys all = let q : p + 2 * 0 ≡ p = omega arith in rw q
  numbers_after last p (n ∷ xs) ys all =
      let q : p + 2 + 2 * length xs ≡ p + 2 * suc (length xs) = omega arith in
      rw (all.0, leb_within (suc last) n all.1)
      (numbers_after n (p + 2) xs ys all.2 ∙ ap (λ (i : ℕ). check_numbers F (last_of n xs) i ys) q)

  pub numbers_exactly : (last p : ℕ) (ns : List ℕ) → (check_numbers F last p ns ≡ ok tt) ↔ Listed F last ns
  unfolding check_numbers
  numbers_exactly last p ns =
      ((λ h. subst (Then (λ _. Listed F last ns)) h (check_numbers_then F last p ns)), λ all. rw append-nil at (numbers_after last p ns [] all))

  pub number_place : (last p : ℕ) (xs : List ℕ) (n : ℕ) (ys : List ℕ) → Listed F last xs → (is_live n F ≡ false) ⊎ (n ≤ last_of last xs)
      → check_numbers F last p (xs ++ (n ∷ ys)) ≡ bad NumberNotLive (p + 2 * length xs)
  unfolding check_numbers need ◌>>◌
  number_place last p xs n ys all out = numbers_after last p xs (n ∷ ys) all ∙ rw (wrong out)
    where
      wrong : (is_live n F ≡ false) ⊎ (n ≤ last_of last xs) → (is_live n F && ltb (last_of last xs) n) ≡ false
      wrong (inl e) = rw e
      wrong (inr h) = and_false (is_live n F) (ltb (last_of last xs) n) (leb_beyond (suc (last_of last xs)) n (omega arith))

pub live_exactly : (n : ℕ) (F : Formula) → (is_live n F ≡ true) ↔ ((D : Clause) × Live F n D)
unfolding is_live
live_exactly n [] = ((λ e. absurd (true≢false (sym e))), λ r. elim r.1 [ ])
live_exactly n (E ∷ F) = ((λ e. there (live_exactly n F) (or_yes (eqb n E.0) (is_live n F) e)), back (live_exactly n F))
  where
    there : ((is_live n F ≡ true) ↔ ((D : Clause) × Live F n D)) → (eqb n E.0 ≡ true) ⊎ (is_live n F ≡ true) → (D : Clause) × Live (E ∷ F) n D
    there below (inl e) = (E.1, Memᴰ.head (ap (λ (k : ℕ). (k, E.1)) (eqb_yes n E.0 e)))
    there below (inr e) = let r = below.0 e in (r.0, Memᴰ.tail r.1)

    or_right : (a b : Bool) → b ≡ true → (a || b) ≡ true
    or_right true b e = refl
    or_right false b e = e

    back : ((is_live n F ≡ true) ↔ ((D : Clause) × Live F n D)) → (D : Clause) × Live (E ∷ F) n D → (eqb n E.0 || is_live n F) ≡ true
    back below (D, Memᴰ.head p) = rw (eqb_same n E.0 (ap (λ (x : ℕ × Clause). x.0) p))
    back below (D, Memᴰ.tail m) = or_right (eqb n E.0) (is_live n F) (below.1 (D, m))

-- The formula. What its clauses are refused for: never 4; and 7 at the file's length only.
abbrev OfClauses : File → Reason → ℕ → Type 0
OfClauses f r p = (number_of r ≢ 4) × (number_of r ≡ 7 → p ≡ length f)

reads_clause : (f : File) (vars p : ℕ) (C : Clause) → Reads (λ _. Unit {0}) (OfClauses f) (check_clause FormulaCode FormulaTwice vars p C)
unfolding check_clause
reads_clause f vars p C =
    reads_seq Q _ _ _ _ (reads_each Q FormulaCode (λ q. (omega arith, λ e. absurd (omega arith))) (between 2 (2 * vars + 1)) 2 p C) λ _ _.
    reads_no_two Q FormulaTwice (λ q. (omega arith, λ e. absurd (omega arith))) [] 2 p (map (λ l. l / 2) C)
  where
    Q : Reason → ℕ → Type 0
    Q = OfClauses f

reads_clauses : (f : File) (vars m n at : ℕ) → at ≤ length f
    → Reads (λ (x : Formula × ℕ). x.1 ≤ length f) (OfClauses f) (read_clauses f vars m n at)
unfolding read_clauses past
reads_clauses f vars zero n at h = h
reads_clauses f vars (suc m) n at h =
    reads_seq Q _ _ _ _ (reads_need Q (ltb at (length f)) FormulaEnd at (λ e. (omega arith, λ _. let k = leb_no (suc at) (length f) e in omega arith))) λ _ _.
    reads_bind Q _ _ _ _ (reads_field Q FormulaField 0x02 even f at (omega arith, λ e. absurd (omega arith))) λ e w.
    reads_seq Q _ _ _ _ (reads_clause f vars e.start (codes (payload f e))) λ _ _.
    reads_bind Q _ _ _ _ (reads_clauses f vars m (suc n) (past e) w.ends) λ x k. k
  where
    Q : Reason → ℕ → Type 0
    Q = OfClauses f

-- "clauses end before m": 7, exactly where the file ends at the place of a clause
pub end_exactly : (f : File) (vars m n at : ℕ) → at ≤ length f → (read_clauses f vars (suc m) n at ≡ bad FormulaEnd at) ↔ (at ≡ length f)
unfolding read_clauses need ◌>>◌
end_exactly f vars m n at h = (
  (λ e. (subst (Reads (λ (x : Formula × ℕ). x.1 ≤ length f) (OfClauses f)) e (reads_clauses f vars (suc m) n at h)).1 refl),
  λ e. let b = leb_beyond (suc at) (length f) (omega arith) in rw b,
)

-- "for each clause 7 (bytes at an end), 3, 5, 6 ..": where the file goes on, its field, then its codes (`Order.clause_first`), then the rest
pub clauses_none : (f : File) (vars n at : ℕ) → read_clauses f vars zero n at ≡ ok ([], at)
unfolding read_clauses
clauses_none f vars n at = refl

module _ (f : File) (vars m n at : ℕ) (here : at < length f) where
  pub clause_field : (r : Reason) (p : ℕ) → field FormulaField 0x02 even f at ≡ bad r p → read_clauses f vars (suc m) n at ≡ bad r p
  unfolding read_clauses need ◌>>=◌ ◌>>◌
  clause_field r p a = rw (leb_within (suc at) (length f) here, need, ◌>>◌, a)

  module _ (e : Extent) (a : field FormulaField 0x02 even f at ≡ ok e)
      (b : check_clause FormulaCode FormulaTwice vars e.start (codes (payload f e)) ≡ ok tt) where
    pub clause_read : (F : Formula) (later : ℕ) → read_clauses f vars m (suc n) (past e) ≡ ok (F, later)
        → read_clauses f vars (suc m) n at ≡ ok ((n, codes (payload f e)) ∷ F, later)
    unfolding read_clauses need ◌>>=◌ ◌>>◌
    clause_read F later c = rw (leb_within (suc at) (length f) here, need, ◌>>◌, a, ◌>>=◌, b, c)

    pub clause_later : (r : Reason) (p : ℕ) → read_clauses f vars m (suc n) (past e) ≡ bad r p → read_clauses f vars (suc m) n at ≡ bad r p
    unfolding read_clauses need ◌>>=◌ ◌>>◌
    clause_later r p c = rw (leb_within (suc at) (length f) here, need, ◌>>◌, a, ◌>>=◌, b, c)

pub over_limit : (v m high most : ℕ) → ((leb v high && leb m most) ≡ false) ↔ ((high < v) ⊎ (most < m))
over_limit v m high most = ((λ e. there (leb v high) refl (leb m most) refl e), back)
  where
    there : (a : Bool) → leb v high ≡ a → (b : Bool) → leb m most ≡ b → (a && b) ≡ false → (high < v) ⊎ (most < m)
    there false p b q e = inl (leb_no v high p)
    there true p false q e = inr (leb_no m most q)
    there true p true q e = absurd (true≢false e)

    back : (high < v) ⊎ (most < m) → (leb v high && leb m most) ≡ false
    back (inl h) = rw (leb_beyond v high h)
    back (inr h) = and_false (leb v high) (leb m most) (leb_beyond m most h)

abbrev pub OfLimits : File → Reason → ℕ → Type 0
OfLimits f r p = number_of r ≡ 4 → (4095 < two f 3) ⊎ (16383 < two f 5)

pub reads_formula : (f : File) → Reads (λ _. Unit {0}) (OfLimits f) (read_formula f)
unfolding read_formula past
reads_formula f =
    reads_bind Q _ _ _ _ (reads_field Q FormulaField 0x01 four f 0 (λ z. absurd (omega arith))) λ e w.
    reads_seq Q _ _ _ _ (reads_need Q (leb (two f 3) 4095 && leb (two f 5) 16383) OverLimit 0 (λ t _. (over_limit (two f 3) (two f 5) 4095 16383).0 t)) λ _ _.
    reads_bind Q _ _ _ _ (of_clauses (read_clauses f (two f 3) (two f 5) 1 (past e)) (reads_clauses f (two f 3) (two f 5) 1 (past e) w.ends)) λ F _.
    reads_seq Q _ _ _ _ (reads_need Q (leb (length f) F.1) FormulaEnd F.1 (λ _ z. absurd (omega arith))) λ _ _. tt
  where
    Q : Reason → ℕ → Type 0
    Q = OfLimits f

    of_clauses : (x : Read (Formula × ℕ)) → Reads (λ (y : Formula × ℕ). y.1 ≤ length f) (OfClauses f) x → Reads (λ _. Unit {0}) Q x
    of_clauses (ok x) k = tt
    of_clauses (bad r p) k = λ z. absurd (k.0 z)

-- A HEAD that is read: V stands at 3, m at 5, and the clauses from 7 on.
module _ (f : File) (e : Extent) (head : field FormulaField 0x01 four f 0 ≡ ok e) where
  head_past : (7 ≤ length f) × (past e ≡ 7)
  unfolding past four
  head_past =
      let w = (field_exactly FormulaField 0x01 four f 0 e).0 head in
      let n = eqb_yes e.size 4 w.fits in
      (omega (arith, w.ends, w.starts), omega (arith, w.starts))

  -- "bytes follow clause m": 7 at the first such byte; a file that ends there is read
  module _ (low : two f 3 ≤ 4095) (few : two f 5 ≤ 16383) (F : Formula) (at : ℕ) (clauses : read_clauses f (two f 3) (two f 5) 1 7 ≡ ok (F, at)) where
    pub bytes_follow : at < length f → read_formula f ≡ bad FormulaEnd at
    unfolding read_formula need ◌>>=◌ ◌>>◌
    bytes_follow h = rw (head, ◌>>=◌, leb_within (two f 3) 4095 low, leb_within (two f 5) 16383 few, head_past.1, clauses, leb_beyond (length f) at h)

    pub formula_whole : at ≡ length f → read_formula f ≡ ok (two f 3, F, suc (two f 5))
    unfolding read_formula need ◌>>=◌ ◌>>◌
    formula_whole h = rw (head, ◌>>=◌, leb_within (two f 3) 4095 low, leb_within (two f 5) 16383 few, head_past.1, clauses, leb_within (length f) at (omega arith))

-- a field that the step does not have
abbrev none_at : ℕ → Extent
none_at at = record { start = at; size = 0 }

-- "8 over all its fields": the step's own field, then a WITNESS after that of SR and WSR, then a MODULO after the WITNESS of WSR; what is
-- missing is refused where it should stand (`Order.field_place`).
module _ (f : File) (at : ℕ) where
  pub tag_first : (get_or f at 0 < 0x11) ⊎ (0x14 < get_or f at 0) → read_fields f at ≡ bad ProofField at
  unfolding read_fields need ◌>>◌
  tag_first h = rw (between_outside 0x11 0x14 (get_or f at 0) h)

  pub own_field : (r : Reason) (p : ℕ) → 0x11 ≤ get_or f at 0 → get_or f at 0 ≤ 0x14 → field ProofField (get_or f at 0) even f at ≡ bad r p
      → read_fields f at ≡ bad r p
  unfolding read_fields need ◌>>=◌ ◌>>◌
  own_field r p low high a = rw (between_within 0x11 0x14 (get_or f at 0) low high, need, ◌>>◌, a)

  module _ (r : Reason) (p : ℕ) (c : Extent) where
    pub sr_witness : get_or f at 0 ≡ 0x12 → field ProofField 0x12 even f at ≡ ok c → field ProofField 0x21 fours f (past c) ≡ bad r p
        → read_fields f at ≡ bad r p
    unfolding read_fields field_if between need ◌>>=◌ ◌>>◌
    sr_witness t a b = rw (t, a, ◌>>=◌, b)

    pub wsr_witness : get_or f at 0 ≡ 0x13 → field ProofField 0x13 even f at ≡ ok c → field ProofField 0x21 fours f (past c) ≡ bad r p
        → read_fields f at ≡ bad r p
    unfolding read_fields field_if between need ◌>>=◌ ◌>>◌
    wsr_witness t a b = rw (t, a, ◌>>=◌, b)

    pub wsr_modulo : (w : Extent) → get_or f at 0 ≡ 0x13 → field ProofField 0x13 even f at ≡ ok c → field ProofField 0x21 fours f (past c) ≡ ok w
        → field ProofField 0x22 even f (past w) ≡ bad r p → read_fields f at ≡ bad r p
    unfolding read_fields field_if between need ◌>>=◌ ◌>>◌
    wsr_modulo w t a b d = rw (t, a, ◌>>=◌, b, d)

  -- and each kind is read where all of its fields are whole
  module _ (c : Extent) where
    pub rup_fields : get_or f at 0 ≡ 0x11 → field ProofField 0x11 even f at ≡ ok c
        → read_fields f at ≡ ok (record { clause = c; witness = none_at (past c); numbers = none_at (past (none_at (past c))); next = past (none_at (past (none_at (past c)))) })
    unfolding read_fields field_if between need ◌>>=◌ ◌>>◌
    rup_fields t a = rw (t, a, ◌>>=◌)

    pub delete_fields : get_or f at 0 ≡ 0x14 → field ProofField 0x14 even f at ≡ ok c
        → read_fields f at ≡ ok (record { clause = none_at (past (none_at (past c))); witness = none_at (past (none_at (past c))); numbers = c; next = past c })
    unfolding read_fields field_if between need ◌>>=◌ ◌>>◌
    delete_fields t a = rw (t, a, ◌>>=◌)

    pub sr_fields : (w : Extent) → get_or f at 0 ≡ 0x12 → field ProofField 0x12 even f at ≡ ok c → field ProofField 0x21 fours f (past c) ≡ ok w
        → read_fields f at ≡ ok (record { clause = c; witness = w; numbers = none_at (past w); next = past (none_at (past w)) })
    unfolding read_fields field_if between need ◌>>=◌ ◌>>◌
    sr_fields w t a b = rw (t, a, ◌>>=◌, b)

    pub wsr_fields : (w n : Extent) → get_or f at 0 ≡ 0x13 → field ProofField 0x13 even f at ≡ ok c → field ProofField 0x21 fours f (past c) ≡ ok w
        → field ProofField 0x22 even f (past w) ≡ ok n → read_fields f at ≡ ok (record { clause = c; witness = w; numbers = n; next = past n })
    unfolding read_fields field_if between need ◌>>=◌ ◌>>◌
    wsr_fields w n t a b d = rw (t, a, ◌>>=◌, b, d)

-- the first code of a new clause stands three bytes past the step's tag
pub new_starts : (f : File) (at : ℕ) → Then (λ (x : Fields). get_or f at 0 ≢ 0x14 → x.clause.start ≡ at + 3) (read_fields f at)
unfolding read_fields
new_starts f at =
    then_seq _ _ _ _ (anything (need (between 0x11 0x14 (get_or f at 0)) ProofField at)) λ _ _.
    then_bind _ _ _ _ (reads_field (λ q p. Unit {0}) ProofField (get_or f at 0) even f at tt) λ c h.
    then_bind _ _ _ _ (anything (field_if (between 0x12 0x13 (get_or f at 0)) 0x21 fours f (past c))) λ w _.
    then_bind _ _ _ _ (anything (field_if (eqb (get_or f at 0) 0x13) 0x22 even f (past w))) λ n _.
    go c w n h.starts (eqb (get_or f at 0) 0x14) refl
  where
    go : (c w n : Extent) → c.start ≡ at + 3 → (b : Bool) → eqb (get_or f at 0) 0x14 ≡ b → get_or f at 0 ≢ 0x14
        → (elim b as (λ _. Fields) [
          | true ↦ record { clause = n; witness = n; numbers = c; next = past c }
          | false ↦ record { clause = c; witness = w; numbers = n; next = past n }
        ]).clause.start ≡ at + 3
    go c w n h true e t = absurd (t (eqb_yes (get_or f at 0) 0x14 e))
    go c w n h false e t = h

-- "0x11 RUP step, 0x12 SR step, 0x13 WSR step, 0x14 DELETE step"
pub steps_by_tag : (C : Clause) (s : Witness) (ns : List ℕ) → (to_step 0x11 C s ns ≡ rup_step C) × (to_step 0x12 C s ns ≡ sr_step C s)
    × (to_step 0x13 C s ns ≡ wsr_step C s ns) × (to_step 0x14 C s ns ≡ delete_step ns)
unfolding to_step
steps_by_tag C s ns = (refl, refl, refl, refl)

-- 2 is said of a file too long only; `Reasons.not_reason_1` says the same of 1
pub long_only : {words bytes : ℕ} {formula proof : File} {v : Verdict} → Answer words bytes formula proof v → (verdict_numbers v).reason ≡ 2
    → (1048576 < length formula) ⊎ (1048576 < length proof)
long_only (work_short h) e = absurd (omega arith)
long_only (file_long w b h) e = h
long_only {formula} {proof} (formula_bad {r} {p} w q) e = side (formula_reasons formula r p q)
  where
    side : OfFormula r → (1048576 < length formula) ⊎ (1048576 < length proof)
    side h = absurd (omega arith)
long_only {formula} {proof} {v} (proof_judged w q s) e = side v (steps_reasons s) e
  where
    side : (x : Verdict) → OfSteps x → (verdict_numbers x).reason ≡ 2 → (1048576 < length formula) ⊎ (1048576 < length proof)
    side (Refuted n) h z = absurd (omega arith)
    side (Held n) h z = absurd (omega arith)
    side (Refused f) h z = absurd (omega arith)
