-- What the reading of the files has seen: a formula that was read is kept well, and a step that was read is fit to be judged.
-- Assumes nothing.
use Prim.Native.Nat.{ℕ, zero, suc, ◌+◌, ◌*◌, ◌/◌, ◌≤◌, ◌<◌}
use mathlib.Core.Path.{◌≡◌, refl, sym, ap, ◌∙◌, subst}
use mathlib.Core.Logic.{◌≢◌}
use mathlib.Core.Bool.{Bool, true, false, ◌&&◌, ◌||◌}
use mathlib.Core.List.Memᴰ
use mathlib.Core.List.{List, [], ◌∷◌, map}
use native.Mathlib.Omega.{arith}
use lib.Dec.{leb, ltb, eqb}
use lib.ListN.{length, get_or}
use Rattle.paper.specs.declared.Reason.{Reason}
use Rattle.paper.specs.declared.Reason.TheVariants.{FormulaField, OverLimit, FormulaCode, FormulaTwice, FormulaEnd, ProofField, ProofCode, ProofTwice, NumberNotLive, NumbersUsedUp}
use Rattle.paper.specs.declared.Extent.{Extent}
use Rattle.paper.specs.declared.Fields.{Fields}
use Rattle.paper.specs.Atoms.{◌∈◌, Clause, Formula, Live, Witness}
use Rattle.paper.specs.Files.{File, Read, ok, bad, ◌>>=◌, ◌>>◌, need, two, payload, past, field, four, even, fours, codes, mappings, Step, rup_step, sr_step, wsr_step, delete_step}
use Rattle.paper.specs.Conditions.{is_in}
use Rattle.paper.specs.Refusals.{each, no_two, between, check_clause, read_clauses, read_formula, field_if, read_fields, check_mappings, is_live, check_numbers, to_step, read_step}
use Rattle.paper.proofs.Lists.{eqb_yes, eqb_other, and_yes, leb_yes, is_in_no}
use Rattle.paper.specs.Valid.{Distinct, Codes, Apart, Valid, Rising, Kept, Mapping, Listed, New, Seen}

-- what holds of what is read, and of the reason and place where it is not
abbrev pub Reads : {A : Type 0} → (A → Type 0) → (Reason → ℕ → Type 0) → Read A → Type 0
Reads P Q (ok a) = P a
Reads P Q (bad r p) = Q r p

module _ (Q : Reason → ℕ → Type 0) where
  pub reads_bind : {A B : Type 0} (P : A → Type 0) (P' : B → Type 0) (m : Read A) (f : A → Read B) → Reads P Q m → ((a : A) → P a → Reads P' Q (f a))
      → Reads P' Q (m >>= f)
  unfolding ◌>>=◌
  reads_bind P P' (ok a) f h k = k a h
  reads_bind P P' (bad r p) f h k = h

  pub reads_seq : {A B : Type 0} (P : A → Type 0) (P' : B → Type 0) (m : Read A) (n : Read B) → Reads P Q m → ((a : A) → P a → Reads P' Q n)
      → Reads P' Q (m >> n)
  unfolding ◌>>◌
  reads_seq P P' (ok a) n h k = k a h
  reads_seq P P' (bad r p) n h k = h

  pub reads_need : (b : Bool) (r : Reason) (p : ℕ) → (b ≡ false → Q r p) → Reads (λ _. b ≡ true) Q (need b r p)
  unfolding need
  reads_need true r p h = refl
  reads_need false r p h = h refl

-- what holds of what is read, where it is read
abbrev pub Then : {A : Type 0} → (A → Type 0) → Read A → Type 0
Then P m = Reads P (λ r p. Unit {0}) m

pub then_bind : {A B : Type 0} (P : A → Type 0) (Q : B → Type 0) (m : Read A) (f : A → Read B) → Then P m → ((a : A) → P a → Then Q (f a)) → Then Q (m >>= f)
then_bind = reads_bind (λ r p. Unit {0})

pub then_seq : {A B : Type 0} (P : A → Type 0) (Q : B → Type 0) (m : Read A) (n : Read B) → Then P m → ((a : A) → P a → Then Q n) → Then Q (m >> n)
then_seq = reads_seq (λ r p. Unit {0})

pub anything : {A : Type 0} (m : Read A) → Then (λ _. Unit {0}) m
anything (ok a) = tt
anything (bad r p) = tt

pub then_map : {A : Type 0} (P Q : A → Type 0) (m : Read A) → ((a : A) → P a → Q a) → Then P m → Then Q m
then_map P Q (ok a) f p = f a p
then_map P Q (bad r q) f p = tt

pub need_then : (b : Bool) (r : Reason) (p : ℕ) → Then (λ _. b ≡ true) (need b r p)
need_then b r p = reads_need (λ q at. Unit {0}) b r p (λ e. tt)

-- a list that is refused is refused for the reason asked
module _ (Q : Reason → ℕ → Type 0) (r : Reason) (q : (p : ℕ) → Q r p) where
  pub reads_each : (good : ℕ → Bool) (u p : ℕ) (C : List ℕ) → Reads (λ _. Unit {0}) Q (each r good u p C)
  unfolding each
  reads_each good u p [] = tt
  reads_each good u p (x ∷ C) = go (reads_each good u (p + u) C) (good x)
    where
      go : Reads (λ _. Unit {0}) Q (each r good u (p + u) C) → (b : Bool)
          → Reads {A = Unit {0}} (λ _. Unit {0}) Q (elim b [ true ↦ each r good u (p + u) C | false ↦ bad r p ])
      go more true = more
      go more false = q p

  pub reads_no_two : (seen : List ℕ) (u p : ℕ) (C : List ℕ) → Reads (λ _. Unit {0}) Q (no_two r seen u p C)
  unfolding no_two
  reads_no_two seen u p [] = tt
  reads_no_two seen u p (x ∷ C) = go (reads_no_two (x ∷ seen) u (p + u) C) (is_in x seen)
    where
      go : Reads (λ _. Unit {0}) Q (no_two r (x ∷ seen) u (p + u) C) → (b : Bool)
          → Reads {A = Unit {0}} (λ _. Unit {0}) Q (elim b [ true ↦ bad r p | false ↦ no_two r (x ∷ seen) u (p + u) C ])
      go more true = q p
      go more false = more

pub each_then : (r : Reason) (good : ℕ → Bool) (u p : ℕ) (C : List ℕ) → Then (λ _. (l : ℕ) → l ∈ C → good l ≡ true) (each r good u p C)
unfolding each
each_then r good u p [] = λ l m. elim m [ ]
each_then r good u p (x ∷ C) = go (good x) refl (each r good u (p + u) C) (each_then r good u (p + u) C)
  where
    all : good x ≡ true → ((l : ℕ) → l ∈ C → good l ≡ true) → (l : ℕ) → l ∈ x ∷ C → good l ≡ true
    all q f l (Memᴰ.head h) = ap good h ∙ q
    all q f l (Memᴰ.tail m) = f l m

    go : (b : Bool) → good x ≡ b → (m : Read (Unit {0})) → Then (λ _. (l : ℕ) → l ∈ C → good l ≡ true) m
        → Then {A = Unit {0}} (λ _. (l : ℕ) → l ∈ x ∷ C → good l ≡ true) (elim b [ true ↦ m | false ↦ bad r p ])
    go true q m f = then_map _ _ m (λ _ k. all q k) f
    go false q m f = tt

abbrev Fresh : List ℕ → List ℕ → Type 0
Fresh seen C = Distinct C × ((l : ℕ) → l ∈ C → ¬ (l ∈ seen))

no_two_fresh : (r : Reason) (seen : List ℕ) (u p : ℕ) (C : List ℕ) → Then (λ _. Fresh seen C) (no_two r seen u p C)
unfolding no_two
no_two_fresh r seen u p [] = (tt, λ l m. elim m [ ])
no_two_fresh r seen u p (x ∷ C) = go (is_in x seen) refl (no_two r (x ∷ seen) u (p + u) C) (no_two_fresh r (x ∷ seen) u (p + u) C)
  where
    out : is_in x seen ≡ false → Fresh (x ∷ seen) C → (l : ℕ) → l ∈ x ∷ C → ¬ (l ∈ seen)
    out q f l (Memᴰ.head h) k = is_in_no x seen q (subst (λ (y : ℕ). y ∈ seen) h k)
    out q f l (Memᴰ.tail m) k = f.1 l m (Memᴰ.tail k)

    both : is_in x seen ≡ false → Fresh (x ∷ seen) C → Fresh seen (x ∷ C)
    both q f = (((λ m. f.1 x m (Memᴰ.head refl)), f.0), out q f)

    go : (b : Bool) → is_in x seen ≡ b → (m : Read (Unit {0})) → Then (λ _. Fresh (x ∷ seen) C) m
        → Then {A = Unit {0}} (λ _. Fresh seen (x ∷ C)) (elim b [ true ↦ bad r p | false ↦ m ])
    go true q m f = tt
    go false q m f = then_map _ _ m (λ _ k. both q k) f

pub no_two_then : (r : Reason) (u p : ℕ) (C : List ℕ) → Then (λ _. Distinct C) (no_two r [] u p C)
no_two_then r u p C = then_map _ _ (no_two r [] u p C) (λ _ f. f.0) (no_two_fresh r [] u p C)

pub between_yes : (low high x : ℕ) → between low high x ≡ true → (low ≤ x) × (x ≤ high)
unfolding between
between_yes low high x e = let r = and_yes (leb low x) (leb x high) e in (leb_yes low x r.0, leb_yes x high r.1)

pub check_clause_then : (range twice : Reason) (vars p : ℕ) (C : Clause) → Then (λ _. Codes vars C × Apart C) (check_clause range twice vars p C)
unfolding check_clause
check_clause_then range twice vars p C =
    then_seq _ _ _ _ (each_then range (between 2 (2 * vars + 1)) 2 p C) λ _ a.
    then_map _ _ (no_two twice [] 2 p (map (λ l. l / 2) C)) (λ _ b. ((λ l m. between_yes 2 (2 * vars + 1) l (a l m)), b))
    (no_two_then twice 2 p (map (λ l. l / 2) C))

-- a field that is read lies in its file, past its tag
pub record Lies (f : File) (at : ℕ) (e : Extent) : Type 0 where
  pub starts : at + 3 ≤ e.start
  pub ends : e.start + e.size ≤ length f

pub field_lies : (r : Reason) (tag : ℕ) (allowed : ℕ → Bool) (f : File) (at : ℕ) → Then (Lies f at) (field r tag allowed f at)
unfolding field
field_lies r tag allowed f at =
    then_seq _ _ _ _ (anything (need (leb (at + 3) (length f)) r at)) λ _ _.
    then_seq _ _ _ _ (anything (need (eqb (get_or f at 0) tag) r at)) λ _ _.
    then_seq _ _ _ _ (anything (need (allowed (two f (at + 1))) r at)) λ _ _.
    then_seq _ _ _ _ (need_then (leb (at + 3 + two f (at + 1)) (length f)) r at) λ _ h.
    record { starts = omega arith; ends = leb_yes _ _ h }

-- the formula's clauses: valid, under rising numbers from n on, m of them
pub record Numbered (vars n m : ℕ) (F : Formula) : Type 0 where
  pub valid : Valid vars F
  pub rising : Rising F
  pub from : (k : ℕ) (D : Clause) → Live F k D → (n ≤ k) × (k < n + m)

numbered_first : (vars n m : ℕ) (C : Clause) (F : Formula) → Codes vars C × Apart C → Numbered vars (suc n) m F → Numbered vars n (suc m) ((n, C) ∷ F)
numbered_first vars n m C F c s =
    record {
      valid = record { codes = codes'; apart = apart' };
      rising = ((λ k E q. (s.from k E q).0), s.rising);
      from = from';
    }
  where
    codes' : (k : ℕ) (D : Clause) → Live ((n, C) ∷ F) k D → Codes vars D
    codes' k D (Memᴰ.head e) = subst (λ (x : ℕ × Clause). Codes vars x.1) (sym e) c.0
    codes' k D (Memᴰ.tail q) = s.valid.codes k D q

    apart' : (k : ℕ) (D : Clause) → Live ((n, C) ∷ F) k D → Apart D
    apart' k D (Memᴰ.head e) = subst (λ (x : ℕ × Clause). Apart x.1) (sym e) c.1
    apart' k D (Memᴰ.tail q) = s.valid.apart k D q

    from' : (k : ℕ) (D : Clause) → Live ((n, C) ∷ F) k D → (n ≤ k) × (k < n + suc m)
    from' k D (Memᴰ.head e) = let h = ap (λ (x : ℕ × Clause). x.0) e in (omega arith, omega arith)
    from' k D (Memᴰ.tail q) = let h = s.from k D q in (omega arith, omega arith)

pub read_clauses_numbered : (f : File) (vars m n at : ℕ) → Then (λ x. Numbered vars n m x.0) (read_clauses f vars m n at)
unfolding read_clauses
read_clauses_numbered f vars zero n at =
    record { valid = record { codes = λ k D q. elim q [ ]; apart = λ k D q. elim q [ ] }; rising = tt; from = λ k D q. elim q [ ] }
read_clauses_numbered f vars (suc m) n at =
    then_seq _ _ _ _ (anything (need (ltb at (length f)) FormulaEnd at)) λ _ _.
    then_bind _ _ _ _ (anything (field FormulaField 0x02 even f at)) λ e _.
    then_seq _ _ _ _ (check_clause_then FormulaCode FormulaTwice vars e.start (codes (payload f e))) λ _ c.
    then_bind _ _ _ _ (read_clauses_numbered f vars m (suc n) (past e)) λ more s.
    numbered_first vars n m (codes (payload f e)) more.0 c s

-- a formula that was read is within its limits and kept well
pub record FormulaWasRead (vars : ℕ) (F : Formula) (next : ℕ) : Type 0 where
  pub variables : vars ≤ 4095
  pub clauses : next ≤ 16384
  pub first : 1 ≤ next
  pub kept : Kept vars next F

pub read_formula_kept : (f : File) → Then (λ (x : ℕ × Formula × ℕ). FormulaWasRead x.0 x.1 x.2) (read_formula f)
unfolding read_formula
read_formula_kept f =
    then_bind _ _ _ _ (anything (field FormulaField 0x01 four f 0)) λ e _.
    then_seq _ _ _ _ (need_then (leb (two f 3) 4095 && leb (two f 5) 16383) OverLimit 0) λ _ h.
    then_bind _ _ _ _ (read_clauses_numbered f (two f 3) (two f 5) 1 (past e)) λ F s.
    then_seq _ _ _ _ (anything (need (leb (length f) F.1) FormulaEnd F.1)) λ _ _.
    let k = and_yes (leb (two f 3) 4095) (leb (two f 5) 16383) h in
    let m = leb_yes (two f 5) 16383 k.1 in
    record {
      variables = leb_yes (two f 3) 4095 k.0;
      clauses = omega arith;
      first = omega arith;
      kept = record { valid = s.valid; rising = s.rising; from = λ n D q. let b = s.from n D q in (omega arith, omega arith) };
    }

field_if_lies : (b : Bool) (tag : ℕ) (allowed : ℕ → Bool) (f : File) (at : ℕ) → at ≤ length f
    → Then (λ (e : Extent). (at ≤ past e) × (past e ≤ length f)) (field_if b tag allowed f at)
unfolding field_if past
field_if_lies true tag allowed f at h =
    then_map (Lies f at) _ (field ProofField tag allowed f at) (λ e l. (omega (arith, l.starts), l.ends)) (field_lies ProofField tag allowed f at)
field_if_lies false tag allowed f at h = (omega arith, omega arith)

-- the place past a step lies past its tag, in the proof
pub read_fields_past : (f : File) (at : ℕ) → Then (λ (x : Fields). (at < x.next) × (x.next ≤ length f)) (read_fields f at)
unfolding read_fields past
read_fields_past f at =
    then_seq _ _ _ _ (anything (need (between 0x11 0x14 (get_or f at 0)) ProofField at)) λ _ _.
    then_bind _ _ _ _ (field_lies ProofField (get_or f at 0) even f at) λ c h.
    then_bind _ _ _ _ (field_if_lies (between 0x12 0x13 (get_or f at 0)) 0x21 fours f (past c) h.ends) λ w k.
    then_bind _ _ _ _ (field_if_lies (eqb (get_or f at 0) 0x13) 0x22 even f (past w) k.1) λ n j.
    go c w n h k j (eqb (get_or f at 0) 0x14)
  where
    go : (c w n : Extent) → Lies f at c → (past c ≤ past w) × (past w ≤ length f) → (past w ≤ past n) × (past n ≤ length f) → (b : Bool)
        → ((at < (elim b as (λ _. Fields) [
          | true ↦ record { clause = n; witness = n; numbers = c; next = past c }
          | false ↦ record { clause = c; witness = w; numbers = n; next = past n }
        ]).next)
        × ((elim b as (λ _. Fields) [
          | true ↦ record { clause = n; witness = n; numbers = c; next = past c }
          | false ↦ record { clause = c; witness = w; numbers = n; next = past n }
        ]).next ≤ length f))
    go c w n h k j true = (omega (arith, h.starts), h.ends)
    go c w n h k j false = (omega (arith, h.starts), j.1)

abbrev pub Ranged : ℕ → Witness → Type 0
Ranged vars s = (v a : ℕ) → ◌∈◌ {A = ℕ × ℕ} (v, a) s → (1 ≤ v) × (v ≤ vars) × (a ≤ 2 * vars + 1)

pub check_mappings_then : (vars p : ℕ) (s : Witness) → Then (λ _. Ranged vars s) (check_mappings vars p s)
unfolding check_mappings
check_mappings_then vars p [] = λ v a m. elim m [ ]
check_mappings_then vars p (x ∷ s) =
    then_seq _ _ _ _ (need_then (between 1 vars x.0) ProofCode p) λ _ h.
    then_seq _ _ _ _ (need_then (leb x.1 (2 * vars + 1)) ProofCode (p + 2)) λ _ k.
    then_map _ _ (check_mappings vars (p + 4) s) (λ _ r. all h k r) (check_mappings_then vars (p + 4) s)
  where
    all : between 1 vars x.0 ≡ true → leb x.1 (2 * vars + 1) ≡ true → Ranged vars s → Ranged vars (x ∷ s)
    all h k r v a (Memᴰ.head e) =
        let b = between_yes 1 vars x.0 h in
        let c = leb_yes x.1 (2 * vars + 1) k in
        let v= = ap (λ (y : ℕ × ℕ). y.0) e in
        let a= = ap (λ (y : ℕ × ℕ). y.1) e in
        (omega arith, omega arith, omega arith)
    all h k r v a (Memᴰ.tail m) = r v a m

pub check_numbers_then : (F : Formula) (last p : ℕ) (ns : List ℕ) → Then (λ _. Listed F last ns) (check_numbers F last p ns)
unfolding check_numbers
check_numbers_then F last p [] = tt
check_numbers_then F last p (n ∷ ns) =
    then_seq _ _ _ _ (need_then (is_live n F && ltb last n) NumberNotLive p) λ _ h.
    let k = and_yes (is_live n F) (ltb last n) h in
    then_map _ _ (check_numbers F n (p + 2) ns) (λ _ r. (k.0, leb_yes _ _ k.1, r)) (check_numbers_then F n (p + 2) ns)

-- what was seen of the fields is seen of the step
to_step_seen : (vars : ℕ) (F : Formula) (next tag : ℕ) (C : Clause) (s : Witness) (ns : List ℕ) → Codes vars C × Apart C → Mapping vars s → Listed F 0 ns
    → (eqb tag 0x14 || ltb next 16384) ≡ true → Seen vars F next (to_step tag C s ns)
unfolding to_step
to_step_seen vars F next tag C s ns c w l h = go (eqb tag 0x11) refl (eqb tag 0x12) refl (eqb tag 0x13) refl
  where
    new : eqb tag 0x14 ≡ false → New vars next C
    new e = record { codes = c.0; apart = c.1; number = leb_yes _ _ (subst (λ (b : Bool). (b || ltb next 16384) ≡ true) e h) }

    go : (x : Bool) → eqb tag 0x11 ≡ x → (y : Bool) → eqb tag 0x12 ≡ y → (z : Bool) → eqb tag 0x13 ≡ z
        → Seen vars F next (elim x [
          | true ↦ rup_step C
          | false ↦ elim y [ true ↦ sr_step C s | false ↦ elim z [ true ↦ wsr_step C s ns | false ↦ delete_step ns ] ]
        ])
    go true p y q z r = new (eqb_other tag 0x14 (λ e. ne (sym (eqb_yes tag 0x11 p) ∙ e)))
      where
        ne : ◌≢◌ {A = ℕ} 0x11 0x14
        ne = omega arith
    go false p true q z r = (new (eqb_other tag 0x14 (λ e. ne (sym (eqb_yes tag 0x12 q) ∙ e))), w)
      where
        ne : ◌≢◌ {A = ℕ} 0x12 0x14
        ne = omega arith
    go false p false q true r = (new (eqb_other tag 0x14 (λ e. ne (sym (eqb_yes tag 0x13 r) ∙ e))), w, l)
      where
        ne : ◌≢◌ {A = ℕ} 0x13 0x14
        ne = omega arith
    go false p false q false r = l

-- a step that was read is fit to be judged, and the place moves on
pub record StepWasRead (f : File) (vars : ℕ) (F : Formula) (next at : ℕ) (t : Step) (later : ℕ) : Type 0 where
  pub seen : Seen vars F next t
  pub further : at < later
  pub inside : later ≤ length f

pub read_step_seen : (f : File) (vars : ℕ) (F : Formula) (next at : ℕ)
    → Then (λ (x : Step × ℕ). StepWasRead f vars F next at x.0 x.1) (read_step f vars F next at)
unfolding read_step
read_step_seen f vars F next at =
    then_bind _ _ _ _ (read_fields_past f at) λ x h.
    then_seq _ _ _ _ (check_clause_then ProofCode ProofTwice vars x.clause.start (codes (payload f x.clause))) λ _ c.
    then_seq _ _ _ _ (check_mappings_then vars x.witness.start (mappings (codes (payload f x.witness)))) λ _ r.
    then_seq _ _ _ _ (no_two_then ProofTwice 4 x.witness.start (map (λ (m : ℕ × ℕ). m.0) (mappings (codes (payload f x.witness))))) λ _ o.
    then_seq _ _ _ _ (check_numbers_then F 0 x.numbers.start (codes (payload f x.numbers))) λ _ l.
    then_seq _ _ _ _ (need_then (eqb (get_or f at 0) 0x14 || ltb next 16384) NumbersUsedUp at) λ _ n.
    record {
      seen = to_step_seen vars F next (get_or f at 0) _ _ _ c
          (record { variables = λ v a m. ((r v a m).0, (r v a m).1); atoms = λ v a m. (r v a m).2; once = o }) l n;
      further = h.0;
      inside = h.1;
    }
