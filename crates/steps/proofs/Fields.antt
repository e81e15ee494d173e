-- The fields of a step: what the code's answer says of the paper's reading, and where they lie.
-- Assumes nothing.
use Prim.Native.Nat.{ℕ, ◌+◌, ◌%◌, ◌≤◌, ◌<◌}
use mathlib.Core.Path.{◌≡◌, refl, sym, ap, ◌∙◌, ap₂, subst}
use mathlib.Core.Logic.{◌≢◌}
use mathlib.Core.Bool.{Bool, true, false, true≢false}
use native.Mathlib.Omega.{arith}
use lib.Dec.{eqb}
use lib.ListN.{length, get_or}
use native.Mathlib.Decide.{ℕ_discrete}
use Rattle.std.specs.Prelude.{Option, Some, None, Result, Ok, Err, MatchResult}
use Rattle.std.specs.Option.{ok_or}
use Rattle.std.specs.Result.{result_or, result_ok}
use Rattle.std.proofs.lemmas.Result.{MatchResult-at_ok, MatchResult-at_err}
use Rattle.paper.specs.declared.Reason.{Reason}
use Rattle.paper.specs.declared.Reason.TheVariants.{ProofField}
use Rattle.paper.specs.declared.Extent.{Extent}
use Rattle.paper.specs.declared.Fields.{Fields}
use Rattle.paper.specs.Files.{File, Read, ok, bad, ◌>>=◌, ◌>>◌, need, past, field, even, fours}
use Rattle.paper.specs.Refusals.{between, field_if, read_fields}
use Rattle.paper.proofs.Lists.{eqb_yes, eqb_no, eqb_same, eqb_other}
use Rattle.paper.proofs.Reading.{Then, then_bind, then_seq, need_then, between_yes}
use Rattle.field.specs.declared.Found.{Found}
use Rattle.field.specs.declared.Fault.{Fault}
use Rattle.field.specs.Field.{found_of}
use Rattle.field.proofs.Laws.{found_in, found_next, not_found, Stands, stands, judged_right}
use Rattle.steps.specs.declared.Kind.{Kind}
use Rattle.steps.specs.declared.Kind.TheVariants.{Rup, Sr, Wsr, Delete}
use Rattle.steps.specs.declared.UnknownTag.{UnknownTag}
use Rattle.steps.specs.Steps.{kind_of, tag_of, missing, IsRead}

-- 1. A field that the step's tag may ask for.
module _ (b : Bool) (tag : ℕ) (allowed : ℕ → Bool) (f : File) (at : ℕ) where
  -- the fault that is let go is the one that is given back
  same_fault : (o : Option Found) (m : Fault) → ok_or (result_ok (ok_or o m)) m ≡ ok_or o m
  same_fault None m = refl
  same_fault (Some d) m = refl

  pub asked : b ≡ true → (r : Result Found Fault) → r ≡ found_of (field ProofField tag allowed f at) → r ≡ found_of (field_if b tag allowed f at)
  unfolding field_if
  asked e r q = rw e q

  -- of that reading what was found, as an Option
  pub asked_value : b ≡ true → (r : Result Found Fault) → r ≡ found_of (field ProofField tag allowed f at) → (o : Option Found) → o ≡ result_ok r
      → ok_or o (missing at) ≡ found_of (field_if b tag allowed f at)
  asked_value e r q o h =
      let j = judged_right ProofField tag allowed f at in
      ap (λ (x : Option Found). ok_or x (missing at)) (h ∙ ap result_ok q) ∙ ap (λ (x : Result Found Fault). ok_or (result_ok x) (missing at)) (sym j) ∙ same_fault _ _ ∙ j
      ∙ asked e _ refl

  pub not_asked : b ≡ false → Ok (record { extent = record { start = at; size = 0 }; next = record { at = at } }) ≡ found_of (field_if b tag allowed f at)
  unfolding field_if found_of past
  not_asked e = let z : at ≡ at + 0 = omega arith in rw e (ap (λ (p : ℕ). Ok (record { extent = record { start = at; size = 0 }; next = record { at = p } })) z)

-- 2. Where the fields lie.
even_yes : (n : ℕ) → even n ≡ true → n % 2 ≡ 0
unfolding even
even_yes n e = eqb_yes (n % 2) 0 e

fours_yes : (n : ℕ) → fours n ≡ true → n % 4 ≡ 0
unfolding fours
fours_yes n e = eqb_yes (n % 4) 0 e

-- a field that the step's tag may ask for
pub record LiesIf (b : Bool) (allowed : ℕ → Bool) (f : File) (at : ℕ) (e : Extent) : Type 0 where
  pub starts : at ≤ e.start
  pub within : e.start + e.size ≤ length f
  pub length_allowed : allowed e.size ≡ true
  pub unasked : b ≡ false → e.size ≡ 0

lies_if : (b : Bool) (tag : ℕ) (allowed : ℕ → Bool) (f : File) (at : ℕ) (e : Extent) → allowed 0 ≡ true → at ≤ length f
    → field_if b tag allowed f at ≡ ok e → LiesIf b allowed f at e
unfolding field_if
lies_if true tag allowed f at e z h q =
    let s = stands ProofField tag allowed f at e q in
    record {
      starts = omega (arith, s.start);
      within = s.within;
      length_allowed = s.length_allowed;
      unasked = λ no. absurd (true≢false no);
    }
lies_if false tag allowed f at e z h q = rw (← x) (record { starts = omega arith; within = omega arith; length_allowed = z; unasked = λ _. refl })
  where
    x : ◌≡◌ {A = Extent} (record { start = at; size = 0 }) e
    x = cc

-- the fields of a step, when the paper's reading finds them: in the proof, of the lengths that are allowed, and none where the
-- step's tag does not ask for one. 0x11 RUP, 0x12 SR, 0x13 WSR, 0x14 DELETE.
pub record Lie (f : File) (at : ℕ) (x : Fields) : Type 0 where
  pub tag_from : 0x11 ≤ get_or f at 0
  pub tag_to : get_or f at 0 ≤ 0x14
  pub clause_within : x.clause.start + x.clause.size ≤ length f
  pub witness_within : x.witness.start + x.witness.size ≤ length f
  pub numbers_within : x.numbers.start + x.numbers.size ≤ length f
  pub clause_even : x.clause.size % 2 ≡ 0
  pub witness_fours : x.witness.size % 4 ≡ 0
  pub numbers_even : x.numbers.size % 2 ≡ 0
  pub further : at < x.next
  pub inside : x.next ≤ length f
  -- the new clause is the payload of the field whose tag is the step's
  pub new : get_or f at 0 ≢ 0x14 → field ProofField (get_or f at 0) even f at ≡ ok x.clause
  pub no_numbers : get_or f at 0 < 0x13 → x.numbers.size ≡ 0
  pub without_clause : get_or f at 0 ≡ 0x14 → x.clause.size ≡ 0
  pub without_witness : get_or f at 0 ≡ 0x14 → x.witness.size ≡ 0

-- 3. The paper's reading of a step's fields, by what stands at each place. c, w and n are the fields found one after the other.
module _ (f : File) (at : ℕ) where
  pub tag_refused : between 0x11 0x14 (get_or f at 0) ≡ false → read_fields f at ≡ bad ProofField at
  unfolding read_fields need ◌>>◌ ◌>>=◌
  tag_refused t = rw (t, read_fields)

  module _ (t : between 0x11 0x14 (get_or f at 0) ≡ true) where
    pub clause_refused : (r : Reason) (p : ℕ) → field ProofField (get_or f at 0) even f at ≡ bad r p → read_fields f at ≡ bad r p
    unfolding read_fields need ◌>>◌ ◌>>=◌
    clause_refused r p q = rw (t, q, read_fields)

    module _ (c : Extent) (hc : field ProofField (get_or f at 0) even f at ≡ ok c) where
      pub clause_lies : Stands (get_or f at 0) even f at c
      clause_lies = stands ProofField (get_or f at 0) even f at c hc

      pub witness_refused : (r : Reason) (p : ℕ) → field_if (between 0x12 0x13 (get_or f at 0)) 0x21 fours f (past c) ≡ bad r p → read_fields f at ≡ bad r p
      unfolding read_fields need ◌>>◌ ◌>>=◌
      witness_refused r p q = rw (t, hc, q, read_fields)

      module _ (w : Extent) (hw : field_if (between 0x12 0x13 (get_or f at 0)) 0x21 fours f (past c) ≡ ok w) where
        pub witness_lies : LiesIf (between 0x12 0x13 (get_or f at 0)) fours f (past c) w
        unfolding past fours
        witness_lies = lies_if (between 0x12 0x13 (get_or f at 0)) 0x21 fours f (past c) w refl clause_lies.within hw

        pub modulo_refused : (r : Reason) (p : ℕ) → field_if (eqb (get_or f at 0) 0x13) 0x22 even f (past w) ≡ bad r p → read_fields f at ≡ bad r p
        unfolding read_fields need ◌>>◌ ◌>>=◌
        modulo_refused r p q = rw (t, hc, hw, q, read_fields)

        module _ (n : Extent) (hn : field_if (eqb (get_or f at 0) 0x13) 0x22 even f (past w) ≡ ok n) where
          pub modulo_lies : LiesIf (eqb (get_or f at 0) 0x13) even f (past w) n
          unfolding past even
          modulo_lies = lies_if (eqb (get_or f at 0) 0x13) 0x22 even f (past w) n refl witness_lies.within hn

          pub delete_read : get_or f at 0 ≡ 0x14 → read_fields f at ≡ ok (record { clause = n; witness = n; numbers = c; next = past c })
          unfolding read_fields need ◌>>◌ ◌>>=◌
          delete_read e = rw (t, hc, hw, hn, eqb_same (get_or f at 0) 0x14 e, read_fields)

          pub clause_read : get_or f at 0 ≢ 0x14 → read_fields f at ≡ ok (record { clause = c; witness = w; numbers = n; next = past n })
          unfolding read_fields need ◌>>◌ ◌>>=◌
          clause_read ne = rw (t, hc, hw, hn, eqb_other (get_or f at 0) 0x14 ne, read_fields)

          delete_lies : get_or f at 0 ≡ 0x14 → Lie f at (record { clause = n; witness = n; numbers = c; next = past c })
          unfolding past
          delete_lies e =
              let r = between_yes 0x11 0x14 (get_or f at 0) t in
              let other : get_or f at 0 ≢ 0x13 = omega arith in
              let none : n.size ≡ 0 = modulo_lies.unasked (eqb_other (get_or f at 0) 0x13 other) in
              let s = clause_lies.start in
              record {
                tag_from = r.0;
                tag_to = r.1;
                clause_within = modulo_lies.within;
                witness_within = modulo_lies.within;
                numbers_within = clause_lies.within;
                clause_even = even_yes n.size modulo_lies.length_allowed;
                witness_fours = rw none;
                numbers_even = even_yes c.size clause_lies.length_allowed;
                further = omega arith;
                inside = clause_lies.within;
                new = λ ne. absurd (ne e);
                no_numbers = λ l. absurd (omega arith);
                without_clause = λ _. none;
                without_witness = λ _. none;
              }

          new_lies : get_or f at 0 ≢ 0x14 → Lie f at (record { clause = c; witness = w; numbers = n; next = past n })
          unfolding past
          new_lies ne =
              let r = between_yes 0x11 0x14 (get_or f at 0) t in
              let s = clause_lies.start in
              let u = witness_lies.starts in
              let v = modulo_lies.starts in
              record {
                tag_from = r.0;
                tag_to = r.1;
                clause_within = clause_lies.within;
                witness_within = witness_lies.within;
                numbers_within = modulo_lies.within;
                clause_even = even_yes c.size clause_lies.length_allowed;
                witness_fours = fours_yes w.size witness_lies.length_allowed;
                numbers_even = even_yes n.size modulo_lies.length_allowed;
                further = omega arith;
                inside = modulo_lies.within;
                new = λ _. hc;
                no_numbers = λ l. modulo_lies.unasked (eqb_other (get_or f at 0) 0x13 (omega arith));
                without_clause = λ e. absurd (ne e);
                without_witness = λ e. absurd (ne e);
              }

          either_lies : (b : Bool) → eqb (get_or f at 0) 0x14 ≡ b
              → Lie f at (elim b [
                | true ↦ record { clause = n; witness = n; numbers = c; next = past c }
                | false ↦ record { clause = c; witness = w; numbers = n; next = past n }
              ])
          either_lies true e = delete_lies (eqb_yes (get_or f at 0) 0x14 e)
          either_lies false e = new_lies (eqb_no (get_or f at 0) 0x14 e)

-- a result that was read is what was read
itself : {A : Type 0} (m : Read A) → Then (λ a. m ≡ ok a) m
itself (ok a) = refl
itself (bad r p) = tt

then_lie : (f : File) (at : ℕ) → Then (Lie f at) (read_fields f at)
unfolding read_fields
then_lie f at =
    then_seq _ _ _ _ (need_then (between 0x11 0x14 (get_or f at 0)) ProofField at) λ _ t.
    then_bind _ _ _ _ (itself (field ProofField (get_or f at 0) even f at)) λ c hc.
    then_bind _ _ _ _ (itself (field_if (between 0x12 0x13 (get_or f at 0)) 0x21 fours f (past c))) λ w hw.
    then_bind _ _ _ _ (itself (field_if (eqb (get_or f at 0) 0x13) 0x22 even f (past w))) λ n hn.
    either_lies f at t c hc w hw n hn (eqb (get_or f at 0) 0x14) refl

pub lie : (f : File) (at : ℕ) (x : Fields) → read_fields f at ≡ ok x → Lie f at x
lie f at x q = subst (Then (Lie f at)) q (then_lie f at)

-- 4. The code's answer, from what it read one after the other. The tag is the byte at the step's place.
kind_again : (k : Kind) → kind_of (tag_of k) ≡ Ok k
kind_again Rup = refl
kind_again Sr = refl
kind_again Wsr = refl
kind_again Delete = refl

pub tag_once : (k k' : Kind) → tag_of k ≡ tag_of k' → k ≡ k'
tag_once k k' e = let q : ◌≡◌ {A = Result Kind UnknownTag} (Ok k) (Ok k') = sym (kind_again k) ∙ ap kind_of e ∙ kind_again k' in cc

kind_within : (k : Kind) → between 0x11 0x14 (tag_of k) ≡ true
unfolding between
kind_within Rup = refl
kind_within Sr = refl
kind_within Wsr = refl
kind_within Delete = refl

out : (tag : ℕ) → tag ≢ 0x11 → tag ≢ 0x12 → tag ≢ 0x13 → tag ≢ 0x14 → between 0x11 0x14 tag ≡ false
out tag h k l m = go (between 0x11 0x14 tag) refl
  where
    go : (b : Bool) → between 0x11 0x14 tag ≡ b → b ≡ false
    go false e = refl
    go true e = let r = between_yes 0x11 0x14 tag e in absurd (omega (arith, r.0, r.1))

kind_decides : (tag : ℕ) (x : Fault) → MatchResult (result_or (kind_of tag) (Err x)) (λ k. tag_of k ≡ tag) (λ e. (e ≡ x) × (between 0x11 0x14 tag ≡ false))
kind_decides tag x = go (ℕ_discrete tag 0x11) (ℕ_discrete tag 0x12) (ℕ_discrete tag 0x13) (ℕ_discrete tag 0x14)
  where
    go : Dec (tag ≡ 0x11) → Dec (tag ≡ 0x12) → Dec (tag ≡ 0x13) → Dec (tag ≡ 0x14)
        → MatchResult (result_or (kind_of tag) (Err x)) (λ k. tag_of k ≡ tag) (λ e. (e ≡ x) × (between 0x11 0x14 tag ≡ false))
    go (yes e) b c d = rw e refl
    go (no h) (yes e) c d = rw e refl
    go (no h) (no k) (yes e) d = rw e refl
    go (no h) (no k) (no l) (yes e) = rw e refl
    go (no h) (no k) (no l) (no m) =
        rw (eqb_other tag 0x11 h, eqb_other tag 0x12 k, eqb_other tag 0x13 l, eqb_other tag 0x14 m, kind_of) (refl, out tag h k l m)

-- the kind as it was read: from its tag, or else x
module _ (f : File) (at tag : ℕ) (seen : tag ≡ get_or f at 0) (r : Result Kind UnknownTag) (told : r ≡ kind_of tag) (x : Fault) where
  pub unknown : (e : Fault) → Err e ≡ result_or r (Err x) → (e ≡ x) × (read_fields f at ≡ bad ProofField at)
  unknown e q =
      let d = MatchResult-at_err _ _ e (sym (rw told at q)) (kind_decides tag x) in
      (d.0, tag_refused f at (ap (between 0x11 0x14) (sym seen) ∙ d.1))

  module _ (k : Kind) (known : Ok k ≡ result_or r (Err x)) where
    pub tagged : tag_of k ≡ get_or f at 0
    tagged = MatchResult-at_ok _ _ k (sym (rw told at known)) (kind_decides tag x) ∙ seen

    in_range : between 0x11 0x14 (get_or f at 0) ≡ true
    in_range = ap (between 0x11 0x14) (sym tagged) ∙ kind_within k

    pub no_clause : (b : Fault) → Err b ≡ found_of (field ProofField tag even f at) → read_fields f at ≡ bad b.reason b.place
    no_clause b q = clause_refused f at in_range _ _ (subst (λ (t : ℕ). field ProofField t even f at ≡ bad b.reason b.place) seen (not_found b _ q))

    module _ (c : Found) (qc : Ok c ≡ found_of (field ProofField tag even f at)) (asked : Bool) (ea : asked ≡ between 0x12 0x13 (tag_of k)) where
      clause : field ProofField (get_or f at 0) even f at ≡ ok c.extent
      clause = subst (λ (t : ℕ). field ProofField t even f at ≡ ok c.extent) seen (found_in c _ qc)

      witness_there : field_if asked 0x21 fours f c.next.at ≡ field_if (between 0x12 0x13 (get_or f at 0)) 0x21 fours f (past c.extent)
      witness_there = ap₂ (λ (b : Bool) (p : ℕ). field_if b 0x21 fours f p) (ea ∙ ap (between 0x12 0x13) tagged) (found_next c _ qc)

      pub no_witness : (b : Fault) → Err b ≡ found_of (field_if asked 0x21 fours f c.next.at) → read_fields f at ≡ bad b.reason b.place
      no_witness b q = witness_refused f at in_range _ clause _ _ (sym witness_there ∙ not_found b _ q)

      module _ (w : Found) (qw : Ok w ≡ found_of (field_if asked 0x21 fours f c.next.at)) (more : Bool) (em : more ≡ eqb (tag_of k) 0x13) where
        witness : field_if (between 0x12 0x13 (get_or f at 0)) 0x21 fours f (past c.extent) ≡ ok w.extent
        witness = sym witness_there ∙ found_in w _ qw

        modulo_there : field_if more 0x22 even f w.next.at ≡ field_if (eqb (get_or f at 0) 0x13) 0x22 even f (past w.extent)
        modulo_there = ap₂ (λ (b : Bool) (p : ℕ). field_if b 0x22 even f p) (em ∙ ap (λ (t : ℕ). eqb t 0x13) tagged) (found_next w _ qw)

        pub no_modulo : (b : Fault) → Err b ≡ found_of (field_if more 0x22 even f w.next.at) → read_fields f at ≡ bad b.reason b.place
        no_modulo b q = modulo_refused f at in_range _ clause _ witness _ _ (sym modulo_there ∙ not_found b _ q)

        module _ (n : Found) (qn : Ok n ≡ found_of (field_if more 0x22 even f w.next.at)) where
          modulo : field_if (eqb (get_or f at 0) 0x13) 0x22 even f (past w.extent) ≡ ok n.extent
          modulo = sym modulo_there ∙ found_in n _ qn

          pub deletion : k ≡ Delete → IsRead f at (record {
            kind = k;
            fields = record { clause = n.extent; witness = n.extent; numbers = c.extent; next = c.next.at };
            next = c.next;
          })
          deletion e = record { tag = tagged; fields = rw (found_next c _ qc) (delete_read f at in_range _ clause _ witness _ modulo (sym tagged ∙ ap tag_of e)); next = refl }

          pub addition : k ≢ Delete → IsRead f at (record {
            kind = k;
            fields = record { clause = c.extent; witness = w.extent; numbers = n.extent; next = n.next.at };
            next = n.next;
          })
          addition ne = record { tag = tagged; fields = rw (found_next n _ qn) (clause_read f at in_range _ clause _ witness _ modulo (λ e. ne (tag_once k Delete (tagged ∙ e)))); next = refl }
