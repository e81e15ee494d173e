-- What a caller concludes from the field that must stand at a place; and that the cursor's reading decides it.
-- Assumes nothing.
use Prim.Native.Nat.{ℕ, ◌+◌, ◌-◌, ◌≤◌, ◌<◌}
use mathlib.Core.Path.{◌≡◌, refl, sym, ap, ◌∙◌}
use mathlib.Core.Logic.{◌≢◌}
use mathlib.Core.Bool.{Bool, true, false}
use native.Mathlib.Omega.{arith}
use lib.Dec.{eqb, leb}
use lib.ListN.{length, get_or, get_or-eq_default}
use Rattle.paper.specs.declared.Reason.{Reason}
use Rattle.paper.specs.declared.Extent.{Extent}
use Rattle.paper.specs.Files.{File, Read, ok, bad, ◌>>◌, need, two, past, field}
use Rattle.paper.proofs.Lists.{eqb_yes, eqb_same, eqb_other, leb_yes, leb_within, leb_beyond}
use Rattle.std.specs.Prelude.{Option, Some, None, Result, Ok, Err}
use Rattle.std.specs.Option.{ok_or}
use Rattle.field.specs.declared.Cursor.{Cursor}
use Rattle.field.specs.declared.FieldRead.{FieldRead}
use Rattle.field.specs.declared.FieldRead.TheVariants.{Whole, Cut, Short, End}
use Rattle.field.specs.declared.Found.{Found}
use Rattle.field.specs.declared.Fault.{Fault}
use Rattle.field.specs.Field.{extent_at, field_at, judged, result_of, found_of}

-- the cursor's reading, by the tests that its code makes
module _ (f : File) (at : ℕ) where
  pub read_end : length f ≤ at → End ≡ field_at f at
  unfolding field_at
  read_end h = rw (leb_within (length f) at h, field_at)

  pub read_short : at < length f → length f - at < 3 → Short (get_or f at 0) ≡ field_at f at
  unfolding field_at
  read_short h k = simp (leb_beyond (length f) at h, leb_beyond (at + 3) (length f) (omega arith), field_at)

  pub read_cut : at < length f → 3 ≤ length f - at → (n : ℕ) → n ≡ two f (at + 1) → length f - (at + 3) < n → Cut (get_or f at 0) n ≡ field_at f at
  unfolding field_at
  read_cut h k n e l =
      rw
      e
      (simp (leb_beyond (length f) at h, leb_within (at + 3) (length f) (omega arith), leb_beyond (at + 3 + two f (at + 1)) (length f) (omega arith), field_at))

  pub read_whole : at < length f → 3 ≤ length f - at → (n : ℕ) → n ≡ two f (at + 1) → n ≤ length f - (at + 3)
      → Whole (get_or f at 0) (record { start = at + 3; size = n }) (record { at = at + 3 + n }) ≡ field_at f at
  unfolding field_at extent_at past
  read_whole h k n e l =
      rw
      e
      (simp (leb_beyond (length f) at h, leb_within (at + 3) (length f) (omega arith), leb_within (at + 3 + two f (at + 1)) (length f) (omega arith), field_at))

-- the tag that was read; none at the end
abbrev pub tag_of : FieldRead → ℕ
tag_of (Whole t e next) = t
tag_of (Cut t n) = t
tag_of (Short t) = t
tag_of End = 0

-- it is the byte at the place, whatever the field is like
pub tag_read : (f : File) (at : ℕ) (x : FieldRead) (t : ℕ) → x ≡ field_at f at → t ≡ tag_of x → t ≡ get_or f at 0
unfolding field_at
tag_read f at x t e h = h ∙ ap tag_of e ∙ go (leb (length f) at) (leb (at + 3) (length f)) (leb (at + 3 + two f (at + 1)) (length f)) refl refl refl
  where
    go : (a b c : Bool) → leb (length f) at ≡ a → leb (at + 3) (length f) ≡ b → leb (at + 3 + two f (at + 1)) (length f) ≡ c
        → tag_of (field_at f at) ≡ get_or f at 0
    go true b c p q r = rw (p, field_at) (sym (get_or-eq_default f 0 (leb_yes _ _ p)))
    go false false c p q r = simp (p, q, field_at)
    go false true false p q r = simp (p, q, r, field_at)
    go false true true p q r = simp (p, q, r, field_at)

-- what the paper's reading found or refused, by the code's answer
module _ {A : Type 0} where
  pub ok_in : (a : A) (x : Read A) → Ok a ≡ result_of x → x ≡ ok a
  unfolding result_of
  ok_in a (ok d) q = cc
  ok_in a (bad r p) q = let z : ◌≡◌ {A = ℕ} 0 1 = cc in absurd (omega arith)

  pub bad_in : (b : Fault) (x : Read A) → Err b ≡ result_of x → x ≡ bad b.reason b.place
  unfolding result_of
  bad_in b (ok d) q = let z : ◌≡◌ {A = ℕ} 0 1 = cc in absurd (omega arith)
  bad_in b (bad r p) q = let e : b ≡ record { reason = r; place = p } = cc in rw e

-- the same of a field: the extent that was found, and the cursor past it
pub found_in : (d : Found) (x : Read Extent) → Ok d ≡ found_of x → x ≡ ok d.extent
unfolding found_of
found_in d (ok e) q = let h : d ≡ record { extent = e; next = record { at = past e } } = cc in rw h
found_in d (bad r p) q = let z : ◌≡◌ {A = ℕ} 0 1 = cc in absurd (omega arith)

pub found_next : (d : Found) (x : Read Extent) → Ok d ≡ found_of x → d.next.at ≡ past d.extent
unfolding found_of
found_next d (ok e) q = let h : d ≡ record { extent = e; next = record { at = past e } } = cc in rw h
found_next d (bad r p) q = let z : ◌≡◌ {A = ℕ} 0 1 = cc in absurd (omega arith)

pub not_found : (b : Fault) (x : Read Extent) → Err b ≡ found_of x → x ≡ bad b.reason b.place
unfolding found_of
not_found b (ok e) q = let z : ◌≡◌ {A = ℕ} 0 1 = cc in absurd (omega arith)
not_found b (bad r p) q = let e : b ≡ record { reason = r; place = p } = cc in rw e

-- wrong: the paper's reading refuses, for the reason that was given and at the place of the tag
pub wrong : (why : Reason) (tag : ℕ) (allowed : ℕ → Bool) (f : File) (at : ℕ) (x : Fault) → Err x ≡ found_of (field why tag allowed f at)
    → field why tag allowed f at ≡ bad why at
unfolding field need ◌>>◌ found_of
wrong why tag allowed f at x q =
    go (leb (at + 3) (length f)) (eqb (get_or f at 0) tag) (allowed (two f (at + 1))) (leb (at + 3 + two f (at + 1)) (length f)) q
  where
    e : Extent
    e = record { start = at + 3; size = two f (at + 1) }

    read : Bool → Bool → Bool → Bool → Read Extent
    read a b c d = do
      need a why at
      need b why at
      need c why at
      need d why at
      ok e

    go : (a b c d : Bool) → Err x ≡ found_of (read a b c d) → read a b c d ≡ bad why at
    go false b c d q = refl
    go true false c d q = refl
    go true true false d q = refl
    go true true true false q = refl
    go true true true true q = let z : ◌≡◌ {A = ℕ} 0 1 = cc in absurd (omega arith)

-- the field that stands at a place, when the paper's reading finds it
pub record Stands (tag : ℕ) (allowed : ℕ → Bool) (f : File) (at : ℕ) (e : Extent) : Type 0 where
  pub start : e.start ≡ at + 3
  pub size : e.size ≡ two f (at + 1)
  pub within : e.start + e.size ≤ length f
  pub tagged : get_or f at 0 ≡ tag
  pub length_allowed : allowed e.size ≡ true

pub stands : (why : Reason) (tag : ℕ) (allowed : ℕ → Bool) (f : File) (at : ℕ) (e : Extent) → field why tag allowed f at ≡ ok e → Stands tag allowed f at e
unfolding field need ◌>>◌
stands why tag allowed f at e q =
    go (leb (at + 3) (length f)) (eqb (get_or f at 0) tag) (allowed (two f (at + 1))) (leb (at + 3 + two f (at + 1)) (length f)) refl refl refl q
  where
    at_tag : Extent
    at_tag = record { start = at + 3; size = two f (at + 1) }

    yes_stands : at_tag ≡ e → eqb (get_or f at 0) tag ≡ true → allowed (two f (at + 1)) ≡ true → leb (at + 3 + two f (at + 1)) (length f) ≡ true
        → Stands tag allowed f at e
    yes_stands x t l h =
        rw (← x) (record { start = refl; size = refl; within = leb_yes _ _ h; tagged = eqb_yes _ _ t; length_allowed = l })

    go : (a b c d : Bool) → eqb (get_or f at 0) tag ≡ b → allowed (two f (at + 1)) ≡ c → leb (at + 3 + two f (at + 1)) (length f) ≡ d
        → (need a why at >> (need b why at >> (need c why at >> (need d why at >> ok at_tag)))) ≡ ok e → Stands tag allowed f at e
    go false b c d t l h q = let z : ◌≡◌ {A = ℕ} 0 1 = cc in absurd (omega arith)
    go true false c d t l h q = let z : ◌≡◌ {A = ℕ} 0 1 = cc in absurd (omega arith)
    go true true false d t l h q = let z : ◌≡◌ {A = ℕ} 0 1 = cc in absurd (omega arith)
    go true true true false t l h q = let z : ◌≡◌ {A = ℕ} 0 1 = cc in absurd (omega arith)
    go true true true true t l h q = yes_stands (cc) t l h

-- what was not read whole is judged wrong
pub not_whole : (tag : ℕ) (allowed : ℕ → Bool) (x : FieldRead) → ((t : ℕ) (e : Extent) (n : Cursor) → x ≢ Whole t e n) → None ≡ judged tag allowed x
unfolding judged
not_whole tag allowed (Whole t e n) h = absurd (h t e n refl)
not_whole tag allowed (Cut t n) h = refl
not_whole tag allowed (Short t) h = refl
not_whole tag allowed End h = refl

-- and what was, by its tag and its length
module _ (tag : ℕ) (allowed : ℕ → Bool) (t : ℕ) (e : Extent) (next : Cursor) where
  pub other_tag : t ≢ tag → None ≡ judged tag allowed (Whole t e next)
  unfolding judged
  other_tag ne = rw (eqb_other t tag ne, judged)

  pub right_length : (b : Bool) → t ≡ tag → b ≡ allowed e.size → b ≡ true → Some (record { extent = e; next = next }) ≡ judged tag allowed (Whole t e next)
  unfolding judged
  right_length b same q g = rw (eqb_same t tag same, judged) (rw (sym q ∙ g))

  pub wrong_length : (b : Bool) → t ≡ tag → b ≡ allowed e.size → b ≡ false → None ≡ judged tag allowed (Whole t e next)
  unfolding judged
  wrong_length b same q g = rw (eqb_same t tag same, judged) (rw (sym q ∙ g))

-- the judgement of the cursor's reading is what the paper's reading finds
pub judged_right : (why : Reason) (tag : ℕ) (allowed : ℕ → Bool) (f : File) (at : ℕ)
    → ok_or (judged tag allowed (field_at f at)) (record { reason = why; place = at }) ≡ found_of (field why tag allowed f at)
unfolding judged field_at extent_at field need ◌>>◌ found_of
judged_right why tag allowed f at =
    go
    (leb (length f) at)
    (leb (at + 3) (length f))
    (eqb (get_or f at 0) tag)
    (allowed (two f (at + 1)))
    (leb (at + 3 + two f (at + 1)) (length f))
    refl
    refl
    refl
    refl
    refl
  where
    go : (a b c d e : Bool) → leb (length f) at ≡ a → leb (at + 3) (length f) ≡ b → eqb (get_or f at 0) tag ≡ c → allowed (two f (at + 1)) ≡ d
        → leb (at + 3 + two f (at + 1)) (length f) ≡ e
        → ok_or (judged tag allowed (field_at f at)) (record { reason = why; place = at }) ≡ found_of (field why tag allowed f at)
    go true b c d e p q r s t =
        let h : length f ≤ at = leb_yes _ _ p in
        simp (p, leb_beyond (at + 3) (length f) (omega arith), field_at, judged)
    go false false c d e p q r s t = simp (p, q, field_at, judged)
    go false true false d false p q r s t = simp (p, q, r, t, field_at, judged)
    go false true false d true p q r s t = simp (p, q, r, t, field_at, judged)
    go false true true false false p q r s t = simp (p, q, r, s, t, field_at, judged)
    go false true true false true p q r s t = simp (p, q, r, s, t, field_at, judged)
    go false true true true false p q r s t = simp (p, q, r, s, t, field_at, judged)
    go false true true true true p q r s t = simp (p, q, r, s, t, field_at, judged)

-- the answer, by what was read and what was judged of it
pub by_reading : (why : Reason) (tag : ℕ) (allowed : ℕ → Bool) (f : File) (at : ℕ) (x : FieldRead) (r : Option Found) (z : Result Found Fault)
    → x ≡ field_at f at → r ≡ judged tag allowed x → z ≡ ok_or r (record { reason = why; place = at }) → z ≡ found_of (field why tag allowed f at)
by_reading why tag allowed f at x r z p h e =
    e ∙ ap (λ (o : Option Found). ok_or o (record { reason = why; place = at })) (h ∙ ap (judged tag allowed) p) ∙ judged_right why tag allowed f at
