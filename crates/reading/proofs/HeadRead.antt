-- HEAD as the code reads it, against the paper's reading of the formula.
-- Assumes nothing.
use Prim.Native.Nat.{ℕ, ◌+◌, ◌≤◌, ◌<◌}
use mathlib.Core.Path.{◌≡◌, refl}
use mathlib.Core.Bool.{Bool, true, false, ◌&&◌}
use lib.Dec.{leb}
use mathlib.Core.Logic.{◌⊎◌, inl, inr}
use native.Mathlib.Omega.{arith}
use lib.ListN.{length}
use Rattle.std.proofs.Common.{Ok, Err}
use Rattle.paper.specs.declared.Reason.TheVariants.{FormulaField, OverLimit}
use Rattle.paper.specs.Files.{File, bad, ◌>>=◌, ◌>>◌, need, two, past, field, four}
use Rattle.paper.specs.Refusals.{read_formula}
use Rattle.paper.proofs.Lists.{eqb_yes, leb_within, leb_beyond}
use Rattle.field.specs.declared.Found.{Found}
use Rattle.field.specs.declared.Fault.{Fault}
use Rattle.field.specs.Field.{found_of}
use Rattle.field.proofs.Laws.{stands, found_in, found_next, not_found}
use Rattle.reading.specs.Reading.{HeadTaken, ended}

and_no : (b : Bool) → (b && false) ≡ false
and_no true = refl
and_no false = refl

module _ (f : File) where
  pub head_wrong : (b : Fault) → Err b ≡ found_of (field FormulaField 0x01 four f 0) → read_formula f ≡ bad b.reason b.place
  unfolding read_formula ◌>>=◌
  head_wrong b q = rw (not_found b _ q)

  module _ (d : Found) (q : Ok d ≡ found_of (field FormulaField 0x01 four f 0)) where
    -- HEAD takes the first seven bytes
    pub head_size : d.extent.size ≡ 4
    unfolding four
    head_size = eqb_yes d.extent.size 4 (stands FormulaField 0x01 four f 0 d.extent (found_in d _ q)).length_allowed

    pub head_long : 7 ≤ length f
    head_long = omega (arith, stands FormulaField 0x01 four f 0 d.extent (found_in d _ q), head_size)

    module _ (v m : ℕ) (a : v ≡ two f 3) (b : m ≡ two f 5) where
      pub head_over : (4095 < v) ⊎ (16383 < m) → read_formula f ≡ bad OverLimit 0
      unfolding read_formula ◌>>=◌ ◌>>◌ need
      head_over (inl h) = rw (found_in d _ q, leb_beyond (two f 3) 4095 (omega arith))
      head_over (inr h) = rw (found_in d _ q, leb_beyond (two f 5) 16383 (omega arith), and_no (leb (two f 3) 4095))

      -- the clauses follow where the cursor past HEAD stands
      pub head_taken : v ≤ 4095 → m ≤ 16383 → HeadTaken f v m d.next.at
      unfolding read_formula ended past ◌>>=◌ ◌>>◌ need
      head_taken h k = record {
        given = (a, b);
        variables = h;
        clauses = k;
        place = let s = stands FormulaField 0x01 four f 0 d.extent (found_in d _ q) in let n = head_size in let w : past d.extent ≡ d.extent.start + d.extent.size = refl in omega (arith, found_next d _ q);
        read = rw (found_next d _ q) (rw (found_in d _ q, leb_within (two f 3) 4095 (omega arith), leb_within (two f 5) 16383 (omega arith), ← a, ← b));
      }
