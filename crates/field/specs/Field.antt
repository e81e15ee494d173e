-- What reading a field at a place finds, and when that is the field that must stand there.
use Rattle.std.specs.Prelude.{ℕ, ◌+◌, Bool, true, false, eqb, leb, length, get_or, Option, Some, None, Result, Ok, Err}
use Rattle.paper.specs.declared.Extent.{Extent}
use Rattle.paper.specs.Files.{File, Read, ok, bad, two, past, four, even, fours}
use Rattle.field.specs.declared.FieldRead.{FieldRead}
use Rattle.field.specs.declared.FieldRead.TheVariants.{Whole, Cut, Short, End}
use Rattle.field.specs.declared.Length.{Length}
use Rattle.field.specs.declared.Length.TheVariants.{Four, Even, Fours}
use Rattle.field.specs.declared.Found.{Found}
use Rattle.field.specs.declared.Fault.{Fault}

-- the payload of the field whose tag is at a place
unfoldable pub extent_at : File → ℕ → Extent
extent_at f at = record { start = at + 3; size = two f (at + 1) }

-- Nothing left; the file ends inside the length bytes; a whole field, and the place past it; the file ends inside the payload.
unfoldable pub field_at : File → ℕ → FieldRead
field_at f at =
    elim (leb (length f) at) [
      | true ↦ End
      | false ↦ elim (leb (at + 3) (length f)) [
        | true ↦ elim (leb (at + 3 + two f (at + 1)) (length f)) [
          | true ↦ Whole (get_or f at 0) (extent_at f at) (record { at = past (extent_at f at) })
          | false ↦ Cut (get_or f at 0) (two f (at + 1))
        ]
        | false ↦ Short (get_or f at 0)
      ]
    ]

-- "HEAD has length 4, code and number lists even length, a WITNESS a multiple of 4"
abbrev pub allowed_by : Length → ℕ → Bool
allowed_by Four = four
allowed_by Even = even
allowed_by Fours = fours

-- what a reading says of the field that must stand there
unfoldable pub judged : ℕ → (ℕ → Bool) → FieldRead → Option Found
judged tag allowed (Whole t e next) =
    elim (eqb t tag) [ true ↦ elim (allowed e.size) [ true ↦ Some (record { extent = e; next = next }) | false ↦ None ] | false ↦ None ]
judged tag allowed (Cut t n) = None
judged tag allowed (Short t) = None
judged tag allowed End = None

-- what the paper's reading finds, as the code's answer
unfoldable pub result_of : {A : Type 0} → Read A → Result A Fault
result_of (ok a) = Ok a
result_of (bad r p) = Err (record { reason = r; place = p })

-- a field, and the cursor past it
unfoldable pub found_of : Read Extent → Result Found Fault
found_of (ok e) = Ok (record { extent = e; next = record { at = past e } })
found_of (bad r p) = Err (record { reason = r; place = p })
