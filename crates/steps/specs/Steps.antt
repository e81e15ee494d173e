-- What the code's answers say in the paper's words, and the clause table cleared of a list of numbers.
use Rattle.std.specs.Prelude.{ℕ, ◌≡◌, ◌<◌, true, false, List, [], ◌∷◌, eqb, get_or, Result, Ok, Err}
use Rattle.paper.specs.declared.Reason.TheVariants.{ProofField}
use Rattle.paper.specs.Atoms.{◌∈◌}
use Rattle.paper.specs.Files.{File, ok}
use Rattle.paper.specs.Refusals.{read_fields}
use Rattle.field.specs.declared.Fault.{Fault}
use Rattle.lookup.specs.Clause.{cleared}
use Rattle.steps.specs.declared.Kind.{Kind}
use Rattle.steps.specs.declared.Kind.TheVariants.{Rup, Sr, Wsr, Delete}
use Rattle.steps.specs.declared.UnknownTag.{UnknownTag}
use Rattle.steps.specs.declared.StepRead.{StepRead}

-- a kind of step by its tag, and its tag
abbrev pub kind_of : ℕ → Result Kind UnknownTag
kind_of tag =
    elim (eqb tag 0x11) [
      | true ↦ Ok Rup
      | false ↦ elim (eqb tag 0x12) [ true ↦ Ok Sr | false ↦ elim (eqb tag 0x13) [ true ↦ Ok Wsr | false ↦ elim (eqb tag 0x14) [ true ↦ Ok Delete | false ↦ Err (record {}) ] ] ]
    ]

abbrev pub tag_of : Kind → ℕ
tag_of Rup = 0x11
tag_of Sr = 0x12
tag_of Wsr = 0x13
tag_of Delete = 0x14

-- what is wrong where a field does not stand that must
abbrev pub missing : ℕ → Fault
missing at = record { reason = ProofField; place = at }

-- the step at a place: its kind by its tag, its fields as the paper reads them, and the cursor past them
pub record IsRead (f : File) (at : ℕ) (s : StepRead) : Type 0 where
  pub tag : tag_of s.kind ≡ get_or f at 0
  pub fields : read_fields f at ≡ ok s.fields
  pub next : s.next ≡ record { at = s.fields.next }

-- the clause table cleared of the listed numbers, the last of them first: "its clauses are no longer live"
unfoldable pub removed : List ℕ → List ℕ → List ℕ
removed words [] = words
removed words (n ∷ ns) = cleared (removed words ns) n

-- every listed number is below k
abbrev pub Below : ℕ → List ℕ → Type 0
Below k ns = (n : ℕ) → n ∈ ns → n < k
