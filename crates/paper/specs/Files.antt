-- Paper, "Atoms and files": fields, and how they are read. A place is an offset in the file, counted from 0.
use Rattle.std.specs.Prelude.{ℕ, ◌+◌, ◌*◌, ◌%◌, Bool, true, false, List, [], ◌∷◌, eqb, leb, length, get_or, take, drop}
use Rattle.paper.specs.declared.Reason.{Reason}
use Rattle.paper.specs.declared.Extent.{Extent}
use Rattle.paper.specs.Atoms.{Clause, Witness}

-- a file is its bytes
abbrev pub File : Type 0
File = List ℕ

-- what is read; or the reason why not, and its place
pub data Read (A : Type 0) : Type 0 where
  ok : A → Read A
  bad : Reason → ℕ → Read A

infixl 10 ◌>>=◌ ◌>>◌
unfoldable pub ◌>>=◌ : {A B : Type 0} → Read A → (A → Read B) → Read B
◌>>=◌ (ok a) f = f a
◌>>=◌ (bad r p) f = bad r p

unfoldable pub ◌>>◌ : {A B : Type 0} → Read A → Read B → Read B
◌>>◌ (ok a) m = m
◌>>◌ (bad r p) m = bad r p

unfoldable pub need : Bool → Reason → ℕ → Read (Unit {0})
need true r p = ok tt
need false r p = bad r p

-- "two bytes, high byte first"
unfoldable pub two : File → ℕ → ℕ
two f at = get_or f at 0 * 256 + get_or f (at + 1) 0

unfoldable pub payload : File → Extent → List ℕ
payload f e = take e.size (drop e.start f)

-- the place past a payload: "The reading place moves past one field at a time."
unfoldable pub past : Extent → ℕ
past e = e.start + e.size

-- "A file is a run of fields: one byte tag, two bytes length (high byte first), then that many bytes."
-- The field at a place, of the tag and of a length that are allowed there.
unfoldable pub field : Reason → ℕ → (ℕ → Bool) → File → ℕ → Read Extent
field r tag allowed f at = do
  need (leb (at + 3) (length f)) r at
  need (eqb (get_or f at 0) tag) r at
  need (allowed (two f (at + 1))) r at
  need (leb (at + 3 + two f (at + 1)) (length f)) r at
  ok (record { start = at + 3; size = two f (at + 1) })

-- "HEAD has length 4, code and number lists even length, a WITNESS a multiple of 4"
unfoldable pub four : ℕ → Bool
four n = eqb n 4

unfoldable pub even : ℕ → Bool
even n = eqb (n % 2) 0

unfoldable pub fours : ℕ → Bool
fours n = eqb (n % 4) 0

-- the codes, or the numbers, of a payload
unfoldable pub codes : List ℕ → List ℕ
codes [] = []
codes (a ∷ []) = []
codes (a ∷ b ∷ bs) = (a * 256 + b) ∷ codes bs

-- "pairs: variable, code of its atom"
unfoldable pub mappings : List ℕ → Witness
mappings [] = []
mappings (v ∷ []) = []
mappings (v ∷ a ∷ s) = (v, a) ∷ mappings s

-- "A proof is steps to its end". A step, with its new clause, its witness, and the clause numbers that it names.
pub data Step : Type 0 where
  rup_step : Clause → Step
  sr_step : Clause → Witness → Step
  wsr_step : Clause → Witness → List ℕ → Step
  delete_step : List ℕ → Step
