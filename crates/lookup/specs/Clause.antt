-- The words of the clause table: the clause that a word stands for, the number at which to go on, and what the words always are.
use Rattle.std.specs.Prelude.{ℕ, zero, suc, ◌+◌, ◌%◌, ◌≤◌, ◌<◌, ◌≡◌, ◌≢◌, true, false, List, leb, length, get_or, max, set}
use Rattle.paper.specs.Files.{File, two, payload}
use Rattle.field.specs.Field.{extent_at}

-- the word of the clause whose tag is at a place of the formula, or of the proof
abbrev pub formula_word : ℕ → ℕ
formula_word at = 1048576 + at

abbrev pub proof_word : ℕ → ℕ
proof_word at = 2097152 + at

-- The word is that of a clause. A word below says that no clause of its number is live.
abbrev pub Entered : ℕ → Type 0
Entered w = 1048576 ≤ w

-- "A clause is looked up by its number, and its literals are read from the formula or the proof, as they stand there."
unfoldable pub clause_bytes : File → File → ℕ → List ℕ
clause_bytes formula proof w =
    elim (leb 2097152 w) [
      | true ↦ payload proof (extent_at proof (w % 1048576))
      | false ↦ payload formula (extent_at formula (w % 1048576))
    ]

-- a field that lies whole in its file, of even length
pub record Whole (file : File) (at : ℕ) : Type 0 where
  pub inside : at + 3 + two file (at + 1) ≤ length file
  pub even : two file (at + 1) % 2 ≡ 0

-- the clause of the word stands in its file
pub record Stands (formula proof : File) (w : ℕ) : Type 0 where
  pub in_formula : w < 2097152 → Whole formula (w % 1048576)
  pub in_proof : 2097152 ≤ w → Whole proof (w % 1048576)

-- the first number from n on that may be live: a word that is not that of a clause can tell to go on at a later number
unfoldable pub onward : List ℕ → ℕ → ℕ
onward ws n = elim (leb 1048576 (get_or ws n 0)) [ true ↦ n | false ↦ max n (get_or ws n 0) ]

-- the words of the numbers right below n that are not live tell to go on at e
unfoldable pub lowered : List ℕ → ℕ → ℕ → List ℕ
lowered ws zero e = ws
lowered ws (suc n) e = elim (leb 1048576 (get_or ws n 0)) [ true ↦ ws | false ↦ lowered (set ws n e) n e ]

-- number n cleared: from it, and from those right below it that are not live, the search goes on where it did from the number above it
unfoldable pub cleared : List ℕ → ℕ → List ℕ
cleared ws n = lowered (set ws n (onward ws (n + 1))) n (onward ws (n + 1))

-- from number n the search goes on at a live number above it, or at next
pub record Lands (next : ℕ) (ws : List ℕ) (n : ℕ) : Type 0 where
  pub above : n < get_or ws n 0
  pub ends : get_or ws n 0 ≢ next → Entered (get_or ws (get_or ws n 0) 0)

-- What the words always are, the numbers below next in use: each clause stands in its file, no live number is passed over, none at or
-- above next has a word, and from a number in use that is not live the search goes on at the next live one, or at next.
pub record ClauseTable (formula proof : File) (next : ℕ) (ws : List ℕ) : Type 0 where
  pub stands : (n : ℕ) → Entered (get_or ws n 0) → Stands formula proof (get_or ws n 0)
  pub passed : (n k : ℕ) → get_or ws n 0 < 1048576 → n ≤ k → k < get_or ws n 0 → get_or ws k 0 < 1048576
  pub bounded : (n : ℕ) → get_or ws n 0 < 1048576 → get_or ws n 0 ≤ next
  pub unused : (n : ℕ) → next ≤ n → get_or ws n 0 ≡ 0
  pub lands : (n : ℕ) → 1 ≤ n → n < next → get_or ws n 0 < 1048576 → Lands next ws n
