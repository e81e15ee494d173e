-- What is asked of the table and the live clauses before a question about the new clause, and what the search's answer says.
use Rattle.std.specs.Prelude.{ℕ, ◌≤◌, List, length, Option, Some, None}
use Rattle.paper.specs.Atoms.{◌∈◌, Clause, Formula, Live, Witness}
use Rattle.paper.specs.Files.{File}
use Rattle.paper.specs.Conditions.{Passes, Lowest}
use Rattle.paper.specs.Valid.{Codes, Apart, Valid}
use Rattle.lookup.specs.declared.Clauses.{Clauses}
use Rattle.lookup.specs.Live.{live}
use Rattle.loading.specs.Loading.{Ready}

-- the formula of the live clauses
abbrev pub live_in : Clauses → Formula
live_in c = live c.formula.now c.proof.now c.words.now

-- live clauses and a new clause C whose codes are in range, none with a variable twice, and a table ready for the variables
pub record Asked (f p : File) (ws : List ℕ) (C : Clause) (vars : ℕ) (t : List ℕ) : Type 0 where
  pub ready : Ready vars t
  pub numbers : length ws ≤ 16384
  pub valid : Valid vars (live f p ws)
  pub codes : Codes vars C
  pub apart : Apart C

-- every clause of F but those named in MODULO passes; or n is the lowest of those that do not
abbrev pub Finds : Formula → Clause → Witness → List ℕ → Option ℕ → Type 0
Finds F C s modulo None = (n : ℕ) (D : Clause) → Live F n D → ¬ (n ∈ modulo) → Passes F C s D
Finds F C s modulo (Some n) = Lowest F C s modulo n
