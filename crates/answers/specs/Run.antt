-- What the run of a proof starts from.
use Rattle.std.specs.Prelude.{ℕ, ◌≤◌, ◌≡◌, List, length}
use Rattle.paper.specs.Files.{File}
use Rattle.paper.specs.Valid.{Kept}
use Rattle.lookup.specs.Clause.{ClauseTable}
use Rattle.lookup.specs.Live.{live}
use Rattle.table.specs.Table.{Zero}

-- a formula that was read into the clause table, and a table of variables that is all zero
pub record Start (f p : File) (vars next : ℕ) (words t : List ℕ) : Type 0 where
  pub proof_short : length p ≤ 1048576
  pub variables : vars ≤ 4095
  pub first : 1 ≤ next
  pub last : next ≤ 16384
  pub words_long : length words ≡ 16384
  pub clauses : ClauseTable f p next words
  pub kept : Kept vars next (live f p words)
  pub table_long : length t ≡ 8192
  pub table_zero : Zero t

-- work memory of the lengths that the paper asks for, all zero
pub record Clear (words t : List ℕ) : Type 0 where
  pub words_long : length words ≡ 16384
  pub words_zero : Zero words
  pub table_long : length t ≡ 8192
  pub table_zero : Zero t
