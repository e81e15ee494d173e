-- What the reading of the formula says, and the clause table that it leaves.
use Rattle.std.specs.Prelude.{ℕ, zero, suc, ◌+◌, ◌-◌, ◌≤◌, ◌<◌, ◌≡◌, List, [], ◌∷◌, ◌++◌, leb, length, set, Result, Ok, Err}
use Rattle.paper.specs.declared.Reason.{Reason}
use Rattle.paper.specs.declared.Reason.TheVariants.{FormulaField, FormulaEnd}
use Rattle.paper.specs.declared.Extent.{Extent}
use Rattle.paper.specs.Atoms.{Formula}
use Rattle.paper.specs.Files.{File, Read, ok, bad, ◌>>=◌, ◌>>◌, need, two, payload, past, field, even, codes}
use Rattle.paper.specs.Refusals.{read_clauses, read_formula}
use Rattle.field.specs.declared.Cursor.{Cursor}
use Rattle.field.specs.declared.Fault.{Fault}
use Rattle.field.specs.Field.{extent_at}
use Rattle.lookup.specs.Clause.{formula_word, ClauseTable}
use Rattle.lookup.specs.Live.{live}
use Rattle.reading.specs.declared.Head.{Head}
use Rattle.reading.specs.declared.FormulaRead.{FormulaRead}

-- what the paper says of the formula, by what it says of the clauses: "after clause m, 7"
unfoldable pub ended : File → ℕ → ℕ → Read (Formula × ℕ) → Read (ℕ × Formula × ℕ)
ended f vars m x = do
  F ← x
  need (leb (length f) F.1) FormulaEnd F.1
  ok (vars, F.0, suc m)

-- HEAD was read: V and m are those that it gives, within their limits, and the clauses follow at the place first
pub record HeadTaken (f : File) (vars m first : ℕ) : Type 0 where
  pub given : (vars ≡ two f 3) × (m ≡ two f 5)
  pub variables : vars ≤ 4095
  pub clauses : m ≤ 16383
  pub place : first ≡ 7
  pub read : read_formula f ≡ ended f vars m (read_clauses f vars m 1 first)

abbrev pub HeadSaid : File → Result Head Fault → Type 0
HeadSaid f (Ok h) = HeadTaken f h.vars h.clauses h.first.at
HeadSaid f (Err b) = read_formula f ≡ bad b.reason b.place

-- clauses in front of those that are read
unfoldable pub prepend : Formula → Read (Formula × ℕ) → Read (Formula × ℕ)
prepend F (ok x) = ok (F ++ x.0, x.1)
prepend F (bad r p) = bad r p

-- a clause was read: it is the first of those that are read from its place on, and the others from next on
pub record ClauseTaken (f : File) (vars at next : ℕ) : Type 0 where
  pub extent : Extent
  pub starts : at < length f
  pub stands : field FormulaField 0x02 even f at ≡ ok extent
  pub after : next ≡ past (extent_at f at)
  pub read : (m n : ℕ) → read_clauses f vars (suc m) n at ≡ prepend ((n, codes (payload f extent)) ∷ []) (read_clauses f vars m (suc n) next)

abbrev pub ClauseSaid : File → ℕ → ℕ → Result Cursor Fault → Type 0
ClauseSaid f vars at (Ok next) = ClauseTaken f vars at next.at
ClauseSaid f vars at (Err b) = (m n : ℕ) → read_clauses f vars (suc m) n at ≡ bad b.reason b.place

-- the words with the m fields that stand one after the other from a place on entered, under the numbers from n on
unfoldable pub entered : File → ℕ → ℕ → ℕ → List ℕ → List ℕ
entered f zero n at ws = ws
entered f (suc m) n at ws = entered f m (suc n) (past (extent_at f at)) (set ws n (formula_word at))

-- m clauses were read, from the place first to the file's end: they are entered, and are the live ones, whatever the proof is
pub record ClausesTaken (f : File) (vars m first : ℕ) (ws₀ ws : List ℕ) : Type 0 where
  pub read : (p : File) → ended f vars m (read_clauses f vars m 1 first) ≡ ok (vars, live f p ws, suc m)
  pub words : ws ≡ entered f m 1 first ws₀
  pub table : (p : File) → ClauseTable f p (m + 1) ws

abbrev pub ClausesSaid : File → ℕ → ℕ → ℕ → List ℕ → List ℕ → Result (Unit {0}) Fault → Type 0
ClausesSaid f vars m first ws₀ ws (Ok u) = ClausesTaken f vars m first ws₀ ws
ClausesSaid f vars m first ws₀ ws (Err b) = ended f vars m (read_clauses f vars m 1 first) ≡ bad b.reason b.place

-- A formula was read: its clauses, which follow HEAD's seven bytes, are entered, and are the live ones, whatever the proof is.
pub record FormulaTaken (f : File) (vars next : ℕ) (ws₀ ws : List ℕ) : Type 0 where
  pub read : (p : File) → read_formula f ≡ ok (vars, live f p ws, next)
  pub words : ws ≡ entered f (next - 1) 1 7 ws₀
  pub table : (p : File) → ClauseTable f p next ws
  pub long : length ws ≡ length ws₀
  pub variables : vars ≤ 4095
  pub first : 1 ≤ next
  pub last : next ≤ 16384

-- A formula was refused: the words are as at entry.
pub record FormulaRefused (f : File) (reason : Reason) (place : ℕ) (ws₀ ws : List ℕ) : Type 0 where
  pub read : read_formula f ≡ bad reason place
  pub words : ws ≡ ws₀

abbrev pub FormulaSaid : File → List ℕ → List ℕ → Result FormulaRead Fault → Type 0
FormulaSaid f ws₀ ws (Ok r) = FormulaTaken f r.vars r.next ws₀ ws
FormulaSaid f ws₀ ws (Err b) = FormulaRefused f b.reason b.place ws₀ ws
