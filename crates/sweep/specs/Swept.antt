-- The state of a propagation as the code holds it, what one sweep asks of it, and what it leaves.
use Rattle.std.specs.Prelude.{ℕ, ◌+◌, ◌<◌, ◌≤◌, ◌≡◌, Bool, false, List, eqb, length}
use Rattle.paper.specs.Atoms.{Clause, Live}
use Rattle.paper.specs.Files.{File}
use Rattle.paper.specs.Sweeps.{not_false, State, sweep}
use Rattle.paper.specs.Valid.{Codes}
use Rattle.lookup.specs.Live.{live}
use Rattle.table.specs.Table.{values, value_at, Kept}
use Rattle.sweep.specs.declared.Propagation.{Propagation}

-- "The state of a propagation (number of literals set, sweeps made, clash or none) is a small record", and the values stand in the table
abbrev pub state_of : List ℕ → Propagation → State
state_of t x = record { values = values 4095 t; literals = x.literals; sweeps = x.sweeps; clash = x.clash }

-- a clause's literals are all false
abbrev pub all_false : ℕ → List ℕ → Clause → Bool
all_false vars t D = eqb (length (not_false (values vars t) D)) 0

-- Room for the variables 0 to 4,095, whose literals the live clauses hold; no clash yet; counters that can be counted on.
pub record Sweepable (f p : File) (ws t : List ℕ) (x : Propagation) : Type 0 where
  pub long : 8192 ≤ length t
  pub numbers : length ws ≤ 16384
  pub codes : (n : ℕ) (D : Clause) → Live (live f p ws) n D → Codes 4095 D
  pub going : x.clash ≡ false
  pub few_literals : x.literals < 4294967296
  pub few_sweeps : x.sweeps < 4294967296

-- The state is that of the paper's sweep; nothing but values of the variables 0 to 4,095 has changed in the table.
pub record Swept (f p : File) (ws t : List ℕ) (x : Propagation) (t' : List ℕ) (r : Propagation) : Type 0 where
  pub state : state_of t' r ≡ sweep (live f p ws) (state_of t x)
  pub kept : Kept t t'
  pub beyond : (v : ℕ) → 4095 < v → value_at t' v ≡ value_at t v
  pub literals : r.literals ≤ x.literals + length ws
  pub sweeps : r.sweeps ≡ x.sweeps + 1
