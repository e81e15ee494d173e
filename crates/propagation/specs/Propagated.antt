-- What propagation asks of the table of variables and the live clauses, and what it leaves.
use Rattle.std.specs.Prelude.{ℕ, ◌<◌, ◌≤◌, ◌≡◌, false, List, length}
use Rattle.paper.specs.Atoms.{Clause, Live}
use Rattle.paper.specs.Files.{File}
use Rattle.paper.specs.Sweeps.{sweeps_to}
use Rattle.paper.specs.Valid.{Codes}
use Rattle.lookup.specs.Live.{live}
use Rattle.table.specs.Table.{value_at, Kept}
use Rattle.sweep.specs.declared.Propagation.{Propagation}
use Rattle.sweep.specs.Swept.{state_of}

-- no literal set, no sweep made, no clash
abbrev pub begun : Propagation
begun = record { literals = 0; sweeps = 0; clash = false }

-- Room for the variables 0 to 4,095, whose literals the live clauses hold.
pub record Propagable (f p : File) (ws t : List ℕ) : Type 0 where
  pub long : 8192 ≤ length t
  pub numbers : length ws ≤ 16384
  pub codes : (n : ℕ) (D : Clause) → Live (live f p ws) n D → Codes 4095 D

-- The state is that of the paper's sweeps, 4,096 at most; nothing but values of the variables 0 to 4,095 has changed in the table.
pub record Propagated (f p : File) (ws t t' : List ℕ) (r : Propagation) : Type 0 where
  pub state : state_of t' r ≡ sweeps_to 4096 (live f p ws) (state_of t begun)
  pub kept : Kept t t'
  pub beyond : (v : ℕ) → 4095 < v → value_at t' v ≡ value_at t v
