-- Paper, "Atoms and files": atoms, clauses, and the live clauses by their numbers.
use Rattle.std.specs.Prelude.{ℕ, ◌+◌, ◌*◌, ◌-◌, ◌%◌}
use mathlib.Core.List.{List, Memᴰ}

-- "2v for variable v, 2v+1 for its complement, 0 for true, 1 for false. Complement exchanges 2k and 2k+1."
unfoldable pub complement : ℕ → ℕ
complement a = a + 1 - 2 * (a % 2)

infix 4 ◌∈◌
abbrev pub ◌∈◌ : {A : Type 0} → A → List A → Type 0
a ∈ l = Memᴰ a l

-- a clause is the list of its codes
abbrev pub Clause : Type 0
Clause = List ℕ

-- The live clauses, each with its number. "Equal clauses under two numbers are two clauses."
abbrev pub Formula : Type 0
Formula = List (ℕ × Clause)

-- the clause D is live under the number n
abbrev pub Live : Formula → ℕ → Clause → Type 0
Live F n D = ◌∈◌ {A = ℕ × Clause} (n, D) F

-- a witness: pairs of a variable and the code of its atom
abbrev pub Witness : Type 0
Witness = List (ℕ × ℕ)
