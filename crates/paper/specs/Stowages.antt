-- Paper, "The conditions": stowages, and how one is moved.
use Rattle.std.specs.Prelude.{ℕ, zero, suc, ◌%◌, ◌/◌, ◌≡◌, Bool, true, false, not, ◌||◌, [], ◌∷◌, eqb}
use Rattle.paper.specs.Atoms.{Clause, Formula, Live, Witness}
use Rattle.paper.specs.Conditions.{look}

-- "A stowage gives each of the variables 1 to V true or false." Codes are checked, so what it gives beyond V is never read.
abbrev pub Stowage : Type 0
Stowage = ℕ → Bool

-- the value of a variable; variable 0 stands for true: "a constant has its own value"
unfoldable pub variable : Stowage → ℕ → Bool
variable I zero = true
variable I (suc v) = I (suc v)

-- the value of an atom
unfoldable pub value : Stowage → ℕ → Bool
value I a = elim (eqb (a % 2) 0) [ true ↦ variable I (a / 2) | false ↦ not (variable I (a / 2)) ]

-- "Moved by s, it gives each variable the value that its image had before the move"
unfoldable pub moved : Witness → Stowage → Stowage
moved s I v = value I (look s v)

-- a stowage meets a clause if it makes one of its literals true
unfoldable pub meets : Stowage → Clause → Bool
meets I [] = false
meets I (l ∷ C) = value I l || meets I C

abbrev pub Meets : Stowage → Formula → Type 0
Meets I F = (n : ℕ) (D : Clause) → Live F n D → meets I D ≡ true

-- moved by the witness where the new clause fails
unfoldable pub carried : Witness → Clause → Stowage → Stowage
carried s C I = elim (meets I C) [ true ↦ I | false ↦ moved s I ]
