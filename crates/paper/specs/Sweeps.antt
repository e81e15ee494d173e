-- Paper, "The conditions": propagation as it is run, in sweeps over the live clauses by rising number.
use Rattle.std.specs.Prelude.{ℕ, zero, suc, ◌%◌, ◌/◌, Bool, true, false, List, [], ◌∷◌, eqb, get_or, set, replicate}
use Rattle.paper.specs.Atoms.{complement, Clause, Formula}

-- The values of the variables 0 to V: 0 unset, 1 true, 2 false. Variable 0 stays unset.
abbrev pub Values : Type 0
Values = List ℕ

-- the literal l is true; it is false where its complement is true
unfoldable pub is_true : Values → ℕ → Bool
is_true vs l = eqb (get_or vs (l / 2) 0) (suc (l % 2))

-- the literal l made true
unfoldable pub put : Values → ℕ → Values
put vs l = set vs (l / 2) (suc (l % 2))

-- the literals of a clause that are not false
unfoldable pub not_false : Values → Clause → Clause
not_false vs [] = []
not_false vs (l ∷ D) = elim (is_true vs (complement l)) [ true ↦ not_false vs D | false ↦ l ∷ not_false vs D ]

-- "The state of a propagation (number of literals set, sweeps made, clash or none) is a small record that each sweep updates."
-- Here with the values themselves; literals that were assumed are not counted.
pub record State : Type 0 where
  pub values : Values
  pub literals : ℕ
  pub sweeps : ℕ
  pub clash : Bool

-- a clause visited, by its literals that are not false: none is a clash, one is set unless it is true
unfoldable pub visit : Clause → State → State
visit [] s = record { values = s.values; literals = s.literals; sweeps = s.sweeps; clash = true }
visit (l ∷ []) s =
    elim (is_true s.values l) [
      | true ↦ s
      | false ↦ record { values = put s.values l; literals = suc s.literals; sweeps = s.sweeps; clash = false }
    ]
visit (l ∷ k ∷ r) s = s

-- "A sweep stops at the first clause whose literals are all false."
unfoldable pub visits : Formula → State → State
visits [] s = s
visits (D ∷ F) s = elim s.clash [ true ↦ s | false ↦ visits F (visit (not_false s.values D.1) s) ]

unfoldable pub sweep : Formula → State → State
sweep F s = visits F (record { values = s.values; literals = s.literals; sweeps = suc s.sweeps; clash = s.clash })

-- n sweeps at most; one that clashes or sets nothing is the last
unfoldable pub sweeps_to : ℕ → Formula → State → State
sweeps_to zero F s = s
sweeps_to (suc n) F s =
    let t : State = sweep F s in
    elim t.clash [ true ↦ t | false ↦ elim (eqb t.literals s.literals) [ true ↦ t | false ↦ sweeps_to n F t ] ]

-- the literals of A made true one after the other, up to one that is false
unfoldable pub assume : List ℕ → State → State
assume [] s = s
assume (a ∷ A) s =
    elim (is_true s.values (complement a)) [
      | true ↦ record { values = s.values; literals = s.literals; sweeps = s.sweeps; clash = true }
      | false ↦ assume A (record { values = put s.values a; literals = s.literals; sweeps = s.sweeps; clash = false })
    ]

unfoldable pub blank : ℕ → State
blank vars = record { values = replicate (suc vars) 0; literals = 0; sweeps = 0; clash = false }

-- propagation from A: V + 1 sweeps at most
unfoldable pub propagate : ℕ → Formula → List ℕ → State
propagate vars F A =
    let s : State = assume A (blank vars) in
    elim s.clash [ true ↦ s | false ↦ sweeps_to (suc vars) F s ]
