-- What the reading has seen of the files, kept from step to step. Inner contracts cite it, the promise does not.
use Rattle.std.specs.Prelude.{ℕ, ◌+◌, ◌*◌, ◌/◌, ◌≤◌, ◌<◌, ◌≡◌, true, List, [], ◌∷◌, map}
use Rattle.paper.specs.Atoms.{◌∈◌, Clause, Formula, Live, Witness}
use Rattle.paper.specs.Files.{Step, rup_step, sr_step, wsr_step, delete_step}
use Rattle.paper.specs.Refusals.{is_live}

-- no element twice
abbrev pub Distinct : List ℕ → Type 0
Distinct [] = Unit {0}
Distinct (l ∷ D) = (¬ (l ∈ D)) × Distinct D

-- codes of the variables 1 to vars
abbrev pub Codes : ℕ → Clause → Type 0
Codes vars D = (l : ℕ) → l ∈ D → (2 ≤ l) × (l ≤ 2 * vars + 1)

-- no variable twice
abbrev pub Apart : Clause → Type 0
Apart D = Distinct (map (λ l. l / 2) D)

pub record Valid (vars : ℕ) (F : Formula) : Type 0 where
  pub codes : (n : ℕ) (D : Clause) → Live F n D → Codes vars D
  pub apart : (n : ℕ) (D : Clause) → Live F n D → Apart D

-- the numbers rise
abbrev pub Rising : Formula → Type 0
Rising [] = Unit {0}
Rising (D ∷ F) = ((m : ℕ) (E : Clause) → Live F m E → D.0 < m) × Rising F

-- every live clause is valid, the numbers rise from 1 on, and the next is above them all
pub record Kept (vars next : ℕ) (F : Formula) : Type 0 where
  pub valid : Valid vars F
  pub rising : Rising F
  pub from : (n : ℕ) (D : Clause) → Live F n D → (1 ≤ n) × (n < next)

-- a witness: variables 1 to vars, each mapped once, to atoms 0 to 2 vars + 1
pub record Mapping (vars : ℕ) (s : Witness) : Type 0 where
  pub variables : (v a : ℕ) → ◌∈◌ {A = ℕ × ℕ} (v, a) s → (1 ≤ v) × (v ≤ vars)
  pub atoms : (v a : ℕ) → ◌∈◌ {A = ℕ × ℕ} (v, a) s → a ≤ 2 * vars + 1
  pub once : Distinct (map (λ (m : ℕ × ℕ). m.0) s)

-- numbers of live clauses, each above the one before it
abbrev pub Listed : Formula → ℕ → List ℕ → Type 0
Listed F last [] = Unit {0}
Listed F last (n ∷ ns) = (is_live n F ≡ true) × (last < n) × Listed F n ns

-- a new clause, and the number that it would get
pub record New (vars next : ℕ) (C : Clause) : Type 0 where
  pub codes : Codes vars C
  pub apart : Apart C
  pub number : next < 16384

-- what the reading of a step has seen of it
abbrev pub Seen : ℕ → Formula → ℕ → Step → Type 0
Seen vars F next (rup_step C) = New vars next C
Seen vars F next (sr_step C s) = New vars next C × Mapping vars s
Seen vars F next (wsr_step C s modulo) = New vars next C × Mapping vars s × Listed F 0 modulo
Seen vars F next (delete_step ns) = Listed F 0 ns
