-- Paper, "The conditions". F is the live clauses before the step, C the new clause, s the witness.
use Rattle.std.specs.Prelude.{ℕ, zero, suc, ◌*◌, ◌%◌, ◌/◌, ◌≤◌, ◌≡◌, ◌≢◌, Bool, true, false, ◌||◌, List, [], ◌∷◌, ◌++◌, map, eqb}
use Rattle.paper.specs.Atoms.{complement, ◌∈◌, Clause, Formula, Live, Witness}

-- What s says of a variable: "Unlisted variables map to themselves"; variable 0 stands for true.
unfoldable pub look : Witness → ℕ → ℕ
look s zero = 0
look [] (suc v) = 2 * suc v
look (m ∷ s) (suc v) = elim (eqb m.0 (suc v)) [ true ↦ m.1 | false ↦ look s (suc v) ]

-- "s of a complement is the complement of s. All mappings act at once."
unfoldable pub image : Witness → ℕ → ℕ
image s a = elim (eqb (a % 2) 0) [ true ↦ look s (a / 2) | false ↦ complement (look s (a / 2)) ]

-- "Propagation from a set of literals: the least set that holds them and, for each clause of F and each literal in it whose
-- fellow literals all have their complements in the set, that literal."
pub data Derived (F : Formula) (A : List ℕ) : ℕ → Type 0 where
  given : {l : ℕ} → l ∈ A → Derived F A l
  unit : {n : ℕ} {D : Clause} {l : ℕ} → Live F n D → l ∈ D → ((k : ℕ) → k ∈ D → k ≢ l → Derived F A (complement k)) → Derived F A l

-- "It clashes if the set holds a literal and its complement, or if some clause of F has the complement of every literal in
-- the set. The empty clause always clashes."
pub data Clash (F : Formula) (A : List ℕ) : Type 0 where
  both : {l : ℕ} → Derived F A l → Derived F A (complement l) → Clash F A
  broken : {n : ℕ} {D : Clause} → Live F n D → ((k : ℕ) → k ∈ D → Derived F A (complement k)) → Clash F A

-- "C is RUP over F if propagation from the complements of its literals clashes."
abbrev pub RUP : Formula → Clause → Type 0
RUP F C = Clash F (map complement C)

-- "s trivialises D if it sends some literal of D to true, or two literals of D to complements."
pub data Trivialises (s : Witness) (D : Clause) : Type 0 where
  to_true : {l : ℕ} → l ∈ D → image s l ≡ 0 → Trivialises s D
  to_complements : {l k : ℕ} → l ∈ D → k ∈ D → image s l ≡ complement (image s k) → Trivialises s D

unfoldable pub is_in : ℕ → List ℕ → Bool
is_in a [] = false
is_in a (b ∷ l) = eqb a b || is_in a l

-- a in front of a list, unless it is there
unfoldable pub once : ℕ → List ℕ → List ℕ
once a l = elim (is_in a l) [ true ↦ l | false ↦ a ∷ l ]

-- "Otherwise D under s is the images without false, each once."
unfoldable pub under : Witness → Clause → Clause
under s [] = []
under s (l ∷ D) = elim (eqb (image s l) 1) [ true ↦ under s D | false ↦ once (image s l) (under s D) ]

-- "D passes if s trivialises it, or a literal of D under s has its complement in C, or the union of C and D under s is RUP
-- over F."
pub data Passes (F : Formula) (C : Clause) (s : Witness) (D : Clause) : Type 0 where
  trivial : Trivialises s D → Passes F C s D
  opposed : {l : ℕ} → l ∈ under s D → complement l ∈ C → Passes F C s D
  follows : RUP F (C ++ under s D) → Passes F C s D

-- "SR: s trivialises C and every D of F passes."
pub record SR (F : Formula) (C : Clause) (s : Witness) : Type 0 where
  pub new : Trivialises s C
  pub old : (n : ℕ) (D : Clause) → Live F n D → Passes F C s D

-- "WSR: every D of F not named in MODULO passes, and so does C. RUP is over all of F, the named clauses included."
pub record WSR (F : Formula) (C : Clause) (s : Witness) (modulo : List ℕ) : Type 0 where
  pub new : Passes F C s C
  pub old : (n : ℕ) (D : Clause) → Live F n D → ¬ (n ∈ modulo) → Passes F C s D

-- n is the lowest number of a clause of F, those named in MODULO apart, that does not pass
pub record Lowest (F : Formula) (C : Clause) (s : Witness) (modulo : List ℕ) (n : ℕ) : Type 0 where
  pub clause : Clause
  pub live : Live F n clause
  pub unnamed : ¬ (n ∈ modulo)
  pub fails : ¬ (Passes F C s clause)
  pub least : (m : ℕ) (E : Clause) → Live F m E → ¬ (m ∈ modulo) → ¬ (Passes F C s E) → n ≤ m

-- "DELETE needs no condition; its clauses are no longer live."
unfoldable pub without : List ℕ → Formula → Formula
without ns [] = []
without ns (D ∷ F) = elim (is_in D.0 ns) [ true ↦ without ns F | false ↦ D ∷ without ns F ]

-- "After a step RUP, SR or WSR, C is live and the MODULO clauses aren't."
unfoldable pub after : List ℕ → ℕ → Clause → Formula → Formula
after modulo n C F = without modulo F ++ ((n, C) ∷ [])
