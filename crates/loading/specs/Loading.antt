-- Literals assumed in the table of the variables, and what is asked of the table before a question is put.
use Rattle.std.specs.Prelude.{ℕ, suc, ◌+◌, ◌*◌, ◌/◌, ◌%◌, ◌<◌, ◌≤◌, ◌≡◌, ◌⊎◌, Bool, true, false, List, [], ◌∷◌, eqb, length}
use Rattle.paper.specs.Atoms.{complement, ◌∈◌, Clause, Witness}
use Rattle.paper.specs.Conditions.{image}
use Rattle.table.specs.Table.{Kept, value_at, image_of, set_value}
use Rattle.loading.specs.declared.Assumed.{Assumed}
use Rattle.loading.specs.declared.Assumed.TheVariants.{Passes, Open}

-- codes that the table has room for
abbrev pub Storable : Clause → Type 0
Storable C = (l : ℕ) → l ∈ C → l < 8192

-- the literal is true
abbrev pub true_at : List ℕ → ℕ → Bool
true_at t l = eqb (value_at t (l / 2)) (suc (l % 2))

-- the literal made true
abbrev pub make_true : List ℕ → ℕ → List ℕ
make_true t l = set_value t (l / 2) (suc (l % 2))

-- the complements of the literals of a clause made true, one after the other
unfoldable pub assumed : List ℕ → Clause → List ℕ
assumed t [] = t
assumed t (l ∷ C) = assumed (make_true t (complement l)) C

-- the answer, and the table after it
pub record Outcome : Type 0 where
  pub answer : Assumed
  pub table : List ℕ

-- The literals of a clause by their images, in turn: a literal sent to true, or to one that is true already, ends it; false
-- is left out; of any other image the complement is made true.
unfoldable pub imaged : List ℕ → Clause → Outcome
imaged t [] = record { answer = Open; table = t }
imaged t (l ∷ D) =
    elim (eqb (image_of t l) 0) [
      | true ↦ record { answer = Passes; table = t }
      | false ↦ elim (eqb (image_of t l) 1) [
        | true ↦ imaged t D
        | false ↦ elim (true_at t (image_of t l)) [
          | true ↦ record { answer = Passes; table = t }
          | false ↦ imaged (make_true t (complement (image_of t l))) D
        ]
      ]
    ]

-- the variables of the literals of a clause unset, one after the other
unfoldable pub unset_clause : List ℕ → Clause → List ℕ
unset_clause t [] = t
unset_clause t (l ∷ C) = unset_clause (set_value t (l / 2) 0) C

-- the variables of the images of its literals unset; true and false are variable 0, which has no value
unfoldable pub unset_images : List ℕ → Clause → List ℕ
unset_images t [] = t
unset_images t (l ∷ D) = unset_images (set_value t (image_of t l / 2) 0) D

-- no variable has a value
abbrev pub Unset : List ℕ → Type 0
Unset t = (v : ℕ) → value_at t v ≡ 0

-- a table t that is t₀ but for values, and in which no variable but those named has one
pub record Among (t₀ t names : List ℕ) : Type 0 where
  pub kept : Kept t₀ t
  pub named : (v : ℕ) → (value_at t v ≡ 0) ⊎ (v ∈ names)

-- a table with room for the variables, none of which has a value
pub record Ready (vars : ℕ) (t : List ℕ) : Type 0 where
  pub small : vars ≤ 4095
  pub long : 8192 ≤ length t
  pub unset : Unset t

-- the images of literals of the variables 1 to vars are such literals, or constants
abbrev pub Inward : ℕ → List ℕ → Type 0
Inward vars t = (l : ℕ) → 2 ≤ l → l ≤ 2 * vars + 1 → image_of t l ≤ 2 * vars + 1

-- the images that the table holds are those of the witness s
abbrev pub Images : List ℕ → Witness → Type 0
Images t s = (l : ℕ) → 2 ≤ l → l < 8192 → image_of t l ≡ image s l

-- r is the answer to the question whether P holds
pub record Decides (r : Bool) (P : Type 0) : Type 0 where
  pub yes : r ≡ true → P
  pub no : r ≡ false → ¬ P
