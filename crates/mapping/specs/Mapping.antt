-- The mappings of a witness, written into the table of the variables and cleared from it.
use Rattle.std.specs.Prelude.{ℕ, ◌+◌, ◌*◌, ◌≤◌, ◌<◌, ◌≡◌, List, [], ◌∷◌, map, get_or, Result, Ok, Err}
use Rattle.paper.specs.declared.Reason.{Reason}
use Rattle.paper.specs.Atoms.{◌∈◌, Witness}
use Rattle.paper.specs.Files.{Read, ok, bad}
use Rattle.table.specs.Table.{set_image, clear_image}

-- the variables that a witness lists
abbrev pub variables : Witness → List ℕ
variables s = map (λ (m : ℕ × ℕ). m.0) s

-- variables and codes that the table has room for
abbrev pub Fitting : Witness → Type 0
Fitting s = (v a : ℕ) → ◌∈◌ {A = ℕ × ℕ} (v, a) s → (1 ≤ v) × ((v < 4096) × (a < 8192))

-- no variable is mapped, and nothing is left of an image
abbrev pub Bare : List ℕ → Type 0
Bare t = (v : ℕ) → (get_or t (v * 2) 0 < 4) × (get_or t (v * 2 + 1) 0 ≡ 0)

-- the mappings written one after the other
unfoldable pub loaded : List ℕ → Witness → List ℕ
loaded t [] = t
loaded t (m ∷ s) = loaded (set_image t m.0 m.1) s

-- the images of the listed variables cleared one after the other
unfoldable pub unloaded : List ℕ → Witness → List ℕ
unloaded t [] = t
unloaded t (m ∷ s) = unloaded (clear_image t m.0) s

-- what the paper says of a variable mapped twice, by the code's answer: the place is counted from that of the first pair
unfoldable pub said_by : Reason → ℕ → Result (Unit {0}) ℕ → Read (Unit {0})
said_by why p (Ok u) = ok u
said_by why p (Err i) = bad why (p + i)

-- the table after the code's answer: a witness that maps a variable twice leaves it as it was
unfoldable pub table_after : Result (Unit {0}) ℕ → List ℕ → Witness → List ℕ
table_after (Ok u) t s = loaded t s
table_after (Err i) t s = t
