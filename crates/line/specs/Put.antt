-- A text that was put into a buffer.
use Rattle.std.specs.Prelude.{ℕ, ◌+◌, ◌-◌, ◌≤◌, ◌≡◌, List, ◌++◌, length, replicate}
use Rattle.std.proofs.lemmas.List.Edits.{sets}
use Rattle.line.specs.declared.Line.{Line}

-- The text stands in out from the place at on, the place r is past it, and the rest of out is as it was in old.
abbrev pub Put : List ℕ → ℕ → List ℕ → List ℕ → ℕ → Type 0
Put old at text out r = (r ≡ at + length text) × (out ≡ sets old at text)

-- A line holds a text, and zeros behind it.
pub record Holds (l : Line) (text : List ℕ) : Type 0 where
  pub size : l.size ≡ length text
  pub fits : l.size ≤ 80
  pub room : 80 ≡ length l.bytes
  pub bytes : l.bytes ≡ text ++ replicate (80 - l.size) 0
