-- What a caller in C or Rust is told.
use Rattle.std.specs.Prelude.{ℕ, ◌≡◌, List, [], ◌∷◌, length}
use Rattle.paper.specs.declared.Verdict.{Verdict}
use Rattle.paper.specs.declared.Numbers.{Numbers}
use Rattle.paper.specs.Files.{File}
use Rattle.paper.specs.Answers.{verdict_numbers, Answer, memory_after}

-- the four numbers in their order
abbrev pub listed : Numbers → List ℕ
listed n = n.verdict ∷ n.reason ∷ n.step ∷ n.place ∷ []

-- the numbers of the answer to a call, and the work memory after it
pub record Told (formula proof : File) (words words_after bytes bytes_after out : List ℕ) : Type 0 where
  pub verdict : Verdict
  pub right : Answer (length words) (length bytes) formula proof verdict
  pub words_left : words_after ≡ memory_after 16384 verdict words
  pub bytes_left : bytes_after ≡ memory_after 8192 verdict bytes
  pub numbers : out ≡ listed (verdict_numbers verdict)
