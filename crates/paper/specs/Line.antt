-- Paper, "Verdicts and reasons": the line that the check program prints, as bytes.
use Rattle.std.specs.Prelude.{ℕ, zero, suc, ◌+◌, ◌/◌, ◌%◌, true, false, List, [], ◌∷◌, ◌++◌, ltb}
use Rattle.paper.specs.declared.Verdict.{Verdict}
use Rattle.paper.specs.declared.Verdict.TheVariants.{Refuted, Held, Refused}
use Rattle.paper.specs.Answers.{verdict_numbers}

-- a number in decimal digits, of which there are at most as many as the first argument says
unfoldable pub digits : ℕ → ℕ → List ℕ
digits zero n = []
digits (suc k) n = elim (ltb n 10) [ true ↦ (48 + n) ∷ [] | false ↦ digits k (n / 10) ++ ((48 + n % 10) ∷ []) ]

-- "verdict in small letters"
unfoldable pub word : Verdict → List ℕ
word (Refuted n) = 114 ∷ 101 ∷ 102 ∷ 117 ∷ 116 ∷ 101 ∷ 100 ∷ []
word (Held n) = 104 ∷ 101 ∷ 108 ∷ 100 ∷ []
word (Refused f) = 114 ∷ 101 ∷ 102 ∷ 117 ∷ 115 ∷ 101 ∷ 100 ∷ []

-- "one line of four fields with single spaces"; a number of 64 bits has at most 20 digits
unfoldable pub line : Verdict → List ℕ
line v =
    word v ++ (32 ∷ digits 20 (verdict_numbers v).reason) ++ (32 ∷ digits 20 (verdict_numbers v).step) ++ (32 ∷ digits 20 (verdict_numbers v).place) ++ (10 ∷ [])
