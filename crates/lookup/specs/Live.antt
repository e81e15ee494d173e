-- The live clauses that the clause table holds, by rising number.
use Rattle.std.specs.Prelude.{ℕ, suc, ◌≡◌, Bool, true, false, List, [], ◌∷◌, leb}
use Rattle.paper.specs.Atoms.{Formula, Live}
use Rattle.paper.specs.Files.{File, codes}
use Rattle.lookup.specs.Clause.{clause_bytes}

-- those of the words from number k on: "Equal clauses under two numbers are two clauses."
unfoldable pub live_from : File → File → ℕ → List ℕ → Formula
live_from f p k [] = []
live_from f p k (w ∷ ws) =
    elim (leb 1048576 w) [
      | true ↦ (k, codes (clause_bytes f p w)) ∷ live_from f p (suc k) ws
      | false ↦ live_from f p (suc k) ws
    ]

unfoldable pub live : File → File → List ℕ → Formula
live f p ws = live_from f p 0 ws

-- "Refuted: .. an empty clause is live after the last. Held: .. none is."
pub record EmptyLive (f p : File) (ws : List ℕ) (r : Bool) : Type 0 where
  pub some : r ≡ true → (n : ℕ) × Live (live f p ws) n []
  pub none : r ≡ false → (n : ℕ) → ¬ (Live (live f p ws) n [])
