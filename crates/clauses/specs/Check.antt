-- What the checks of one clause's codes say, and the marks that they make in the table of the variables.
use Rattle.std.specs.Prelude.{ℕ, ◌+◌, ◌*◌, ◌/◌, ◌<◌, ◌≡◌, List, [], ◌∷◌, Option, Some, None, IfSome, map, length, take}
use Rattle.paper.specs.declared.Reason.{Reason}
use Rattle.paper.specs.Atoms.{Clause}
use Rattle.paper.specs.Files.{Read, ok, bad, codes}
use Rattle.paper.specs.Refusals.{no_two}
use Rattle.table.specs.Table.{set_value}
use Rattle.loading.specs.Loading.{Among}

-- the variables of a clause's codes
abbrev pub variables : Clause → List ℕ
variables C = map (λ l. l / 2) C

-- what the paper says, for a reason, of codes from a place on, by the first of them that fails its test
abbrev pub place_said : Reason → ℕ → Option ℕ → Read (Unit {0})
place_said why p None = ok tt
place_said why p (Some k) = bad why (p + 2 * k)

-- variables marked one after the other
unfoldable pub marked : List ℕ → List ℕ → List ℕ
marked t [] = t
marked t (v ∷ vs) = marked (set_value t v 1) vs

-- the codes before the one found; all of them where there is none
abbrev pub up_to : Option ℕ → Clause → Clause
up_to None C = C
up_to (Some k) C = take k C

-- A look for a variable that stands twice ended with r: what the paper says, and the table u that it left of t, where the
-- variables before the code found are marked, and only variables of the codes have a value.
pub record Looked (bs : List ℕ) (t u : List ℕ) (r : Option ℕ) : Type 0 where
  pub said : (why : Reason) (p : ℕ) → no_two why [] 2 p (variables (codes bs)) ≡ place_said why p r
  pub within : IfSome r (λ k. k < length (codes bs))
  pub table : u ≡ marked t (variables (up_to r (codes bs)))
  pub marks : Among t u (variables (codes bs))
