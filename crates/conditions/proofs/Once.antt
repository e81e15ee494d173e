-- Two results that a contract allows for one input, with the table that it leaves, are equal.
-- Assumes nothing.
use Rattle.std.specs.Prelude.{ℕ, Option, Some, None}
use mathlib.Core.Path.{◌≡◌, refl, sym, ap, ◌∙◌}
use mathlib.Core.Bool.{Bool}
use mathlib.Core.List.{List}
use Rattle.paper.specs.Atoms.{Clause, Formula, Witness}
use Rattle.paper.proofs.Judging.{same_lowest}
use Rattle.loading.proofs.Once.{decides_once}
use Rattle.loading.proofs.Witness.{some_witness}
use Rattle.conditions.specs.Asked.{Finds}
use Rattle.conditions.proofs.is_rup.Reads as is_rup
use Rattle.conditions.proofs.passes.Reads as passes
use Rattle.conditions.proofs.lowest_failing.Reads as lowest_failing

pub is_rup_once : (κs : _) (a : _) (r r' : Bool) (s s' : _) → is_rup.Post κs a r s → is_rup.Post κs a r' s'
    → (r ≡ r') × (s.1.1.1.0.now ≡ s'.1.1.1.0.now)
is_rup_once κs a r r' s s' p q = (decides_once r r' p.0 q.0, p.1 ∙ sym q.1)

pub passes_once : (κs : _) (a : _) (r r' : Bool) (s s' : _) → passes.Post κs a r s → passes.Post κs a r' s'
    → (r ≡ r') × (s.1.1.1.1.0.now ≡ s'.1.1.1.1.0.now)
passes_once κs a r r' s s' p q =
    let w = some_witness a.1.1.1.1.0.now in
    (decides_once r r' (p.0 w.0 w.1) (q.0 w.0 w.1), p.1 ∙ sym q.1)

-- a search finds one thing
finds_once : (F : Formula) (C : Clause) (s : Witness) (modulo : List ℕ) (r r' : Option ℕ) → Finds F C s modulo r → Finds F C s modulo r' → r ≡ r'
finds_once F C s modulo None None p q = refl
finds_once F C s modulo None (Some n) p q = absurd (q.fails (p n q.clause q.live q.unnamed))
finds_once F C s modulo (Some n) None p q = absurd (p.fails (q n p.clause p.live p.unnamed))
finds_once F C s modulo (Some n) (Some m) p q = ap Some (same_lowest F C s modulo n m p q)

pub lowest_failing_once : (κs : _) (a : _) (r r' : Option ℕ) (s s' : _) → lowest_failing.Post κs a r s → lowest_failing.Post κs a r' s'
    → (r ≡ r') × (s.1.1.1.1.0.now ≡ s'.1.1.1.1.0.now)
lowest_failing_once κs a r r' s s' p q =
    let w = some_witness a.1.1.1.1.0.now in
    (finds_once _ _ w.0 _ r r' (p.0 w.0 w.1) (q.0 w.0 w.1), p.1 ∙ sym q.1)
