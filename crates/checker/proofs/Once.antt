-- Two results that a contract allows for one input, with the work memory that it leaves, are equal.
-- Assumes nothing.
use mathlib.Core.Path.{◌≡◌, sym, ap, ◌∙◌}
use Rattle.paper.specs.declared.Verdict.{Verdict}
use Rattle.paper.specs.Answers.{memory_after}
use Rattle.paper.proofs.Answering.{answer_once}
use Rattle.checker.proofs.check.Reads as check

pub check_once : (κs : _) (a : _) (r r' : Verdict) (s s' : _) → check.Post κs a r s → check.Post κs a r' s'
    → (r ≡ r') × (s.1.1.0.now ≡ s'.1.1.0.now) × (s.1.1.1.0.now ≡ s'.1.1.1.0.now)
check_once κs a r r' s s' p q =
    let e = answer_once _ _ _ _ r r' p.0 q.0 in (
      e,
      p.1.0 ∙ ap (λ (v : Verdict). memory_after 16384 v a.1.1.0.now) e ∙ sym q.1.0,
      p.1.1 ∙ ap (λ (v : Verdict). memory_after 8192 v a.1.1.1.0.now) e ∙ sym q.1.1,
    )
