-- Two results that a contract allows for one input, with the work memory that it leaves, are equal.
-- Assumes nothing.
use mathlib.Core.Path.{◌≡◌, sym, ◌∙◌}
use native.Mathlib.Omega.{arith}
use Rattle.paper.specs.declared.Verdict.{Verdict}
use Rattle.paper.proofs.Answering as answering
use Rattle.answers.proofs.answer.Reads as answer

pub answer_once : (κs : _) (a : _) (r r' : Verdict) (s s' : _) → answer.Post κs a r s → answer.Post κs a r' s'
    → (r ≡ r') × (s.1.1.0.now ≡ s'.1.1.0.now) × (s.1.1.1.0.now ≡ s'.1.1.1.0.now)
answer_once κs a r r' s s' p q = (
  answering.answer_once 16384 8192 _ _ r r' (p.0 16384 8192 (omega arith) (omega arith)) (q.0 16384 8192 (omega arith) (omega arith)),
  p.1.0 ∙ sym q.1.0,
  p.1.1 ∙ sym q.1.1,
)
