-- Two results that a contract allows for one input are equal.
-- Assumes nothing.
use mathlib.Core.Path.{◌≡◌, subst}
use Rattle.paper.specs.declared.Verdict.{Verdict}
use Rattle.paper.specs.Line.{line}
use Rattle.paper.proofs.Answering as answering
use Rattle.line.specs.declared.Line.{Line}
use Rattle.line.specs.Put.{Holds}
use Rattle.line.proofs.Once.{holds_once}
use Rattle.cli.proofs.answer.Reads as answer

pub answer_once : (κs : _) (a : _) (r r' : Line) (s s' : _) → answer.Post κs a r s → answer.Post κs a r' s' → r ≡ r'
answer_once κs a r r' s s' p q =
    let e = answering.answer_once 16384 8192 _ _ q.verdict p.verdict q.right p.right in
    holds_once (line p.verdict) r r' p.holds (subst (λ (v : Verdict). Holds r' (line v)) e q.holds)
