-- Two results that a contract allows for one input are equal: the numbers told, and the work memory that it leaves.
-- Assumes nothing.
use mathlib.Core.Path.{◌≡◌, sym, ap, ◌∙◌}
use Rattle.paper.specs.declared.Verdict.{Verdict}
use Rattle.paper.specs.Answers.{verdict_numbers, memory_after}
use Rattle.paper.proofs.Answering.{answer_once}
use Rattle.checker_c.specs.Told.{listed}
use Rattle.checker_c.proofs.boxcarousel_check.Reads as boxcarousel_check

pub boxcarousel_check_once : (κs : _) (a : _) (r r' : _) (s s' : _) → boxcarousel_check.Post κs a r s → boxcarousel_check.Post κs a r' s'
    → (s.1.1.0.now ≡ s'.1.1.0.now) × (s.1.1.1.0.now ≡ s'.1.1.1.0.now) × (s.1.1.1.1.0.now ≡ s'.1.1.1.1.0.now)
boxcarousel_check_once κs a r r' s s' p q =
    let e = answer_once _ _ _ _ p.verdict q.verdict p.right q.right in (
      p.words_left ∙ ap (λ (v : Verdict). memory_after 16384 v a.1.1.0.now) e ∙ sym q.words_left,
      p.bytes_left ∙ ap (λ (v : Verdict). memory_after 8192 v a.1.1.1.0.now) e ∙ sym q.bytes_left,
      p.numbers ∙ ap (λ (v : Verdict). listed (verdict_numbers v)) e ∙ sym q.numbers,
    )
