-- `Codes::next_back` meets its contract. Assumes nothing.
use native.Mathlib.Omega.{arith}
use Rattle.codes.proofs.First.{no_code, last_code, fewer_before}
use Rattle.codes.proofs.CodesDoubleEndedIterator.next_back.Goals as goal

pub returns-then-count-eq0-clause-steps : goal.returns-then-count-eq0-clause-steps
returns-then-count-eq0-clause-steps c = let e = no_code _ (omega (arith, c.if-count-eq0.true)) in (e, e)

pub returns-clause-steps : goal.returns-clause-steps
returns-clause-steps c = last_code _ c.if-count-eq0.false _ c.pair_at.ensures.0

pub returns-clause-goes : goal.returns-clause-goes
returns-clause-goes c = record { on = λ _. (tt, tt, fewer_before _ c.if-count-eq0.false); keeps = tt; rests = λ _. tt }
