-- `Codes::next` meets its contract. Assumes nothing.
use native.Mathlib.Omega.{arith}
use Rattle.codes.proofs.First.{no_code, first_code, fewer_codes}
use Rattle.codes.proofs.CodesIterator.next.Goals as goal

pub returns-then-bytes-lt2-clause-steps : goal.returns-then-bytes-lt2-clause-steps
returns-then-bytes-lt2-clause-steps c = let e = no_code _ (omega (arith, c.if-bytes-lt2.true)) in (e, e)

pub returns-clause-steps : goal.returns-clause-steps
returns-clause-steps c = first_code _ _ (omega (arith, c.if-bytes-lt2.false)) c.pair_at.ensures.0

pub returns-clause-goes : goal.returns-clause-goes
returns-clause-goes c = record { on = λ _. (tt, tt, fewer_codes _ (omega (arith, c.if-bytes-lt2.false))); keeps = tt; rests = λ _. tt }
