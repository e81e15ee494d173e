-- `Mappings::next` meets its contract. Assumes nothing.
use native.Mathlib.Omega.{arith}
use Rattle.codes.proofs.First.{no_mapping, first_mapping, fewer_mappings}
use Rattle.codes.proofs.MappingsIterator.next.Goals as goal

pub returns-then-bytes-lt4-clause-steps : goal.returns-then-bytes-lt4-clause-steps
returns-then-bytes-lt4-clause-steps c = let e = no_mapping _ (omega (arith, c.if-bytes-lt4.true)) in (e, e)

pub returns-clause-steps : goal.returns-clause-steps
returns-clause-steps c = first_mapping _ _ _ (omega (arith, c.if-bytes-lt4.false)) c.pair_at.ensures.0 c.pair_at-2.ensures.0

pub returns-clause-goes : goal.returns-clause-goes
returns-clause-goes c = record { on = λ _. (tt, tt, fewer_mappings _ (omega (arith, c.if-bytes-lt4.false))); keeps = tt; rests = λ _. tt }
