-- `checker::check` meets its contract.
-- Assumes nothing.
use Rattle.std.proofs.Common.{arith, length-take-le}
use mathlib.Core.Logic.{inl, inr}
use Rattle.paper.specs.Answers.{work_short}
use Rattle.checker.proofs.Memory.{as_at_entry, zeroed}
use Rattle.checker.proofs.check.Goals as goal

pub returns-then-words-lt16384-clause-answer : goal.returns-then-words-lt16384-clause-answer
returns-then-words-lt16384-clause-answer c =
    rw c.refused.ensures (work_short (elim c.then-words-lt16384.either [ inl h ↦ inl h | inr h ↦ inr h.1 ]))

pub returns-then-words-lt16384-clause-words : goal.returns-then-words-lt16384-clause-words
returns-then-words-lt16384-clause-words c = as_at_entry 16384 _ c.args.words.now c.refused.ensures

pub returns-then-words-lt16384-clause-bytes : goal.returns-then-words-lt16384-clause-bytes
returns-then-words-lt16384-clause-bytes c = as_at_entry 8192 _ c.args.bytes.now c.refused.ensures

pub answer-requires : goal.answer-requires
answer-requires c = (length-take-le 16384 c.args.words.now (omega arith), length-take-le 8192 c.args.bytes.now (omega arith))

pub returns-clause-words : goal.returns-clause-words
returns-clause-words c = zeroed 16384 c.args.words.now _ c.answer.ensures.answer c.answer.ensures.words

pub returns-clause-bytes : goal.returns-clause-bytes
returns-clause-bytes c = zeroed 8192 c.args.bytes.now _ c.answer.ensures.answer c.answer.ensures.bytes
