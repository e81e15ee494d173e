-- `answers::answer` meets its contract.
-- Assumes nothing.
use Rattle.answers.proofs.Files.{cleared}
use Rattle.answers.proofs.answer.Goals as goal

pub judge_files-verdict-requires : goal.judge_files-verdict-requires
judge_files-verdict-requires c = cleared _ _ _ _ c.requires.0 c.requires.1 c.clear.ensures.words c.clear.ensures.bytes

-- the slices keep their lengths, and are zeroed again
pub returns-clause-words : goal.returns-clause-words
returns-clause-words c = rw (c.judge_files-verdict.auto.words, c.clear.auto.words, c.requires.0) at c.clear-2.ensures.words

pub returns-clause-bytes : goal.returns-clause-bytes
returns-clause-bytes c = rw (c.judge_files-verdict.auto.t, c.clear.auto.t, c.requires.1) at c.clear-2.ensures.bytes
