-- `pair_at` is the two bytes at a place.
use borrow.Author.Rules.{rules}
use Rattle.paper.specs.Files.{two}
use Rattle.field.proofs.pair_at.Goals as goal

pub returns : goal.returns
unfolding two
returns c = search rules
