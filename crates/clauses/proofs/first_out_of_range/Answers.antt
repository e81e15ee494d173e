-- `clauses::first_out_of_range` meets its contract. Assumes nothing.
use Prim.Native.Nat.{◌+◌, ◌*◌}
use mathlib.Core.Bool.{not}
use mathlib.Core.Path.{ap}
use mathlib.Core.Logic.{inl}
use native.Mathlib.Omega.{arith}
use borrow.Author.Tests.{tests}
use Rattle.std.proofs.lemmas.Iterator.Consumers.{YieldsList-from_first}
use Rattle.std.proofs.lemmas.Iterator.Search.{position_from_yields_List}
use Rattle.paper.specs.Refusals.{between}
use Rattle.paper.specs.Files.{codes}
use Rattle.codes.proofs.Room.{codes_room}
use Rattle.clauses.proofs.first_out_of_range.Goals as goal

pub position-requires-clause-fits : goal.position-requires-clause-fits
position-requires-clause-fits c = inl (omega (arith, codes_room c.of.result.bytes.now))

pub returns-clause-first : goal.returns-clause-first
unfolding between
returns-clause-first c =
    position_from_yields_List
    (λ l. not (between 2 (2 * c.args.vars + 1) l))
    c.position.new.self _ c.position.result
    c.position.ensures.ran
    (YieldsList-from_first (λ x. x) (λ s. codes s.bytes.now) (codes c.args.part.now) (ap (λ b. codes b.now) c.of.ensures))
    (λ x b q k. grind (arith, tests))
