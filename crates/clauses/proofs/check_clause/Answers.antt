-- `clauses::check_clause` meets its contract.
-- Assumes nothing.
use Rattle.clauses.proofs.Check.{range_fault, twice_fault, no_fault, in_range_small}
use Rattle.clauses.proofs.check_clause.Goals as goal

-- A code out of range is the answer,
-- also where a variable stands twice.
pub returns-in-Some-clause-said : goal.returns-in-Some-clause-said
returns-in-Some-clause-said c = range_fault c.args.vars _ _ c.args.twice _ _ c.in-Some.ensures.first

-- Where none is, the codes fit the table,
-- and the first variable that stands twice is the answer.
pub variable_twice-requires : goal.variable_twice-requires
variable_twice-requires c = (in_range_small c.args.vars _ c.in_default.ensures.first c.requires.0, c.requires.1)

pub returns-in-Some-variable_twice-clause-said : goal.returns-in-Some-variable_twice-clause-said
returns-in-Some-variable_twice-clause-said c =
    twice_fault c.args.vars _ c.args.range _ _ c.in_default.ensures.first _ (c.in-Some-variable_twice.ensures.said c.args.twice c.args.part.start)

pub returns-clause-said : goal.returns-clause-said
returns-clause-said c =
    no_fault c.args.vars _ c.args.range _ _ c.in_default.ensures.first (c.in_default-variable_twice.ensures.said c.args.twice c.args.part.start)
