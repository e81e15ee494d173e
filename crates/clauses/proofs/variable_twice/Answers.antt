-- `clauses::variable_twice` meets its contract. Assumes nothing.
use mathlib.Core.Path.{sym, ◌∙◌}
use native.Mathlib.Omega.{arith}
use Rattle.std.proofs.lemmas.List.{length-take-le}
use Rattle.codes.proofs.Room.{codes_room}
use Rattle.clauses.proofs.Codes.{codes_before, codes_take}
use Rattle.clauses.proofs.Marks.{marks_cleared}
use Rattle.clauses.proofs.variable_twice.Goals.{in-Some, in-None}
use Rattle.clauses.proofs.variable_twice.Goals as goal

pub slice_bounds-marked-end : goal.slice_bounds-marked-end
slice_bounds-marked-end c = sym (length-take-le _ c.args.part.now (omega (arith, c.in-Some.ensures.within, codes_room c.args.part.now)))

pub unset_clause-requires : goal.unset_clause-requires
unset_clause-requires c = (
  omega (arith, c.first_twice-found.auto.t),
  elim c.match-found.branch [
    | in-Some w ↦ rw w.marked-is (λ l m. c.requires.0 l (codes_before _ _ l m))
    | in-None w ↦ rw w.marked-is c.requires.0
  ],
)

pub returns-clause-table : goal.returns-clause-table
returns-clause-table c =
    c.unset_clause.ensures
    ∙ elim c.match-found.branch [
      | in-Some w ↦ rw (w.marked-is, w.in-Some.ensures.table, ← codes_take w.in-Some.k c.args.part.now) (marks_cleared _ _ c.requires.1.1)
      | in-None w ↦ rw (w.marked-is, w.in-None.ensures.table) (marks_cleared _ _ c.requires.1.1)
    ]
