-- `table::clear_values` meets its contract: before variable v, those below v are unset. Assumes nothing.
use mathlib.Core.Path.{◌≡◌}
use Rattle.table.specs.Table.{clear_to}
use Rattle.table.proofs.clear_values.Given as goal

abbrev pub invariant-loop-v : goal.invariant-loop-v
invariant-loop-v l = l.t ≡ clear_to l.v l.fn.t
