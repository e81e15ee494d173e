-- `remove` clears the number, and lowers the words right below it.
use Prim.Native.Nat.{◌+◌}
use native.Mathlib.Omega.{arith}
use Rattle.lookup.specs.Clause.{cleared}
use Rattle.lookup.proofs.Live.{onward_low}
use Rattle.lookup.proofs.remove.Goals as goal

pub overflow_cast-later : goal.overflow_cast-later
overflow_cast-later c =
    let low = onward_low c.args.words.now (c.args.n + 1) (omega (arith, c.requires.1)) in
    record { fits = omega (arith, low, c.onward-later.ensures) }

pub returns : goal.returns
unfolding cleared
returns c = rw (c.lower.ensures, c.onward-later.ensures)
