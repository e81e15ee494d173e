-- `onward` is the number at which to go on.
use mathlib.Core.Path.{◌∙◌}
use native.Mathlib.Omega.{arith}
use Rattle.lookup.proofs.Clause.{onward_live, onward_further}
use Rattle.lookup.proofs.onward.Goals as goal

pub returns-in-Some : goal.returns-in-Some
returns-in-Some c = c.max.ensures ∙ onward_further _ _ _ (c.in-Some.ensures.lookup.4 (omega arith) 0) c.if-w-lt-LIVE.true

pub returns-in_default : goal.returns-in_default
returns-in_default c = onward_live _ _ _ (c.in-Some.ensures.lookup.4 (omega arith) 0) c.if-w-lt-LIVE.false

pub returns-in_default-2 : goal.returns-in_default-2
returns-in_default-2 c =
    omega (arith, onward_further c.args.words.now c.args.n 0 (rw c.in_default.is at (c.get.ensures.lookup.4 (omega arith) 0)) (omega arith))
