-- `line::put` meets its contract. Assumes nothing.
use Prim.Native.Nat.{◌+◌, ◌-◌}
use mathlib.Core.Path.{◌≡◌, refl}
use native.Mathlib.Omega.{arith}
use lib.ListN.{length}
use lib.Seq.{sets-eq}
use Rattle.std.proofs.lemmas.List.{drop-drop, append_assoc}
use Rattle.line.proofs.put.Goals as goal

pub returns : goal.returns
returns c =
    let n : c.args.at + length c.args.text.now - c.args.at ≡ length c.args.text.now = omega arith in
    let e = sets-eq c.args.text.now c.args.out.now c.args.at (omega (arith, c.told-out)) in
    (refl, rw (c.copy_from_slice.ensures.after, n, e, drop-drop, append_assoc) refl)
