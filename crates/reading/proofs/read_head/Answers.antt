-- `reading::read_head` meets its contract. Assumes nothing.
use Prim.Native.Nat.{◌<◌}
use mathlib.Core.Logic.{◌⊎◌, inl, inr}
use native.Mathlib.Omega.{arith}
use Rattle.std.proofs.lemmas.Result.{err_from_is_err_and}
use Rattle.reading.proofs.HeadRead.{head_wrong, head_over, head_taken}
use Rattle.reading.proofs.read_head.Goals as goal

pub returns-in_err-head : goal.returns-in_err-head
returns-in_err-head c =
    let p = err_from_is_err_and c.from_residual.result c.from_residual.ensures.1 in
    rw (p.1, p.2) (head_wrong _ _ c.in_err-head.ensures)

pub returns-then-vars-gt4095 : goal.returns-then-vars-gt4095
returns-then-vars-gt4095 c =
    let over : (4095 < c.pair_at-vars.result) ⊎ (16383 < c.pair_at-clauses.result) =
    elim c.then-vars-gt4095.either [ inl h ↦ inl (omega arith) | inr h ↦ inr (omega arith) ] in
    head_over _ _ c.in_ok-head.ensures _ _ c.pair_at-vars.ensures.0 c.pair_at-clauses.ensures.0 over

pub returns : goal.returns
returns c = head_taken _ _ c.in_ok-head.ensures _ _ c.pair_at-vars.ensures.0 c.pair_at-clauses.ensures.0 (omega arith) (omega arith)
