-- What the work memory holds after the call, case by case.
-- Assumes nothing.
use Prim.Native.Nat.{ℕ, ◌≤◌}
use mathlib.Core.Path.{◌≡◌, sym, ap, ◌∙◌}
use mathlib.Core.Logic.{◌≢◌}
use mathlib.Core.List.{List, ◌++◌}
use native.Mathlib.Omega.{arith}
use lib.ListN.{drop, replicate}
use Rattle.paper.specs.declared.Reason.TheVariants.{WorkShort}
use Rattle.paper.specs.declared.Verdict.{Verdict}
use Rattle.paper.specs.Files.{File}
use Rattle.paper.specs.Answers.{Answer, verdict_numbers, refused, memory_after}
use Rattle.paper.proofs.Lists.{eqb_same, eqb_other}
use Rattle.paper.proofs.Reasons.{not_reason_1}

-- under reason 1 it is as at entry
pub left_alone : (n : ℕ) (v : Verdict) (m : List ℕ) → (verdict_numbers v).reason ≡ 1 → memory_after n v m ≡ m
unfolding memory_after
left_alone n v m e = rw (eqb_same (verdict_numbers v).reason 1 e, memory_after)

-- otherwise its first n are zero, and the rest is as at entry
pub left_zero : (n : ℕ) (v : Verdict) (m : List ℕ) → (verdict_numbers v).reason ≢ 1 → memory_after n v m ≡ replicate n 0 ++ drop n m
unfolding memory_after
left_zero n v m ne = rw (eqb_other (verdict_numbers v).reason 1 ne, memory_after)

pub as_at_entry : (n : ℕ) (v : Verdict) (m : List ℕ) → v ≡ refused WorkShort 0 0 → m ≡ memory_after n v m
as_at_entry n v m e = sym (left_alone n v m (ap (λ (x : Verdict). (verdict_numbers x).reason) e))

pub zeroed : {formula proof : File} {v : Verdict} (n : ℕ) (m part : List ℕ)
    → ((w b : ℕ) → 16384 ≤ w → 8192 ≤ b → Answer w b formula proof v) → part ≡ replicate n 0 → part ++ drop n m ≡ memory_after n v m
zeroed {v} n m part answer e =
    let w : 16384 ≤ 16384 = omega arith in
    let b : 8192 ≤ 8192 = omega arith in
    ap (λ (x : List ℕ). x ++ drop n m) e ∙ sym (left_zero n v m (not_reason_1 w b (answer _ _ w b)))
