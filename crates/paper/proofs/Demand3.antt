-- Demand 3 over the bytes of the two files, for any number of steps; and that "refuted" is only said of a formula that no stowage meets.
-- Assumes nothing.
use Prim.Native.Nat.{ℕ, zero, suc, ◌+◌, ◌-◌, ◌≤◌}
use mathlib.Core.Path.{◌≡◌, sym, subst}
use native.Mathlib.Omega.{arith}
use Rattle.paper.specs.declared.Verdict.{Verdict}
use Rattle.paper.specs.declared.Verdict.TheVariants.{Refuted, Held, Refused}
use Rattle.paper.specs.Atoms.{Formula}
use Rattle.paper.specs.Files.{File, ok, Step}
use Rattle.paper.specs.Stowages.{Stowage, Meets}
use Rattle.paper.specs.Refusals.{read_formula}
use Rattle.paper.specs.Answers.{taken, stops, Judged, rup, sr, wsr, deleted, Steps, refuted, held, unread, judged, goes_on, Answer, proof_judged, stowed, Carried, start, step}
use Rattle.paper.proofs.Judging.{judged_once}
use Rattle.paper.proofs.Answering.{same_read}
use Rattle.paper.proofs.Soundness.{rup_step_sound, delete_sound, empty_refutes}
use Rattle.paper.proofs.Moves.{wsr_sound, sr_sound}

-- one step
pub step_carries : {F : Formula} {next : ℕ} {G : Formula} {m : ℕ} {t : Step} → Judged F next t (taken G m) → (I : Stowage) → Meets I F → Meets (stowed t I) G
unfolding stowed
step_carries {F} {next} (rup {C} r) I meets = rup_step_sound I F C next r meets
step_carries {F} {next} (sr {C} {s} r) I meets = sr_sound I F C s next r meets
step_carries {F} {next} (wsr {C} {s} {modulo} r) I meets = wsr_sound I F C s modulo next r meets
step_carries {F} {next} (deleted {ns}) I meets = delete_sound I F ns meets

pub carries : {proof : File} {vars k : ℕ} {F G : Formula} {next at : ℕ} {I J : Stowage} → Carried proof vars k F next at I G J → Meets I F → Meets J G
carries start meets = meets
carries (step {I = I} a b j c) meets = carries c (step_carries j I meets)

-- DEMAND 3. A formula that is read, any proof, and any first k of its steps, all taken; any stowage that meets the formula. Moved by the
-- witness at each SR or WSR step whose new clause fails, it meets every clause then live.
pub demand_3 : (formula proof : File) (vars : ℕ) (F : Formula) (next : ℕ) → read_formula formula ≡ ok (vars, F, next) → (I : Stowage) → Meets I F
    → (k : ℕ) (G : Formula) (J : Stowage) → Carried proof vars k F next 0 I G J → Meets J G
demand_3 formula proof vars F next read I meets k G J c = carries c meets

-- It is not said of nothing: as many steps as the answer says were taken do carry every stowage.
unfoldable pub steps_taken : Verdict → ℕ
steps_taken (Refuted n) = n
steps_taken (Held n) = n
steps_taken (Refused f) = f.step - 1

pub steps_carry : {proof : File} {vars : ℕ} {F : Formula} {next done at : ℕ} {v : Verdict} → Steps proof vars F next done at v → (k : ℕ)
    → done + k ≤ steps_taken v → (I : Stowage) → (G : Formula) × (J : Stowage) × Carried proof vars k F next at I G J
unfolding steps_taken
steps_carry {F} x zero h I = (F, I, start)
steps_carry (refuted a b) (suc k) h I = absurd (omega arith)
steps_carry (held a b) (suc k) h I = absurd (omega arith)
steps_carry (unread a b) (suc k) h I = absurd (omega arith)
steps_carry (judged a b c) (suc k) h I = absurd (omega arith)
steps_carry (goes_on {t = t} a b j x) (suc k) h I =
    let r = steps_carry x k (omega arith) (stowed t I) in
    (r.0, r.1, step a b j r.2)

-- And only those are taken: k steps that meet their conditions are k steps that the answer counts.
done_counted : {proof : File} {vars : ℕ} {F : Formula} {next done at : ℕ} {v : Verdict} → Steps proof vars F next done at v → done ≤ steps_taken v
unfolding steps_taken
done_counted (refuted a b) = omega arith
done_counted (held a b) = omega arith
done_counted (unread a b) = omega arith
done_counted (judged a b c) = omega arith
done_counted (goes_on a b j x) = let h = done_counted x in omega arith

pub carried_counted : {proof : File} {vars k : ℕ} {F G : Formula} {next at : ℕ} {I J : Stowage} → Carried proof vars k F next at I G J
    → (done : ℕ) (v : Verdict) → Steps proof vars F next done at v → done + k ≤ steps_taken v
carried_counted start done v x = let h = done_counted x in omega arith
carried_counted (step a b j c) done v (refuted d e) = absurd (omega arith)
carried_counted (step a b j c) done v (held d e) = absurd (omega arith)
carried_counted (step a b j c) done v (unread d e) = let z : ◌≡◌ {A = ℕ} 0 1 = cc in absurd (omega arith)
carried_counted (step {F = F} {H = H} {next = next} {m = m} {t = t} a b j c) done v (judged {r = r} {p = p} d e i) =
    let q = judged_once F next t (taken H m) (stops r p) j (subst (λ (y : Step). Judged F next y (stops r p)) (sym (same_read b e).0) i) in
    let z : ◌≡◌ {A = ℕ} 0 1 = cc in absurd (omega arith)
carried_counted {proof} {vars} (step {F = F} {H = H} {next = next} {m = m} {later = later} {t = t} a b j c) done v (goes_on {G = G'} {m = m'} d e i x) =
    let same = same_read b e in
    let q = judged_once F next t (taken H m) (taken G' m') j (subst (λ (y : Step). Judged F next y (taken G' m')) (sym same.0) i) in
    let g : H ≡ G' = cc in
    let n : m ≡ m' = cc in
    let h = carried_counted c (suc done) v
    (subst (λ (z : Formula). Steps proof vars z m (suc done) later v) (sym g)
    (subst (λ (z : ℕ). Steps proof vars G' z (suc done) later v) (sym n)
    (subst (λ (z : ℕ). Steps proof vars G' m' (suc done) z v) (sym same.1) x))) in
    omega arith

-- no stowage meets what is refuted
abbrev Unmet : Formula → Verdict → Type 0
Unmet F (Refuted n) = (I : Stowage) → ¬ (Meets I F)
Unmet F (Held n) = Unit {0}
Unmet F (Refused f) = Unit {0}

steps_unmet : {proof : File} {vars : ℕ} {F : Formula} {next done at : ℕ} {v : Verdict} → Steps proof vars F next done at v → Unmet F v
steps_unmet {F} (refuted {n} a b) = λ I m. empty_refutes I F n b m
steps_unmet (held a b) = tt
steps_unmet (unread a b) = tt
steps_unmet (judged a b c) = tt
steps_unmet {F} {v} (goes_on {G} {t = t} a b j x) = back v (steps_unmet x)
  where
    back : (w : Verdict) → Unmet G w → Unmet F w
    back (Refuted n) u = λ I m. u (stowed t I) (step_carries j I m)
    back (Held n) u = tt
    back (Refused f) u = tt

-- "Refuted" is only said of a formula that is read and that no stowage meets.
pub refuted_unmet : (words bytes : ℕ) (formula proof : File) (n : ℕ) → Answer words bytes formula proof (Refuted n)
    → (vars : ℕ) × (F : Formula) × (next : ℕ) × (read_formula formula ≡ ok (vars, F, next)) × ((I : Stowage) → ¬ (Meets I F))
refuted_unmet words bytes formula proof n (proof_judged {vars} {F} {next} w e x) = (vars, F, next, e, steps_unmet x)
