-- The three demands, one after the other, and `demands`: that what `check` ensures gives them. A call has a formula and a proof, the two
-- work slices at entry, its answer, and the two work slices at exit.
-- Assumes nothing.
use Prim.Native.Nat.{ℕ, ◌≤◌}
use mathlib.Core.Path.{◌≡◌, ◌∙◌, subst}
use mathlib.Core.Logic.{◌≢◌, inl, inr}
use mathlib.Core.List.{List, ◌++◌}
use native.Mathlib.Omega.{arith}
use lib.ListN.{length, drop, replicate}
use Rattle.paper.specs.declared.Verdict.{Verdict}
use Rattle.paper.specs.declared.Verdict.TheVariants.{Refuted}
use Rattle.paper.specs.Atoms.{Formula}
use Rattle.paper.specs.Files.{File, ok}
use Rattle.paper.specs.Stowages.{Stowage, Meets}
use Rattle.paper.specs.Refusals.{read_formula}
use Rattle.paper.specs.Answers.{verdict_numbers, Within, Steps, Answer, work_short, file_long, formula_bad, proof_judged, memory_after, Carried}
use Rattle.paper.proofs.Reasons.{Listed, answer_listed}
use Rattle.paper.proofs.Answering.{answer_once}
use Rattle.paper.proofs.Demand3.{steps_taken, carries, carried_counted, steps_carry, refuted_unmet}
use Rattle.checker.proofs.Memory.{left_alone, left_zero}
use Rattle.checker.proofs.check.Reads as check_reads

-- the formula is read, and the call gets as far as the proof
abbrev pub Reads : File → File → List ℕ → List ℕ → ℕ → Formula → ℕ → Type 0
Reads formula proof words bytes vars F next = Within (length words) (length bytes) formula proof × (read_formula formula ≡ ok (vars, F, next))

-- what the answer says of the steps, where the formula is read
steps_of : {words bytes : ℕ} {formula proof : File} {r : Verdict} {vars : ℕ} {F : Formula} {next : ℕ} → Answer words bytes formula proof r
    → Within words bytes formula proof × (read_formula formula ≡ ok (vars, F, next)) → Steps proof vars F next 0 0 r
steps_of (work_short (inl h)) (w, e) = absurd (omega (arith, w.words_enough))
steps_of (work_short (inr h)) (w, e) = absurd (omega (arith, w.bytes_enough))
steps_of (file_long a b (inl h)) (w, e) = absurd (omega (arith, w.formula_short))
steps_of (file_long a b (inr h)) (w, e) = absurd (omega (arith, w.proof_short))
steps_of (formula_bad a b) (w, e) = let z : ◌≡◌ {A = ℕ} 0 1 = cc in absurd (omega arith)
steps_of {proof} {r = r} {vars} {F} {next} (proof_judged {vars = vars'} {F = F'} {next = next'} a b x) (w, e) =
    let q : ◌≡◌ {A = ℕ × Formula × ℕ} (vars', F', next') (vars, F, next) = cc in
    subst (λ (z : ℕ × Formula × ℕ). Steps proof z.0 z.1 z.2 0 0 r) q x

module _ (formula proof : File) (words bytes : List ℕ) (r : Verdict) (words' bytes' : List ℕ)
    (answer : Answer (length words) (length bytes) formula proof r)
    (left_words : words' ≡ memory_after 16384 r words)
    (left_bytes : bytes' ≡ memory_after 8192 r bytes) where
  -- 1. "Every formula and proof, however damaged, gets one of the listed answers; .. the work memory ends as the paper says." The files
  -- are lent to be read only.
  pub record DemandOne : Type 0 where
    pub one_of_the_list : Listed r
    pub untouched : (verdict_numbers r).reason ≡ 1 → (words' ≡ words) × (bytes' ≡ bytes)
    pub zeroed : (verdict_numbers r).reason ≢ 1 → (words' ≡ replicate 16384 0 ++ drop 16384 words) × (bytes' ≡ replicate 8192 0 ++ drop 8192 bytes)

  pub demand_1 : DemandOne
  demand_1 =
      record {
        one_of_the_list = answer_listed answer;
        untouched = λ e. (left_words ∙ left_alone 16384 r words e, left_bytes ∙ left_alone 8192 r bytes e);
        zeroed = λ ne. (left_words ∙ left_zero 16384 r words ne, left_bytes ∙ left_zero 8192 r bytes ne);
      }

  -- 2. "The answer is exactly the one that the published definitions give, at the first step that breaks them, ..; a step that meets them
  -- is always taken."
  pub record DemandTwo : Type 0 where
    pub exactly : (v : Verdict) → Answer (length words) (length bytes) formula proof v → v ≡ r
    pub always_taken : (vars : ℕ) (F : Formula) (next : ℕ) → Reads formula proof words bytes vars F next
        → (k : ℕ) (I J : Stowage) (G : Formula) → Carried proof vars k F next 0 I G J → k ≤ steps_taken r

  pub demand_2 : DemandTwo
  demand_2 =
      record {
        exactly = λ v a. answer_once (length words) (length bytes) formula proof v r a answer;
        always_taken = taken;
      }
    where
      taken : (vars : ℕ) (F : Formula) (next : ℕ) → Reads formula proof words bytes vars F next
          → (k : ℕ) (I J : Stowage) (G : Formula) → Carried proof vars k F next 0 I G J → k ≤ steps_taken r
      taken vars F next read k I J G c = let h = carried_counted c 0 r (steps_of answer read) in omega arith

  -- 3. "Any stowage that meets the formula, moved by the witness at each SR or WSR step whose new clause fails, meets every clause then
  -- live. So "refuted" is only said of a formula that no stowage meets."
  pub record DemandThree : Type 0 where
    pub carried : (vars : ℕ) (F : Formula) (next : ℕ) → Reads formula proof words bytes vars F next → (I : Stowage) → Meets I F
        → (k : ℕ) → k ≤ steps_taken r → (G : Formula) × (J : Stowage) × Carried proof vars k F next 0 I G J × Meets J G
    pub refuted : (n : ℕ) → r ≡ Refuted n
        → (vars : ℕ) × (F : Formula) × (next : ℕ) × (read_formula formula ≡ ok (vars, F, next)) × ((I : Stowage) → ¬ (Meets I F))

  pub demand_3 : DemandThree
  demand_3 = record { carried = met; refuted = unmet }
    where
      met : (vars : ℕ) (F : Formula) (next : ℕ) → Reads formula proof words bytes vars F next → (I : Stowage) → Meets I F
          → (k : ℕ) → k ≤ steps_taken r → (G : Formula) × (J : Stowage) × Carried proof vars k F next 0 I G J × Meets J G
      met vars F next read I m k h =
          let c = steps_carry (steps_of answer read) k (omega arith) I in
          (c.0, c.1, c.2, carries c.2 m)

      unmet : (n : ℕ) → r ≡ Refuted n
          → (vars : ℕ) × (F : Formula) × (next : ℕ) × (read_formula formula ≡ ok (vars, F, next)) × ((I : Stowage) → ¬ (Meets I F))
      unmet n e = refuted_unmet (length words) (length bytes) formula proof n (rw e at answer)

-- What `check` ensures, as its source states it, gives the three demands.
pub demands : (κs : _) (a : _) (r : Verdict) (s : _) (c : check_reads.Post κs a r s)
    → DemandOne _ _ _ _ r _ _ c.0 c.1.0 c.1.1 × DemandTwo _ _ _ _ r _ _ c.0 c.1.0 c.1.1 × DemandThree _ _ _ _ r _ _ c.0 c.1.0 c.1.1
demands κs a r s c =
    (demand_1 _ _ _ _ r _ _ c.0 c.1.0 c.1.1, demand_2 _ _ _ _ r _ _ c.0 c.1.0 c.1.1, demand_3 _ _ _ _ r _ _ c.0 c.1.0 c.1.1)
