-- A RUP, SR or WSR step judged by what the questions about its clause answer.
-- Assumes nothing.
use Prim.Native.Nat.{ℕ, ◌+◌, ◌*◌, ◌≤◌}
use mathlib.Core.Path.{◌≡◌}
use mathlib.Core.Bool.{Bool, true, false}
use mathlib.Core.List.{List}
use Rattle.std.specs.Prelude.{Some, None, Ok, Err}
use native.Mathlib.Omega.{arith}
use Rattle.paper.specs.declared.Reason.TheVariants.{NotRup, NotTrivialised, NotPassing}
use Rattle.paper.specs.Atoms.{◌∈◌, Witness}
use Rattle.paper.specs.Files.{codes}
use Rattle.paper.specs.Conditions.{RUP, Trivialises, Passes}
use Rattle.paper.specs.Refusals.{to_step}
use Rattle.paper.specs.Answers.{rup, not_rup, sr, not_trivialised, sr_lowest, wsr, wsr_lowest, wsr_new}
use Rattle.paper.specs.Valid.{Listed}
use Rattle.lookup.specs.declared.Clauses.{Clauses}
use Rattle.loading.specs.Loading.{Images, Inward, Decides}
use Rattle.conditions.specs.Asked.{live_in, Asked, Finds}
use Rattle.steps.specs.declared.Kind.{Kind}
use Rattle.steps.specs.declared.Kind.TheVariants.{Rup, Sr, Wsr}
use Rattle.judging.specs.Step.{outcome, New, NewJudged}

module _ {c : Clauses} {clause numbers : List ℕ} {vars next : ℕ} {t : List ℕ} where
  -- RUP
  module _ (n : New c Rup clause numbers vars next t) {b : Bool} (d : Decides b (RUP (live_in c) (codes clause))) where
    pub rup_passed : b ≡ true → NewJudged (live_in c) Rup clause numbers vars next t (Ok tt)
    unfolding outcome to_step
    rup_passed e s i = rw (n.none_listed (omega arith)) (rup (d.yes e))

    pub rup_stopped : b ≡ false → NewJudged (live_in c) Rup clause numbers vars next t (Err (record { reason = NotRup; place = 0 }))
    unfolding outcome to_step
    rup_stopped e s i = not_rup (d.no e)

  -- SR
  module _ (n : New c Sr clause numbers vars next t) {b : Bool} (d : (s : Witness) → Images t s → Decides b (Trivialises s (codes clause))) where
    pub sr_not_trivialised : b ≡ false → NewJudged (live_in c) Sr clause numbers vars next t (Err (record { reason = NotTrivialised; place = 0 }))
    unfolding outcome to_step
    sr_not_trivialised e s i = not_trivialised ((d s i).no e)

    module _ (e : b ≡ true) (u : List ℕ) (same : u ≡ t) where
      images : (s : Witness) → Images t s → Images u s
      images s i = rw same i

      pub sr_passed : ((s : Witness) → Images u s → Finds (live_in c) (codes clause) s (codes numbers) None)
          → NewJudged (live_in c) Sr clause numbers vars next t (Ok tt)
      unfolding outcome to_step
      sr_passed found s i =
          let all = rw (n.none_listed (omega arith)) at (found s (images s i)) in
          rw (n.none_listed (omega arith)) (sr (record { new = (d s i).yes e; old = λ k D l. all k D l (λ z. elim z [ ]) }))

      pub sr_stopped : (k : ℕ) → ((s : Witness) → Images u s → Finds (live_in c) (codes clause) s (codes numbers) (Some k))
          → NewJudged (live_in c) Sr clause numbers vars next t (Err (record { reason = NotPassing; place = k }))
      unfolding outcome to_step
      sr_stopped k found s i = sr_lowest ((d s i).yes e) (rw (n.none_listed (omega arith)) at (found s (images s i)))

  -- WSR
  pub wsr_stopped : New c Wsr clause numbers vars next t → (k : ℕ) → ((s : Witness) → Images t s → Finds (live_in c) (codes clause) s (codes numbers) (Some k))
      → NewJudged (live_in c) Wsr clause numbers vars next t (Err (record { reason = NotPassing; place = k }))
  unfolding outcome to_step
  wsr_stopped n k found s i = wsr_lowest (found s i)

  module _ (n : New c Wsr clause numbers vars next t)
      (found : (s : Witness) → Images t s → Finds (live_in c) (codes clause) s (codes numbers) None) (u : List ℕ) (same : u ≡ t) {b : Bool}
      (d : (s : Witness) → Images u s → Decides b (Passes (live_in c) (codes clause) s (codes clause))) where
    pub wsr_passed : b ≡ true → NewJudged (live_in c) Wsr clause numbers vars next t (Ok tt)
    unfolding outcome to_step
    wsr_passed q s i = wsr (record { new = (d s (rw same i)).yes q; old = found s i })

    pub wsr_new_stopped : b ≡ false → NewJudged (live_in c) Wsr clause numbers vars next t (Err (record { reason = NotPassing; place = next }))
    unfolding outcome to_step
    wsr_new_stopped q s i = wsr_new (found s i) ((d s (rw same i)).no q)

  -- what the questions ask
  module _ {kind : Kind} (n : New c kind clause numbers vars next t) (u : List ℕ) (same : u ≡ t) where
    asked : Asked c.formula.now c.proof.now c.words.now (codes clause) vars u
    asked =
        rw same (record { ready = n.table; numbers = n.limit; valid = n.kept.valid; codes = n.new.codes; apart = n.new.apart })

    pub lowest_asks : Asked c.formula.now c.proof.now c.words.now (codes clause) vars u × (Inward vars u × Listed (live_in c) 0 (codes numbers))
    lowest_asks = (asked, (rw same n.inward, n.listed))

    pub passes_asks : Asked c.formula.now c.proof.now c.words.now (codes clause) vars u × (Inward vars u × ((l : ℕ) → l ∈ (codes clause) → (2 ≤ l) × (l ≤ 2 * vars + 1)))
    passes_asks = (asked, (rw same n.inward, n.new.codes))
