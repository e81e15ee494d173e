-- The loop over a proof's steps: what holds before each, and how each way out gives the answer.
-- Assumes nothing.
use Prim.Native.Nat.{ℕ, ◌+◌, ◌-◌, ◌≤◌, ◌<◌}
use mathlib.Core.Path.{◌≡◌, ap, ◌∙◌, subst}
use mathlib.Core.Bool.{Bool, true, false}
use mathlib.Core.List.{List}
use native.Mathlib.Omega.{arith}
use native.Mathlib.Numerals.{add-one}
use lib.ListN.{length, get_or, take}
use Rattle.paper.specs.declared.Verdict.{Verdict}
use Rattle.paper.specs.declared.Verdict.TheVariants.{Refuted, Held}
use Rattle.paper.specs.Atoms.{Formula}
use Rattle.paper.specs.Files.{File, ok, Step}
use Rattle.paper.specs.Refusals.{read_step}
use Rattle.paper.specs.Answers.{refused, Steps, refuted, held}
use Rattle.paper.specs.Answers as answers
use Rattle.paper.proofs.Reading.{Then, StepWasRead, read_step_seen}
use Rattle.paper.proofs.Judging.{judged_kept}
use Rattle.lookup.specs.Clause.{ClauseTable}
use Rattle.lookup.specs.Live.{live, EmptyLive}
use Rattle.lookup.proofs.Table.{used_live, used_table}
use Rattle.std.proofs.Common.{Ok, Err}
use Rattle.field.specs.declared.Fault.{Fault}
use Rattle.judging.specs.Step.{Ready, Done, StepIs}
use Rattle.judging.specs.Step as step
use Rattle.answers.specs.Run.{Start}

-- Before each step: what the run started from holds again, and whatever the rest answers, the whole does.
pub record Going (f p : File) (vars first : ℕ) (F : Formula) (words t : List ℕ) (at next done : ℕ) : Type 0 where
  pub now : Start f p vars next words t
  pub place : at ≤ length p
  pub counted : done ≤ at
  pub leads : (v : Verdict) → Steps p vars (live f p words) next done at v → Steps p vars F first 0 0 v

pub at_start : {f p : File} {vars first : ℕ} {words t : List ℕ} → Start f p vars first words t → Going f p vars first (live f p words) words t 0 first 0
at_start s = record { now = s; place = omega arith; counted = omega arith; leads = λ v x. x }

module _ {f p : File} {vars first : ℕ} {F : Formula} {words t : List ℕ} {at next done : ℕ} (g : Going f p vars first F words t at next done) where
  pub ready : at < length p → Ready f p at vars next words t
  ready h =
      record {
        place = h;
        proof_short = g.now.proof_short;
        variables = g.now.variables;
        first = g.now.first;
        last = g.now.last;
        words_long = g.now.words_long;
        clauses = g.now.clauses;
        kept = g.now.kept;
        table_long = g.now.table_long;
        table_zero = g.now.table_zero;
      }

  -- what the reading has seen of the step
  seen : (s : Step) (later : ℕ) → read_step p vars (live f p words) next at ≡ ok (s, later) → StepWasRead p vars (live f p words) next at s later
  seen s later e =
      subst (Then (λ (x : Step × ℕ). StepWasRead p vars (live f p words) next at x.0 x.1)) e (read_step_seen p vars (live f p words) next at)

  pub taken_further : {m later : ℕ} {words' t' : List ℕ} → Done f p at vars next words t (Ok (record { next = m; later = record { at = later } })) words' t' → (at < later) × (later ≤ length p)
  taken_further d = go d.answer
    where
      go : {a b : ℕ} {G : Formula} → StepIs p vars (live f p words) next at (Ok (record { next = a; later = record { at = b } })) G → (at < b) × (b ≤ length p)
      go (step.goes_on {t = s} {later = l} e j) = let r = seen s l e in (r.further, r.inside)

  pub going_on : at < length p → {m later : ℕ} {words' t' : List ℕ} → Done f p at vars next words t (Ok (record { next = m; later = record { at = later } })) words' t'
      → Going f p vars first F words' t' later m (done + 1)
  going_on h {m} {later} {words'} {t'} d = go d.answer (taken_further d)
    where
      go : StepIs p vars (live f p words) next at (Ok (record { next = m; later = record { at = later } })) (live f p words') → (at < later) × (later ≤ length p)
          → Going f p vars first F words' t' later m (done + 1)
      go (step.goes_on {t = s} e j) far =
          let r = seen s later e in
          let k = judged_kept vars (live f p words) next s (live f p words') m g.now.first g.now.kept r.seen j in
          record {
            now = record {
              proof_short = g.now.proof_short;
              variables = g.now.variables;
              first = k.0;
              last = d.after.last;
              words_long = d.after.long ∙ g.now.words_long;
              clauses = d.after.clauses;
              kept = k.1;
              table_long = ap length d.table ∙ g.now.table_long;
              table_zero = λ i. ap (λ (x : List ℕ). get_or x i 0) d.table ∙ g.now.table_zero i;
            };
            place = far.1;
            counted = omega (arith, g.counted);
            leads = λ v x. g.leads v (answers.goes_on h e j (rw add-one at x));
          }

  pub stopped : at < length p → {b : Fault} {words' t' : List ℕ} → Done f p at vars next words t (Err b) words' t'
      → Steps p vars F first 0 0 (refused b.reason (done + 1) b.place)
  stopped h {b} d = go d.answer
    where
      go : {G : Formula} → StepIs p vars (live f p words) next at (Err b) G → Steps p vars F first 0 0 (refused b.reason (done + 1) b.place)
      go (step.unread e) = rw add-one (g.leads _ (answers.unread h e))
      go (step.refused e j) = rw add-one (g.leads _ (answers.judged h e j))

  -- the numbers in use hold all live clauses
  all_used : take (next - 0) words ≡ take next words
  all_used = let e : next - 0 ≡ next = omega arith in rw e

  used : live f p (take next words) ≡ live f p words
  used = rw all_used at (used_live g.now.clauses)

  pub used_clauses : ClauseTable f p (length (take next words)) (take next words)
  used_clauses = rw all_used at (used_table g.now.clauses (omega (arith, g.now.last, g.now.words_long)))

  pub end_refuted : length p ≤ at → {b : Bool} → EmptyLive f p (take next words) b → b ≡ true → Steps p vars F first 0 0 (Refuted done)
  end_refuted h x e = let y = x.some e in g.leads _ (refuted {n = y.0} h (rw used at y.1))

  pub end_held : length p ≤ at → {b : Bool} → EmptyLive f p (take next words) b → b ≡ false → Steps p vars F first 0 0 (Held done)
  end_held h x e = g.leads _ (held h (rw used at (x.none e)))
