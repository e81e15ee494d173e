-- One sweep more, as the loop takes it; what callers of propagation bring to it, and what they learn from it.
-- Assumes nothing.
use Prim.Native.Nat.{ℕ, zero, suc, ◌+◌, ◌*◌, ◌-◌, ◌/◌, ◌%◌, ◌≤◌, ◌<◌}
use mathlib.Core.Path.{◌≡◌, refl, sym, ap, ◌∙◌}
use mathlib.Core.Logic.{◌≢◌, ◌↔◌}
use mathlib.Core.Bool.{Bool, true, false}
use mathlib.Core.List.Memᴰ
use mathlib.Core.List.{List, [], ◌∷◌}
use native.Mathlib.Omega.{arith}
use native.Mathlib.Decide.{ℕ_discrete, dec_lt}
use lib.ListN.{length, get_or}
use lib.Seq.{get_or-set_other}
use Rattle.paper.specs.Atoms.{◌∈◌, Clause, Formula, Live}
use Rattle.paper.specs.Files.{File, codes}
use Rattle.paper.specs.Conditions.{Clash}
use Rattle.paper.specs.Sweeps.{Values, is_true, put, not_false, State, visit, visits, sweep, sweeps_to}
use Rattle.paper.specs.Valid.{Codes, Valid}
use Rattle.paper.proofs.Values.{not_false_out}
use Rattle.paper.proofs.Propagation.{sweeping, visit_none, visit_true, visit_set, visit_more, visits_end, visits_clashed, visits_next, sweep_visits, sweeps_none, sweeps_clash, sweeps_last, sweeps_next, Loaded, sweeps_iff}
use Rattle.lookup.specs.Live.{live}
use Rattle.table.specs.Table.{value_at, Kept}
use Rattle.table.proofs.Values.{values_at}
use Rattle.table.proofs.Kept.{kept_refl, kept_trans}
use Rattle.sweep.specs.declared.Propagation.{Propagation}
use Rattle.sweep.specs.Swept.{state_of, Sweepable, Swept}
use Rattle.propagation.specs.Propagated.{begun, Propagable, Propagated}

-- 1. The loop: k sweeps are made.
pub record Running (f p : File) (ws t₀ t : List ℕ) (x : Propagation) (k : ℕ) : Type 0 where
  pub kept : Kept t₀ t
  pub beyond : (v : ℕ) → 4095 < v → value_at t v ≡ value_at t₀ v
  pub going : x.clash ≡ false
  pub literals : x.literals ≤ 16384 * k
  pub sweeps : x.sweeps ≤ k
  pub left : sweeps_to (4096 - k) (live f p ws) (state_of t x) ≡ sweeps_to 4096 (live f p ws) (state_of t₀ begun)

module _ {f p : File} {ws t₀ : List ℕ} where
  pub running_start : Running f p ws t₀ t₀ begun 0
  running_start =
      record { kept = kept_refl t₀; beyond = λ v h. refl; going = refl; literals = omega arith; sweeps = omega arith; left = refl }

  module _ {t : List ℕ} {x : Propagation} {k : ℕ} (run : Running f p ws t₀ t x k) where
    -- the state after as many sweeps as are left
    left_by : (n : ℕ) → 4096 - k ≡ n → sweeps_to n (live f p ws) (state_of t x) ≡ sweeps_to 4096 (live f p ws) (state_of t₀ begun)
    left_by n e = rw e at run.left

    -- no sweep is left
    pub running_end : 4096 ≤ k → Propagated f p ws t₀ t x
    running_end h =
        record {
          state = sym (sweeps_none (live f p ws) (state_of t x)) ∙ left_by 0 (omega arith);
          kept = run.kept;
          beyond = run.beyond;
        }

    module _ (h : k < 4096) (asked : Propagable f p ws t₀) where
      pub running_sweepable : Sweepable f p ws t x
      running_sweepable =
          let a = run.literals in
          let b = run.sweeps in
          record {
            long = omega (arith, run.kept.long, asked.long);
            numbers = asked.numbers;
            codes = asked.codes;
            going = run.going;
            few_literals = omega arith;
            few_sweeps = omega arith;
          }

      -- one is made
      module _ {t' : List ℕ} {r : Propagation} (w : Swept f p ws t x t' r) where
        abbrev F : Formula
        F = live f p ws

        abbrev s : State
        s = state_of t x

        clash_is : (sweep F s).clash ≡ r.clash
        clash_is = ap (λ (z : State). z.clash) (sym w.state)

        literals_are : (sweep F s).literals ≡ r.literals
        literals_are = ap (λ (z : State). z.literals) (sym w.state)

        last : sweep F s ≡ sweeps_to (suc (4096 - (k + 1))) F s → Propagated f p ws t₀ t' r
        last e =
            record {
              state = w.state ∙ e ∙ left_by _ (omega arith);
              kept = kept_trans run.kept w.kept;
              beyond = λ v b. w.beyond v b ∙ run.beyond v b;
            }

        pub last_clash : r.clash ≡ true → Propagated f p ws t₀ t' r
        last_clash e = last (sym (sweeps_clash (4096 - (k + 1)) F s (clash_is ∙ e)))

        pub last_still : r.clash ≡ false → r.literals ≡ x.literals → Propagated f p ws t₀ t' r
        last_still e q = last (sym (sweeps_last (4096 - (k + 1)) F s (clash_is ∙ e) (literals_are ∙ q)))

        pub running_next : r.clash ≡ false → r.literals ≢ x.literals → Running f p ws t₀ t' r (k + 1)
        running_next e ne =
            let a = run.literals in
            let b = run.sweeps in
            record {
              kept = kept_trans run.kept w.kept;
              beyond = λ v b. w.beyond v b ∙ run.beyond v b;
              going = e;
              literals = omega (arith, w.literals, asked.numbers);
              sweeps = omega (arith, w.sweeps);
              left =
                  ap (sweeps_to (4096 - (k + 1)) F) w.state
                  ∙ sym (sweeps_next (4096 - (k + 1)) F s (clash_is ∙ e) (λ q. ne (sym literals_are ∙ q)))
                  ∙ left_by (suc (4096 - (k + 1))) (omega arith);
            }

-- 2. No sweep touches the value of a variable that has no literal in the live clauses.
put_beyond : (vs : Values) (l v : ℕ) → l / 2 ≢ v → get_or (put vs l) v 0 ≡ get_or vs v 0
unfolding put
put_beyond vs l v ne = get_or-set_other vs (l / 2) v (suc (l % 2)) 0 (λ e. ne (sym e))

visit_beyond : (v : ℕ) (r : Clause) (s : State) → ((l : ℕ) → l ∈ r → l / 2 ≢ v) → get_or (visit r s).values v 0 ≡ get_or s.values v 0
visit_beyond v [] s out = rw visit_none
visit_beyond v (l ∷ []) s out = go (is_true s.values l) refl
  where
    go : (b : Bool) → is_true s.values l ≡ b → get_or (visit (l ∷ []) s).values v 0 ≡ get_or s.values v 0
    go true e = rw (visit_true l s e)
    go false e = rw (visit_set l s e) (put_beyond s.values l v (out l (Memᴰ.head refl)))
visit_beyond v (l ∷ k ∷ r) s out = rw visit_more

module _ (v : ℕ) where
  -- no literal of the variable v
  abbrev pub Without : Formula → Type 0
  Without F = (n : ℕ) (D : Clause) → Live F n D → (l : ℕ) → l ∈ D → l / 2 ≢ v

  visits_beyond : (F : Formula) → Without F → (s : State) → get_or (visits F s).values v 0 ≡ get_or s.values v 0
  visits_beyond [] out s = rw visits_end
  visits_beyond (D ∷ F) out s = go (visits_beyond F (λ n E q. out n E (Memᴰ.tail q))) s.clash refl
    where
      next : State
      next = visit (not_false s.values D.1) s

      here : get_or next.values v 0 ≡ get_or s.values v 0
      here =
          visit_beyond v (not_false s.values D.1) s
          (λ l m. out D.0 D.1 (Memᴰ.head refl) l (not_false_out s.values D.1 m).0)

      go : ((t : State) → get_or (visits F t).values v 0 ≡ get_or t.values v 0) → (b : Bool) → s.clash ≡ b
          → get_or (visits (D ∷ F) s).values v 0 ≡ get_or s.values v 0
      go rec true e = rw (visits_clashed (D ∷ F) s e)
      go rec false e = rw (visits_next D F s e) (rec next ∙ here)

  pub sweep_beyond : (F : Formula) → Without F → (s : State) → get_or (sweep F s).values v 0 ≡ get_or s.values v 0
  sweep_beyond F out s = rw sweep_visits (visits_beyond F out (sweeping s))

  pub sweeps_beyond : (n : ℕ) (F : Formula) → Without F → (s : State) → get_or (sweeps_to n F s).values v 0 ≡ get_or s.values v 0
  sweeps_beyond zero F out s = rw sweeps_none
  sweeps_beyond (suc n) F out s = go (sweeps_beyond n F out (sweep F s)) (sweep F s).clash refl (ℕ_discrete (sweep F s).literals s.literals)
    where
      go : get_or (sweeps_to n F (sweep F s)).values v 0 ≡ get_or (sweep F s).values v 0 → (b : Bool) → (sweep F s).clash ≡ b
          → Dec ((sweep F s).literals ≡ s.literals) → get_or (sweeps_to (suc n) F s).values v 0 ≡ get_or s.values v 0
      go rec true e d = rw (sweeps_clash n F s e) (sweep_beyond F out s)
      go rec false e (yes q) = rw (sweeps_last n F s e q) (sweep_beyond F out s)
      go rec false e (no q) = rw (sweeps_next n F s e q) (rec ∙ sweep_beyond F out s)

-- 3. What callers bring.
pub valid_more : (vars top : ℕ) (F : Formula) → vars ≤ top → Valid vars F → Valid top F
valid_more vars top F h valid =
    record {
      codes = λ n D q l m. let r = valid.codes n D q l m in (r.0, omega arith);
      apart = valid.apart;
    }

-- valid clauses can be propagated over
pub propagable : (vars : ℕ) (f p : File) (ws t : List ℕ) → vars ≤ 4095 → Valid vars (live f p ws) → length ws ≤ 16384 → 8192 ≤ length t
    → Propagable f p ws t
propagable vars f p ws t h valid numbers long =
    record { long = long; numbers = numbers; codes = (valid_more vars 4095 (live f p ws) h valid).codes }

-- 4. What callers learn.
-- as many sweeps as there are variables, and one more, over valid clauses
clash_iff : (top n : ℕ) → n ≡ suc top → (F : Formula) (A : List ℕ) (s e : State) → Valid top F → Loaded top F A s → e ≡ sweeps_to n F s
    → (e.clash ≡ true) ↔ Clash F A
clash_iff top n en F A s e valid loaded q =
    let same : e ≡ sweeps_to (suc top) F s = q ∙ ap (λ (m : ℕ). sweeps_to m F s) en in
    let iff = sweeps_iff top F valid A s loaded in
    (λ c. iff.0 (sym (ap (λ (z : State). z.clash) same) ∙ c), λ c. ap (λ (z : State). z.clash) same ∙ iff.1 c)

module _ {f p : File} {ws t t' : List ℕ} {r : Propagation} (w : Propagated f p ws t t' r) (vars : ℕ) where
  -- it clashes exactly when propagation from A does, where the table holds A
  pub propagated_clash : vars ≤ 4095 → Valid vars (live f p ws) → (A : List ℕ) → Loaded 4095 (live f p ws) A (state_of t begun)
      → (r.clash ≡ true) ↔ Clash (live f p ws) A
  propagated_clash h valid A loaded =
      clash_iff 4095 4096 (omega arith) (live f p ws) A (state_of t begun) (state_of t' r)
      (valid_more vars 4095 (live f p ws) h valid) loaded w.state

  -- the values of the variables beyond vars are as they were
  pub propagated_beyond : ((n : ℕ) (D : Clause) → Live (live f p ws) n D → Codes vars D) → (v : ℕ) → vars < v → value_at t' v ≡ value_at t v
  propagated_beyond codes v h = go (dec_lt 4095 v)
    where
      out : Without v (live f p ws)
      out n D q l m e = let a = codes n D q l m in omega arith

      go : Dec (4095 < v) → value_at t' v ≡ value_at t v
      go (yes b) = w.beyond v b
      go (no b) =
          let k : v ≤ 4095 = omega arith in
          sym (values_at 4095 t' k)
          ∙ ap (λ (z : State). get_or z.values v 0) w.state
          ∙ sweeps_beyond v 4096 (live f p ws) out (state_of t begun)
          ∙ values_at 4095 t k
