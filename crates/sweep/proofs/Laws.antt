-- A turn of each of the loops of a sweep: at a place of a clause's bytes, and at a clause number.
-- Assumes nothing.
use Prim.Native.Nat.{ℕ, zero, suc, ◌+◌, ◌*◌, ◌%◌, ◌/◌, ◌≤◌, ◌<◌}
use mathlib.Core.Path.{◌≡◌, refl, sym, ap, ◌∙◌}
use mathlib.Core.Logic.{◌≢◌}
use mathlib.Core.Bool.{Bool, true, false, true≢false, false≢true}
use mathlib.Core.List.{List, [], ◌∷◌}
use native.Mathlib.Omega.{arith}
use native.Mathlib.Numerals.{add-one}
use lib.Dec.{eqb}
use lib.ListN.{length, get_or, drop}
use Rattle.paper.specs.Atoms.{Clause, Formula, Live}
use Rattle.paper.specs.Files.{File, codes}
use Rattle.paper.specs.Sweeps.{not_false, State, visit, visits, sweep}
use Rattle.paper.proofs.Lists.{eqb_yes, eqb_no, eqb_same, eqb_other}
use Rattle.paper.specs.Valid.{Codes}
use Rattle.paper.proofs.Propagation.{clashing, setting, visit_none, visits_end, visits_clashed, visits_next, sweep_visits}
use Rattle.paper.proofs.Scan.{true_by_value, not_true_by_value, not_false_none, visit_first_true, visit_first_alone, visit_second, step_now, step_later, step_false, step_not_false}
use Rattle.table.specs.Table.{values, value_at, set_value, Kept}
use Rattle.table.proofs.Laws.{value_other}
use Rattle.table.proofs.Values.{values_at, put_values}
use Rattle.table.proofs.Kept.{kept_refl, kept_set_value}
use Rattle.lookup.specs.Clause.{Entered, clause_bytes, onward, ClauseTable}
use Rattle.lookup.specs.Live.{live_from, live}
use Rattle.lookup.proofs.Live.{live_next, live_end, live_start, live_in}
use Rattle.lookup.proofs.Table.{onward_from, onward_within, live_onward}
use Rattle.sweep.specs.declared.Propagation.{Propagation}
use Rattle.sweep.specs.Swept.{all_false, Swept}

-- the state of a propagation that has not clashed
abbrev pub going : ℕ → List ℕ → ℕ → ℕ → State
going vars t literals sweeps = record { values = values vars t; literals = literals; sweeps = sweeps; clash = false }

-- 1. The loops over one clause's bytes c, under the table t.
value_small : (t : List ℕ) (v : ℕ) → value_at t v < 4
unfolding value_at
value_small t v = omega arith

pub value_less : (t : List ℕ) (v x : ℕ) → x ≡ value_at t v → x < 4
value_less t v x e = omega (arith, value_small t v)

-- one test of a value for neither 1 nor 2
pub one_test : (x : ℕ) → x < 4 → (eqb ((x + 1) / 2 % 2) 0 ≡ true → (x ≢ 1) × (x ≢ 2)) × (eqb ((x + 1) / 2 % 2) 0 ≡ false → (1 ≤ x) × (x ≤ 2))
one_test zero h = (λ e. (omega arith, omega arith), λ e. absurd (true≢false e))
one_test (suc zero) h = (λ e. absurd (false≢true e), λ e. (omega arith, omega arith))
one_test (suc (suc zero)) h = (λ e. absurd (false≢true e), λ e. (omega arith, omega arith))
one_test (suc (suc (suc zero))) h = (λ e. (omega arith, omega arith), λ e. absurd (true≢false e))
one_test (suc (suc (suc (suc x)))) h = absurd (omega arith)

-- the literals r that are not false: none, or one at least
none_left_of : (r : Clause) → r ≡ [] → true ≡ eqb (length r) 0
none_left_of r e = sym (eqb_same (length r) 0 (ap length e))

one_left_of : (l : ℕ) (r q : Clause) → r ≡ l ∷ q → false ≡ eqb (length r) 0
one_left_of l r q e = sym (eqb_other (length r) 0 (omega (arith, ap length e)))

-- of the clause D the literals `left` are left, and those that are passed are all false
pub record Passed (vars : ℕ) (t : List ℕ) (D left : Clause) : Type 0 where
  pub range : Codes vars left
  pub same : not_false (values vars t) D ≡ not_false (values vars t) left

pub passed_start : {vars : ℕ} (t : List ℕ) {D : Clause} → Codes vars D → Passed vars t D D
passed_start t r = record { range = r; same = refl }

module _ {vars : ℕ} {t : List ℕ} {D left : Clause} (s : Passed vars t D left) where
  -- a literal l is left, and others after it; the value of its variable is x
  module _ {l : ℕ} {after : Clause} (step : left ≡ l ∷ after) where
    pub code_range : (2 ≤ l) × (l ≤ 2 * vars + 1)
    code_range = step_now l step {P = λ k. (2 ≤ k) × (k ≤ 2 * vars + 1)} s.range

    pub codes_after : Codes vars after
    codes_after = step_later l step {P = λ k. (2 ≤ k) × (k ≤ 2 * vars + 1)} s.range

    module _ {x : ℕ} (ex : x ≡ value_at t (l / 2)) where
      value_of : x ≡ get_or (values vars t) (l / 2) 0
      value_of = let r = code_range in let b : l / 2 ≤ vars = omega arith in ex ∙ sym (values_at vars t b)

      -- set, and not true
      pub passed_false : (1 ≤ x) × (x ≤ 2) → x ≢ l % 2 + 1 → Passed vars t D after
      passed_false set ne =
          record { range = codes_after; same = s.same ∙ step_false l step (values vars t) x value_of (omega arith) }

      first_left : x + l % 2 ≢ 2 → not_false (values vars t) D ≡ l ∷ not_false (values vars t) after
      first_left ne = s.same ∙ step_not_false l step (values vars t) x value_of ne

      pub unset_left : (x ≢ 1) × (x ≢ 2) → false ≡ all_false vars t D
      unset_left ne = one_left_of l _ _ (first_left (omega arith))

      pub true_left : x ≡ l % 2 + 1 → false ≡ all_false vars t D
      true_left e = one_left_of l _ _ (first_left (omega arith))

  -- none is left
  module _ (e : left ≡ []) where
    none_left : not_false (values vars t) D ≡ []
    none_left = s.same ∙ not_false_none (values vars t) left e

    pub all_passed : true ≡ all_false vars t D
    all_passed = none_left_of _ none_left

-- the visit to the clause, by how the loop over all its literals is left
module _ {vars : ℕ} {t : List ℕ} {D left : Clause} (s : Passed vars t D left) (literals sweeps : ℕ) where
  abbrev state : State
  state = going vars t literals sweeps

  abbrev visiting : State
  visiting = visit (not_false (values vars t) D) state

  pub visit_none_left : left ≡ [] → visiting ≡ clashing state
  visit_none_left e = ap (λ (r : Clause). visit r state) (none_left s e) ∙ visit_none state

  module _ {l x : ℕ} {after : Clause} (step : left ≡ l ∷ after) (ex : x ≡ value_at t (l / 2)) where
    visit_first : x + l % 2 ≢ 2 → visiting ≡ visit (l ∷ not_false (values vars t) after) state
    visit_first ne = ap (λ (r : Clause). visit r state) (first_left s step ex ne)

    pub visit_true_left : x ≡ l % 2 + 1 → visiting ≡ state
    visit_true_left e =
        visit_first (omega arith) ∙ visit_first_true l _ state (true_by_value (values vars t) l (sym (value_of s step ex) ∙ e))

    -- an unset literal, and what is found of those after it
    module _ (ne : (x ≢ 1) × (x ≢ 2)) {b : Bool} (eb : b ≡ all_false vars t after) where
      pub visit_one_left : b ≡ true → visiting ≡ setting l state
      visit_one_left e =
          let other : x ≢ l % 2 + 1 = omega arith in
          visit_first (omega arith)
          ∙ visit_first_alone l _ state (not_true_by_value (values vars t) l (λ q. other (value_of s step ex ∙ q))) (eqb_yes _ 0 (sym eb ∙ e))

      pub visit_two_left : b ≡ false → visiting ≡ state
      visit_two_left e = visit_first (omega arith) ∙ visit_second l _ state (eqb_no _ 0 (sym eb ∙ e))

-- where the sweep goes on is further than where it was
pub onward_more : (ws : List ℕ) (k j n : ℕ) → k < j → n ≡ onward ws j → k < n
onward_more ws k j n h e = omega (arith, onward_from ws j)

-- 2. The loop over the clause numbers, from the record x and the table t₀ on.
abbrev pub start : ℕ → List ℕ → Propagation → State
start vars t x = record { values = values vars t; literals = x.literals; sweeps = x.sweeps; clash = x.clash }

-- at number k: the visits to the clauses that are left make the state of the whole sweep
pub record Held (vars : ℕ) (f p : File) (ws t₀ : List ℕ) (x : Propagation) (k : ℕ) (t : List ℕ) (literals : ℕ) (clash : Bool) : Type 0 where
  pub within : k ≤ length ws
  pub kept : Kept t₀ t
  pub beyond : (v : ℕ) → vars < v → value_at t v ≡ value_at t₀ v
  pub count : literals ≤ x.literals + k
  pub goes_on : clash ≡ false
  pub left : visits (live_from f p k (drop k ws)) (going vars t literals (suc x.sweeps)) ≡ sweep (live f p ws) (start vars t₀ x)

-- at the sweep's end
pub record Done (vars : ℕ) (f p : File) (ws t₀ : List ℕ) (x : Propagation) (t : List ℕ) (literals : ℕ) (clash : Bool) : Type 0 where
  pub kept : Kept t₀ t
  pub beyond : (v : ℕ) → vars < v → value_at t v ≡ value_at t₀ v
  pub count : literals ≤ x.literals + length ws
  pub state : ◌≡◌ {A = State} (record { values = values vars t; literals = literals; sweeps = suc x.sweeps; clash = clash }) (sweep (live f p ws) (start vars t₀ x))

module _ {vars : ℕ} {f p : File} {ws t₀ : List ℕ} {x : Propagation} where
  pub held_start : x.clash ≡ false → Held vars f p ws t₀ x 0 t₀ x.literals false
  held_start e =
      record {
        within = omega arith;
        kept = kept_refl t₀;
        beyond = λ v h. refl;
        count = omega arith;
        goes_on = refl;
        left =
            let s : State = going vars t₀ x.literals (suc x.sweeps) in
            ap (λ (F : Formula). visits F s) (live_start f p ws)
            ∙ ap
            (λ (b : Bool). visits (live f p ws) (record { values = values vars t₀; literals = x.literals; sweeps = suc x.sweeps; clash = b }))
            (sym e)
            ∙ sym (sweep_visits (live f p ws) (start vars t₀ x));
      }

  module _ {k : ℕ} {t : List ℕ} {literals : ℕ} {clash : Bool} (held : Held vars f p ws t₀ x k t literals clash) where
    -- the same by other names
    pub held_by : {u : List ℕ} {n : ℕ} {b : Bool} → u ≡ t → n ≡ literals → b ≡ clash → Held vars f p ws t₀ x k u n b
    held_by e q z = rw (e, q, z) held

    pub held_end : length ws ≤ k → Done vars f p ws t₀ x t literals clash
    held_end h =
        record {
          kept = held.kept;
          beyond = held.beyond;
          count = let c = held.count in let w = held.within in omega arith;
          state =
              let s : State = going vars t literals (suc x.sweeps) in
              ap (λ (b : Bool). record { values = values vars t; literals = literals; sweeps = suc x.sweeps; clash = b }) held.goes_on
              ∙ sym (visits_end s)
              ∙ ap (λ (F : Formula). visits F s) (sym (live_end f p ws k h))
              ∙ held.left;
        }

    module _ (h : k < length ws) where
      -- no clause of that number is live: the sweep goes on at n
      module _ (low : get_or ws k 0 < 1048576) {n : ℕ} (en : n ≡ onward ws (k + 1)) where
        pub held_skip : ClauseTable f p (length ws) ws → Held vars f p ws t₀ x n t literals clash
        held_skip table =
            record {
              within = omega (arith, onward_within ws (k + 1) table (omega arith));
              kept = held.kept;
              beyond = held.beyond;
              count = let c = held.count in let m = onward_more ws k (k + 1) n (omega arith) en in omega arith;
              goes_on = held.goes_on;
              left =
                  rw en
                  (ap (λ (F : Formula). visits F (going vars t literals (suc x.sweeps))) (sym (live_onward f p ws table k h low)) ∙ held.left);
            }

      -- the clause c is
      module _ (ne : Entered (get_or ws k 0)) {c : List ℕ} (ec : c ≡ clause_bytes f p (get_or ws k 0)) where
        pub clause_codes : ((n : ℕ) (D : Clause) → Live (live f p ws) n D → Codes vars D) → Codes vars (codes c)
        clause_codes range = range k (codes c) (live_in f p ws (record { within = h; entered = ne; clause = ap codes ec }))

        abbrev now : State
        now = going vars t literals (suc x.sweeps)

        visited : visits (live_from f p (k + 1) (drop (k + 1) ws)) (visit (not_false (values vars t) (codes c)) now) ≡ sweep (live f p ws) (start vars t₀ x)
        visited =
            ap (λ (b : List ℕ). visits (live_from f p (k + 1) (drop (k + 1) ws)) (visit (not_false (values vars t) (codes b)) now)) ec
            ∙ sym (visits_next (k, codes (clause_bytes f p (get_or ws k 0))) (live_from f p (k + 1) (drop (k + 1) ws)) now refl)
            ∙ ap (λ (F : Formula). visits F now) (sym (live_next f p ws k h ne))
            ∙ held.left

        pub held_next : visit (not_false (values vars t) (codes c)) now ≡ now → Held vars f p ws t₀ x (k + 1) t literals clash
        held_next e =
            record {
              within = omega arith;
              kept = held.kept;
              beyond = held.beyond;
              count = let c = held.count in omega arith;
              goes_on = held.goes_on;
              left = ap (visits (live_from f p (k + 1) (drop (k + 1) ws))) (sym e) ∙ visited;
            }

        pub held_clash : visit (not_false (values vars t) (codes c)) now ≡ clashing now → Done vars f p ws t₀ x t literals true
        held_clash e =
            record {
              kept = held.kept;
              beyond = held.beyond;
              count = let c = held.count in omega arith;
              state =
                  sym (visits_clashed (live_from f p (k + 1) (drop (k + 1) ws)) (clashing now) refl)
                  ∙ ap (visits (live_from f p (k + 1) (drop (k + 1) ws))) (sym e)
                  ∙ visited;
            }

        pub held_set : (u : ℕ) → 2 ≤ u → u ≤ 2 * vars + 1 → 2 * vars + 1 < length t
            → visit (not_false (values vars t) (codes c)) now ≡ setting u now
            → Held vars f p ws t₀ x (k + 1) (set_value t (u / 2) (suc (u % 2))) (literals + 1) clash
        held_set u low high long e =
            record {
              within = omega arith;
              kept = kept_set_value (u / 2) (suc (u % 2)) (omega arith) held.kept;
              beyond = λ v b. value_other t (u / 2) (suc (u % 2)) v (λ q. omega arith) ∙ held.beyond v b;
              count = let c = held.count in omega arith;
              goes_on = held.goes_on;
              left =
                  rw (put_values vars t u (omega arith) (omega arith), add-one literals)
                  (ap (visits (live_from f p (k + 1) (drop (k + 1) ws))) (sym e) ∙ visited);
            }

pub done_swept : {f p : File} {ws t₀ : List ℕ} {x : Propagation} {t : List ℕ} {literals : ℕ} {clash : Bool} → Done 4095 f p ws t₀ x t literals clash
    → Swept f p ws t₀ x t (record { literals = literals; sweeps = x.sweeps + 1; clash = clash })
done_swept d =
    record { state = rw add-one d.state; kept = d.kept; beyond = d.beyond; literals = d.count; sweeps = refl }
