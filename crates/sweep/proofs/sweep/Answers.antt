-- `sweep` is one sweep over the live clauses. The inner invariant: the literals passed are all false; the outer: the visits that are left,
-- from the state now, make the state that the whole sweep makes. Assumes nothing.
use Prim.Native.Nat.{suc, ◌+◌, ◌/◌, ◌%◌}
use mathlib.Core.Path.{◌≡◌, refl, ap, ◌∙◌}
use native.Mathlib.Omega.{arith}
use lib.ListN.{length}
use Rattle.paper.specs.Files.{codes}
use Rattle.table.specs.Table.{value_at, set_value}
use Rattle.sweep.specs.Swept.{all_false}
use Rattle.sweep.proofs.Laws.{passed_start, code_range, codes_after, value_less, passed_false, visit_none_left, visit_true_left, visit_one_left, visit_two_left, Done, held_start, held_by, held_end, onward_more, held_skip, clause_codes, held_next, held_clash, held_set, done_swept}
use Rattle.sweep.proofs.sweep.Goals as goal
use Rattle.sweep.proofs.sweep.Goals.{then-is_unset+then-all_false, then-is_unset+else-all_false, else-is_unset+then-value-code, else-clauses-test, then-clauses-test+then-live-k-ge-LIVE+in_default}

pub clauses-init : goal.clauses-init
clauses-init c = held_start c.requires.going

pub literals-init : goal.literals-init
literals-init c =
    let v = c.clauses.invariant in
    let at = ap (λ b. b.now) c.of-literals.ensures ∙ c.clause_at.ensures in
    let r = clause_codes v c.clauses-test.true c.if-live-k-ge-LIVE.true at c.requires.codes in
    (omega (arith, v.kept.long, c.requires.long), refl, refl, refl, passed_start _ r)

pub value-requires : goal.value-requires
value-requires c = let r = code_range c.literals.invariant.4 c.in-Some.ensures.steps in (omega arith, c.literals.invariant.0)

pub is_unset-requires : goal.is_unset-requires
is_unset-requires c = value_less _ _ _ (c.from-value.ensures ∙ c.value.ensures)

pub all_false-requires : goal.all_false-requires
all_false-requires c = (codes_after c.literals.invariant.4 c.in-Some.ensures.steps, c.literals.invariant.0)

pub make_true-requires : goal.make_true-requires
make_true-requires c = let r = code_range c.literals.invariant.4 c.in-Some.ensures.steps in (omega arith, c.literals.invariant.0)

pub literals-preserved : goal.literals-preserved
literals-preserved c =
    let v = c.literals.invariant in
    let read : c.from-value.result ≡ value_at c.clauses.t (c.in-Some.code / 2) = rw (← v.1) (c.from-value.ensures ∙ c.value.ensures) in
    (v.0, v.1, v.2, v.3, passed_false v.4 c.in-Some.ensures.steps read (c.is_unset.ensures.1 c.if-is_unset.false) c.if-value-code.false)

pub clauses-preserved-then-live-k-ge-LIVE : goal.clauses-preserved-then-live-k-ge-LIVE
clauses-preserved-then-live-k-ge-LIVE c =
    let code = c.in-Some.code in
    let v = c.clauses.invariant in
    let u = c.literals.invariant in
    let read : c.from-value.result ≡ value_at c.clauses.t (code / 2) = rw (← u.1) (c.from-value.ensures ∙ c.value.ensures) in
    let h = c.clauses-test.true in
    let e = c.if-live-k-ge-LIVE.true in
    let q = c.in-Some.ensures.steps in
    let at = ap (λ b. b.now) c.of-literals.ensures ∙ c.clause_at.ensures in
    let same = ap (λ t. all_false 4095 t (codes c.next.new.self.bytes.now)) u.1 in
    elim c.if-is_unset.branch [
      -- one literal was left
      | then-is_unset+then-all_false w ↦
          let r = code_range u.4 q in
          held_by
          (held_set v h e at code r.0 r.1 (omega (arith, u.0, ap length u.1))
          (visit_one_left u.4 _ _ q read (c.is_unset.ensures.0 w.if-is_unset.true) (w.all_false.ensures ∙ same) w.if-all_false.true))
          (w.t-is ∙ w.make_true.ensures ∙ ap (λ t. set_value t (code / 2) (suc (code % 2))) u.1) (w.count-is ∙ ap (λ n. n + 1) u.2) u.3
      -- a second literal was not false
      | then-is_unset+else-all_false w ↦
          held_by
          (held_next v h e at
          (visit_two_left u.4 _ _ q read (c.is_unset.ensures.0 w.if-is_unset.true) (w.all_false.ensures ∙ same) w.if-all_false.false))
          (w.t-is ∙ u.1) (w.count-is ∙ u.2) u.3
      -- a literal was true
      | else-is_unset+then-value-code w ↦
          held_by
          (held_next v h e at (visit_true_left u.4 _ _ q read w.if-value-code.true))
          (w.t-is ∙ u.1) (w.count-is ∙ u.2) u.3
    ]

pub clauses-smaller : goal.clauses-smaller
clauses-smaller c =
    let m = onward_more _ c.clauses.k _ _ (omega arith) c.onward-k.ensures in
    omega (arith, c.clauses-test.true)

pub clauses-preserved : goal.clauses-preserved
clauses-preserved c =
    held_skip c.clauses.invariant c.clauses-test.true c.if-live-k-ge-LIVE.false c.onward-k.ensures c.args.live.stands

-- after the loop, by its test or by the clash: the sweep's end
pub returns : goal.returns
returns c =
    let v = c.clauses.invariant in
    let a = c.args in
    let done : Done 4095 a.live.formula.now a.live.proof.now a.live.words.now a.t.now a.p c.clauses-test.t c.clauses-test.count c.clauses-test.clash =
    elim c.clauses-test.branch [
      | else-clauses-test w ↦ rw (w.t-is, w.count-is, w.clash-is) (held_end v w.clauses-test.false)
      | then-clauses-test+then-live-k-ge-LIVE+in_default w ↦
          let u = w.literals.invariant in
          rw (w.t-is ∙ u.1, w.count-is ∙ u.2, w.clash-is)
          (held_clash v w.clauses-test.true w.if-live-k-ge-LIVE.true (ap (λ b. b.now) w.of-literals.ensures ∙ w.clause_at.ensures) (visit_none_left u.4 _ _ w.in_default.ensures.steps.0))
    ] in
    done_swept done
