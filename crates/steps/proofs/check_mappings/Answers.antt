-- `check_mappings` refuses what the paper refuses. The invariant: the check of the mappings left decides the check of all.
use Prim.Native.Nat.{◌+◌, ◌*◌}
use mathlib.Core.Path.{◌≡◌, refl, sym, ap, ◌∙◌}
use native.Mathlib.Omega.{arith}
use lib.ListN.{length}
use Rattle.std.proofs.Common.{rules}
use Rattle.paper.specs.Refusals.{between, check_mappings}
use Rattle.field.specs.Field.{result_of}
use Rattle.codes.proofs.Room.{mappings_room}
use Rattle.steps.proofs.Mappings.{variable_refused, atom_refused, mapping_fine}
use Rattle.steps.proofs.check_mappings.Goals as goal
use Rattle.steps.proofs.check_mappings.Goals.{After-contains}

-- the test of the range is the paper's
range : (c : After-contains) → c.contains.result ≡ between 1 c.args.vars c.in-Some.v
unfolding between
range c = search rules

pub loop-k-init : goal.loop-k-init
loop-k-init c =
    let z : c.into_iter-k-iterator.result.count ≡ 0 = cc in
    let b : c.into_iter-k-iterator.result.iter.bytes.now ≡ c.args.part.bytes.now = cc in
    let e : c.args.part.start + 4 * c.into_iter-k-iterator.result.count ≡ c.args.part.start = omega arith in
    (rw b (omega (arith, mappings_room c.args.part.bytes.now)), rw (e, b) refl)

pub returns-then-not-contains : goal.returns-then-not-contains
unfolding result_of
returns-then-not-contains c =
    let s = c.in-Some.ensures.steps in
    let t = range (goal.at.returns-then-not-contains c).After-contains in
    rw s.1 (sym (ap result_of (sym c.loop-k.invariant.1 ∙ variable_refused _ _ _ _ s.0 (sym t ∙ c.if-not-contains.true))))

pub returns-then-vars-atom : goal.returns-then-vars-atom
unfolding result_of
returns-then-vars-atom c =
    let s = c.in-Some.ensures.steps in
    let t = range (goal.at.returns-then-vars-atom c).After-contains in
    rw s.1 (sym (ap result_of (sym c.loop-k.invariant.1 ∙ atom_refused _ _ _ _ s.0 (sym t ∙ c.if-not-contains.false) c.if-vars-atom.true)))

pub loop-k-preserved : goal.loop-k-preserved
loop-k-preserved c =
    let s = c.in-Some.ensures.steps in
    let e = mapping_fine c.args.vars (c.args.part.start + 4 * c.loop-k.k-iterator.count) _ _ s.0 (sym (range (goal.at.loop-k-preserved c).After-contains) ∙ c.if-not-contains.false) c.if-vars-atom.false in
    let q : c.args.part.start + 4 * c.next.new.self.count ≡ c.args.part.start + 4 * c.loop-k.k-iterator.count + 4 = omega (arith, s.2) in
    (omega (arith, ap length s.0, s.2), rw q (sym e ∙ c.loop-k.invariant.1))

pub returns : goal.returns
unfolding result_of check_mappings
returns c = sym (ap result_of (sym c.loop-k.invariant.1 ∙ ap (check_mappings _ _) c.in-None.ensures.steps.0.0))
