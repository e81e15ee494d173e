-- `mapping::load_witness` meets its contract: the variables passed are those that the table has mapped, each listed once. Assumes nothing.
use mathlib.Core.Logic.{inl}
use Prim.Native.Nat.{◌*◌}
use mathlib.Core.Path.{◌≡◌, sym, ◌∙◌}
use native.Mathlib.Omega.{arith}
use Rattle.mapping.specs.Mapping.{said_by, table_after}
use Rattle.codes.proofs.Room.{mappings_room}
use Rattle.mapping.proofs.Pairs.{fits_here}
use Rattle.mapping.proofs.Loading.{loading_start, loading_turn, loading_twice, loading_back, loading_once, loading_end, place_here}
use Rattle.mapping.proofs.load_witness.Goals as goal

pub loop-k-init-derived : goal.loop-k-init-derived
loop-k-init-derived c =
    let e = c.enumerate-k-items.ensures in
    ((tt, tt, inl (rw (c.into_iter-k-iterator.ensures.into_iter_gives, e.source, e.count, c.mapped.ensures) (omega (arith, mappings_room c.args.w.now)))), tt)

pub loop-k-init : goal.loop-k-init
loop-k-init c =
    let e = c.enumerate-k-items.ensures in
    rw (c.into_iter-k-iterator.ensures.into_iter_gives, e.source, e.count, c.mapped.ensures) (loading_start _ _ c.requires.1.1.0 c.requires.1.1.1)

pub is_mapped-requires : goal.is_mapped-requires
is_mapped-requires c = ((fits_here c.in-Some.ensures.steps.0 c.loop-k.invariant.fits).1.0, omega arith)

pub returns-then-is_mapped : goal.returns-then-is_mapped
unfolding said_by table_after
returns-then-is_mapped c =
    let n = c.loop-k.invariant in
    let s = c.in-Some.ensures.steps in
    record {
      said = λ why p. loading_twice n s.0 s.1 (sym c.is_mapped.ensures ∙ c.if-is_mapped.true) why p;
      place = λ i e. let h = place_here n s.0 s.1 in let q : 4 * c.in-Some.k ≡ i = cc in omega arith;
      table = c.unload_witness.ensures ∙ loading_back n c.requires.0 c.requires.1.1.0 c.requires.1.1.1;
    }

pub set_image-requires : goal.set_image-requires
set_image-requires c =
    let f = fits_here c.in-Some.ensures.steps.0 c.loop-k.invariant.fits in
    (omega arith, (omega arith, omega arith))

pub loop-k-preserved : goal.loop-k-preserved
loop-k-preserved c =
    let s = c.in-Some.ensures.steps in
    rw s.2 (loading_turn c.loop-k.invariant s.0 (omega arith) (sym c.is_mapped.ensures ∙ c.if-is_mapped.false) c.set_image.ensures)

pub returns : goal.returns
unfolding said_by table_after
returns c =
    record {
      said = loading_once c.loop-k.invariant c.in-None.ensures.steps.0.0;
      place = λ i e. cc;
      table = loading_end c.loop-k.invariant c.in-None.ensures.steps.0.0;
    }
