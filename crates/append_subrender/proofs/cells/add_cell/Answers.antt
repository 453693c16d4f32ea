-- Assumes nothing.
use Rattle.std.proofs.Common.{refl, arith}
use borrow.Author.Rules.{rules}
use Rattle.append_subrender.proofs.Stacking.{within_start, within_on, within_broken, within_end}
use Rattle.append_subrender.proofs.cells.add_cell.Goals as goal

pub loop-field-init : goal.loop-field-init
loop-field-init c =
    rw (c.into_iter-field-iterator.ensures.into_iter_gives, c.new-field-items.ensures) (within_start _ _ _ _ _ _ c.requires.0 c.requires.1 refl)

pub slice_bounds-waiting-count : goal.slice_bounds-waiting-count
slice_bounds-waiting-count c =
    c.loop-field.invariant.waiting

pub add_prefixed-requires : goal.add_prefixed-requires
add_prefixed-requires c =
    c.loop-field.invariant.bounds

pub loop-field-preserved-in-Ok : goal.loop-field-preserved-in-Ok
loop-field-preserved-in-Ok c =
    let next = rw c.in-Ok.is at c.in-Some.ensures.steps in
    within_on _ _ _ _ _ _ _ _ c.loop-field.invariant _ _ _ _ c.requires.2 next c.add_prefixed.ensures.one_line_more (search rules) c.add_prefixed.ensures.adds_prefixed

pub loop-field-preserved : goal.loop-field-preserved
loop-field-preserved c =
    let next = rw c.in_default.is at c.in-Some.ensures.steps in
    within_broken _ _ _ _ _ _ _ _ c.loop-field.invariant _ next

pub shape_of-out : goal.shape_of-out
shape_of-out c =
    c.loop-field.invariant.size

pub returns : goal.returns
returns c =
    let w = c.loop-field.invariant in
    record { in_bounds = (w.bounds, w.waiting, omega (arith, w.count)); adds_cell = within_end _ _ _ _ _ _ _ _ w c.in-None.ensures.steps.0 }
