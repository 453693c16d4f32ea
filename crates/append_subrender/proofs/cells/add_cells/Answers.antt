-- Assumes nothing.
use Rattle.std.proofs.Common.{refl, arith}
use borrow.Author.Rules.{rules}
use Rattle.append_subrender.proofs.Stacking.{stack_start, stack_on, stack_broken, stack_few, stack_end}
use Rattle.append_subrender.proofs.cells.add_cells.Goals as goal

pub loop-cell-init : goal.loop-cell-init
loop-cell-init c =
    rw (c.into_iter-cell-iterator.ensures.into_iter_gives, c.new-cell-items.ensures) (stack_start _ _ _ _ _ _ c.requires.0 c.requires.1 c.requires.2 refl)

pub stack_cell-next-requires : goal.stack_cell-next-requires
stack_cell-next-requires c =
    let w = c.loop-cell.invariant in
    (w.bounds, w.waiting, stack_few _ _ _ _ _ _ _ _ _ w)

pub loop-cell-preserved-in-Ok : goal.loop-cell-preserved-in-Ok
loop-cell-preserved-in-Ok c =
    let next = rw c.in-Ok.is at c.in-Some.ensures.steps in
    let e = c.stack_cell-next.ensures.in_bounds in
    stack_on _ _ _ _ _ _ _ _ _ c.loop-cell.invariant _ _ _ _ next (search rules) e.0 e.1 e.2 c.stack_cell-next.ensures.stacks_cell

pub loop-cell-preserved : goal.loop-cell-preserved
loop-cell-preserved c =
    let next = rw c.in_default.is at c.in-Some.ensures.steps in
    stack_broken _ _ _ _ _ _ _ _ _ c.loop-cell.invariant _ next

pub shape_of-out : goal.shape_of-out
shape_of-out c =
    c.loop-cell.invariant.size

pub returns : goal.returns
returns c =
    let w = c.loop-cell.invariant in
    let few = stack_few _ _ _ _ _ _ _ _ _ w in
    record { in_bounds = (w.bounds, w.waiting, omega (arith, few)); adds_cells = stack_end _ _ _ _ _ _ _ _ _ w c.in-None.ensures.steps.0 }
