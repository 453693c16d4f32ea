-- Assumes nothing.
use Rattle.std.proofs.Common.{refl}
use Rattle.append_subrender.proofs.Telling.{cells_start, cells_found, cells_on, cells_skip, cells_end}
use Rattle.append_subrender.proofs.misfit.cells_misfit.Goals as goal

pub loop-cell-init : goal.loop-cell-init
loop-cell-init c =
    rw (c.into_iter-cell-iterator.ensures.into_iter_gives, c.new-cell-items.ensures) (cells_start _ _ refl)

pub returns-then-cell_misfit : goal.returns-then-cell_misfit
returns-then-cell_misfit c =
    let next = rw c.in-Ok.is at c.in-Some.ensures.steps in
    cells_found _ _ c.loop-cell.invariant _ _ _ next c.if-cell_misfit.true c.cell_misfit.ensures

pub loop-cell-preserved : goal.loop-cell-preserved
loop-cell-preserved c =
    let next = rw c.in_default.is at c.in-Some.ensures.steps in
    cells_skip _ _ c.loop-cell.invariant _ next

pub loop-cell-preserved-else-cell_misfit : goal.loop-cell-preserved-else-cell_misfit
loop-cell-preserved-else-cell_misfit c =
    let next = rw c.in-Ok.is at c.in-Some.ensures.steps in
    cells_on _ _ c.loop-cell.invariant _ _ _ next c.if-cell_misfit.false c.cell_misfit.ensures

pub returns : goal.returns
returns c =
    cells_end _ _ c.loop-cell.invariant c.in-None.ensures.steps.0
