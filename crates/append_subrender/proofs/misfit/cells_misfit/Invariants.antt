-- `misfit::cells_misfit` meets its contract: the cells passed do not overlap, and those left tell.
-- Assumes nothing.
use Rattle.fields.specs.List.{left}
use Rattle.append_subrender.proofs.Telling.{LookedCells}
use Rattle.append_subrender.proofs.misfit.cells_misfit.Given as goal

abbrev pub invariant-loop-cell : goal.invariant-loop-cell
invariant-loop-cell l = LookedCells l.cells (left l.cell-iterator)
