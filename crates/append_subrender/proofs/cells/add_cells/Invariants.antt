-- `cells::add_cells` meets its contract: the cells added so far, and those left, give the whole.
-- Assumes nothing.
use Rattle.fields.specs.List.{left}
use Rattle.append_subrender.proofs.Stacking.{Stack}
use Rattle.append_subrender.proofs.cells.add_cells.Given as goal

abbrev pub invariant-loop-cell : goal.invariant-loop-cell
invariant-loop-cell l = Stack l.initial.out l.fn.lines l.options l.names l.cells l.out l.next l.between (left l.cell-iterator)
