-- `cells::add_cell` meets its contract: the lines added so far, and those left, give the whole.
-- Assumes nothing.
use Rattle.fields.specs.List.{left}
use Rattle.append_subrender.proofs.Stacking.{InCell}
use Rattle.append_subrender.proofs.cells.add_cell.Given as goal

abbrev pub invariant-loop-field : goal.invariant-loop-field
invariant-loop-field l = InCell l.initial.out l.initial.next l.options l.names l.body l.out l.next (left l.field-iterator)
