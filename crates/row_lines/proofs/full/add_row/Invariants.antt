-- `full::add_row` meets its contract: the lines that were added, and those that the seats have left, are all lines of the row; the first of
-- them took the names.
-- Assumes nothing.
use Rattle.row_lines.proofs.FullLaws.{LinesTo}
use Rattle.row_lines.proofs.full.add_row.Given as goal

abbrev pub invariant-loop-above : goal.invariant-loop-above
invariant-loop-above l = LinesTo l.initial.out l.initial.next l.names l.options l.row l.collapse l.height l.out l.marks l.next l.waiting l.above
