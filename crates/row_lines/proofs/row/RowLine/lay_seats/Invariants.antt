-- `row::RowLine::lay_seats` meets its contract: the seats that were passed are on the line, and their marks stand one line further.
-- Assumes nothing.
use Rattle.row_lines.proofs.RowLaws.{LaidTo}
use Rattle.row_lines.proofs.row.RowLine.lay_seats.Given as goal

abbrev pub invariant-loop-seat : goal.invariant-loop-seat
invariant-loop-seat l = LaidTo l.initial.out l.initial.line l.options l.self.row.now l.self.collapse l.self.above l.initial.marks l.out l.marks l.line l.seat-iterator l.k
