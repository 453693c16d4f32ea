-- `row::RowLine::add_marked` meets its contract: what the seat gives from its mark on, and the mark behind it.
-- Assumes nothing.
use Rattle.row_lines.proofs.RowLaws.{marked_added}
use Rattle.row_lines.proofs.row.RowLine.add_marked.Goals as goal

pub returns-clause-adds_marked : goal.returns-clause-adds_marked
returns-clause-adds_marked c =
    marked_added _ _ _ _ _ _ c.args.options c.args.seat _ c.args.self.collapse _ _ _ _ _ c.open_seat-opened.ensures.opens_seat c.lines_left-left.ensures.known
    c.lines_left-left.ensures.ends c.lines_left-left.ensures.finds_marked c.add_seat.ensures.ends c.add_seat.ensures.adds_seat c.set_mark.ensures
