-- `seat::add_cell_text` meets its contract: the columns that the pieces took are theirs, and spaces fill the cell. Assumes nothing.
use Rattle.row_lines.proofs.SeatLaws.{text_filled, text_full}
use borrow.Author.Rules.{rules}
use Rattle.row_lines.proofs.seat.add_cell_text.Goals as goal

pub returns-then-used-to : goal.returns-then-used-to
returns-then-used-to c =
    record { line_grown = search rules; adds_cell_text = text_filled _ _ _ _ _ _ c.add_pieces-next.ensures.adds_pieces (search rules) _ _ c.args.annotation _ c.push_ws.ensures.pushes_spaces }

pub returns : goal.returns
returns c =
    record { line_grown = search rules; adds_cell_text = text_full _ _ _ _ _ _ c.add_pieces-next.ensures.adds_pieces (search rules) c.args.annotation _ c.if-used-to.false }
