-- `seat::add_edge` meets its contract: a bar, or a space. Assumes nothing.
use Rattle.row_lines.proofs.SeatLaws.{edge_bar, edge_space}
use borrow.Author.Rules.{rules}
use Rattle.row_lines.proofs.seat.add_edge.Goals as goal

pub returns-then-options : goal.returns-then-options
returns-then-options c =
    record { line_grown = search rules; adds_edge = edge_bar _ _ _ _ c.args.options c.if-options.true c.push_bar.ensures.pushes }

pub returns : goal.returns
returns c =
    record { line_grown = search rules; adds_edge = edge_space _ _ _ _ c.args.options c.if-options.false c.push_str.ensures.pushes }
