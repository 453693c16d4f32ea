-- `seat::add_seat` meets its contract: a text or a border that is left, the pattern of the last border, or spaces.
-- Assumes nothing.
use mathlib.Core.Path.{sym, ◌∙◌}
use Rattle.row_lines.proofs.SeatLaws.{seat_none, seat_text, seat_pattern, seat_border}
use Rattle.row_lines.proofs.seat.add_seat.Goals as goal

pub returns-in_default-clause-adds_seat : goal.returns-in_default-clause-adds_seat
returns-in_default-clause-adds_seat c =
    seat_none _ _ _ _ c.args.options _ _ _ c.args.collapse c.in_default.ensures.splits_off c.push_ws.ensures.pushes_spaces

pub returns-then-first-eq76-clause-adds_seat : goal.returns-then-first-eq76-clause-adds_seat
returns-then-first-eq76-clause-adds_seat c =
    seat_text _ _ _ _ c.args.options _ _ _ c.args.collapse c.in-Some.first _ c.in-Some.ensures.splits_off c.if-first-eq76.true c.add_cell_text-line.ensures.adds_cell_text

pub returns-then-leaves_pattern-clause-adds_seat : goal.returns-then-leaves_pattern-clause-adds_seat
returns-then-leaves_pattern-clause-adds_seat c =
    seat_pattern _ _ _ _ c.args.options _ _ _ c.args.collapse c.in-Some.first _ c.in-Some.ensures.splits_off (sym c.leaves_pattern.ensures ∙ c.if-leaves_pattern.true)
    c.of-border.result c.of-border.ensures.reads_border c.push_drawn-line.ensures.draws

pub returns-clause-adds_seat : goal.returns-clause-adds_seat
returns-clause-adds_seat c =
    seat_border _ _ _ _ c.args.options _ _ _ c.args.collapse c.in-Some.first _ c.in-Some.ensures.splits_off c.if-first-eq76.false
    (sym c.leaves_pattern.ensures ∙ c.if-leaves_pattern.false) c.of-border.result c.of-border.ensures.reads_border c.push_holed.ensures.pushes_holed
