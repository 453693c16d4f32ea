-- `seat::seat_fit` meets its contract.
-- Assumes nothing.
use Rattle.std.proofs.Common.{rules}
use Rattle.row_fit.proofs.SeatLaws.{seat_wide, seat_crossed, seat_fits}
use Rattle.row_fit.proofs.seat.seat_fit.Goals as goal
use Rattle.row_fit.proofs.seat.seat_fit.Goals.{then-too_wide-via-then-too_wide, then-too_wide-via-else-too_wide+then-lines_overlap}

pub returns-then-too_wide : goal.returns-then-too_wide
returns-then-too_wide c =
    elim c.then-too_wide.branch [
      | then-too_wide-via-then-too_wide w ↦ seat_wide c.args.seat _ _ _ c.body_of-body.result _ c.body_of-body.ensures.finds_body c.too_wide.ensures w.if-too_wide.true
      | then-too_wide-via-else-too_wide+then-lines_overlap w ↦ seat_crossed c.args.seat _ _ _ c.body_of-body.result _ w.lines_overlap.result c.body_of-body.ensures.finds_body c.too_wide.ensures
          w.lines_overlap.ensures w.if-lines_overlap.true
    ]

pub returns : goal.returns
returns c =
    seat_fits c.args.seat _ _ _ c.body_of-body.result _ _ _ c.body_of-body.ensures.finds_body c.too_wide.ensures c.if-too_wide.false c.lines_overlap.ensures
    c.if-lines_overlap.false (search rules) c.through_cols.ensures.counts_through
