-- `seat::seat_through` meets its contract.
-- Assumes nothing.
use Rattle.row_fit.proofs.SeatLaws.{seat_counts}
use Rattle.row_fit.proofs.seat.seat_through.Goals as goal

pub returns : goal.returns
returns c = seat_counts c.args.seat _ _ c.body_of-body.result _ c.body_of-body.ensures.finds_body c.through_cols.ensures.counts_through
