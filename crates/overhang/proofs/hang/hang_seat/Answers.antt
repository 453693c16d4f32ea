-- `hang::hang_seat` meets its contract.
-- Assumes nothing.
use Rattle.overhang.proofs.HangLaws.{seat_none, seat_hangs}
use Rattle.overhang.proofs.hang.hang_seat.Goals as goal

pub returns-then-seat-le1-clause-hangs_seat : goal.returns-then-seat-le1-clause-hangs_seat
returns-then-seat-le1-clause-hangs_seat c = seat_none _ _ c.args.options c.args.seat _ c.args.height c.if-seat-le1.true

pub returns-clause-hangs_seat : goal.returns-clause-hangs_seat
returns-clause-hangs_seat c =
    seat_hangs _ _ _ _ c.args.options c.args.seat _ _ c.cell_below-cell.result c.if-seat-le1.false c.cell_below-cell.ensures c.put_hanging.ensures.hangs_on
