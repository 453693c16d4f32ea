-- `text::push_seat` meets its contract: the line is the first of those from the height on. Assumes nothing.
use Rattle.std.proofs.Common.{arith}
use Rattle.row_holes.proofs.TextLaws.{seat_none, seat_spaces, seat_there}
use Rattle.row_holes.proofs.text.push_seat.Goals as goal

pub returns-then-seat-lt2-clause-pushes_seat : goal.returns-then-seat-lt2-clause-pushes_seat
returns-then-seat-lt2-clause-pushes_seat c = seat_none c.args.seat _ c.args.out.now _ c.args.line c.args.annotation _ c.args.collapse c.args.height c.args.x (omega (arith, c.if-seat-lt2.true))

pub returns-in-None-clause-pushes_seat : goal.returns-in-None-clause-pushes_seat
returns-in-None-clause-pushes_seat c =
    seat_spaces c.args.seat _ _ _ _ _ _ _ _ _ _ _ (omega arith) c.requires.1 c.in-None.ensures c.push_up_to_hole-begun.ensures.pushes_up_to_hole c.push_ws.ensures.pushes_spaces

pub returns-in-Some-Ok-clause-pushes_seat : goal.returns-in-Some-Ok-clause-pushes_seat
returns-in-Some-Ok-clause-pushes_seat c = seat_there c.args.seat _ _ _ _ _ _ _ _ _ c.in-Some-Ok.field (omega arith) (rw c.in-Some-Ok.field-0-is at c.in-Some-Ok.ensures) c.push_there.ensures.pushes_there
