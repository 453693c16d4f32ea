-- `line::put_seat` meets its contract: the pieces of the line there. Assumes nothing.
use Rattle.std.proofs.Common.{arith, length}
use Rattle.row_holes.proofs.ThroughLaws.{spaces_stand, text_stands, border_stands}
use Rattle.row_holes.proofs.RowLaws.{puts_there, past_room, puts_long}
use Rattle.row_holes.proofs.line.put_seat.Goals as goal

pub returns-in-None-clause-puts_seat : goal.returns-in-None-clause-puts_seat
returns-in-None-clause-puts_seat c = puts_there c.args.seat _ _ _ _ _ _ _ (length c.args.laid.now) _ _ _ (spaces_stand c.args.seat _ _ _ c.in-None.ensures) c.put_pieces.ensures.puts_pieces

pub returns-then-line-eq76-clause-puts_seat : goal.returns-then-line-eq76-clause-puts_seat
returns-then-line-eq76-clause-puts_seat c =
    let found = rw c.in-Some-Ok.field-0-is at c.in-Some-Ok.ensures in
    puts_there c.args.seat _ _ _ _ _ _ _ (length c.args.laid.now) _ _ _ (text_stands c.args.seat _ _ _ c.in-Some-Ok.line found c.if-line-eq76.true) c.put_pieces-then-line-eq76.ensures.puts_pieces

pub returns-in_ok-pieces-in-Some-Ok-clause-puts_seat : goal.returns-in_ok-pieces-in-Some-Ok-clause-puts_seat
returns-in_ok-pieces-in-Some-Ok-clause-puts_seat c =
    let found = rw c.in-Some-Ok.field-0-is at c.in-Some-Ok.ensures in
    let there = c.in_ok-pieces-in-Some-Ok.ensures.lookup.0 in
    let laid = c.lay_border-end.ensures in
    puts_there c.args.seat _ _ _ _ _ _ _ (length c.args.laid.now) _ _ _
    (border_stands c.args.seat _ _ c.in-Some-Ok.line found c.if-line-eq76.false _ c.of.ensures.reads_border _ _ laid.lays_border _ _
    (omega (arith, laid.laid_len_unchanged.0, c.requires.1)) there.1 there.2) c.put_pieces-in-Some-Ok.ensures.puts_pieces

pub returns-in_err-pieces-in-Some-Ok-clause-puts_seat : goal.returns-in_err-pieces-in-Some-Ok-clause-puts_seat
returns-in_err-pieces-in-Some-Ok-clause-puts_seat c =
    let found = rw c.in-Some-Ok.field-0-is at c.in-Some-Ok.ensures in
    let laid = c.lay_border-end.ensures in
    puts_long c.args.seat _ _ c.in-Some-Ok.line found c.if-line-eq76.false _ c.of.ensures.reads_border _ _ laid.lays_border _ _ _ _ _ _ _
    (past_room _ _ _ c.in_err-pieces-in-Some-Ok.ensures.lookup.0 laid.laid_len_unchanged.1 laid.laid_len_unchanged.0) c.from_residual.ensures
