-- `line::cut_seat` meets its contract: the pieces of the line there. Assumes nothing.
use Rattle.std.proofs.Common.{arith}
use Rattle.row_holes.proofs.ThroughLaws.{spaces_stand, text_stands, border_stands}
use Rattle.row_holes.proofs.RowLaws.{cuts_none, cuts_there, past_room, cuts_long}
use Rattle.row_holes.proofs.line.cut_seat.Goals as goal

pub returns-then-seat-lt2-clause-cuts_seat : goal.returns-then-seat-lt2-clause-cuts_seat
returns-then-seat-lt2-clause-cuts_seat c = cuts_none c.args.seat _ _ _ _ _ _ c.if-seat-lt2.true

pub returns-in-None-clause-cuts_seat : goal.returns-in-None-clause-cuts_seat
returns-in-None-clause-cuts_seat c =
    cuts_there c.args.seat _ _ _ _ _ _ _ _ _ c.if-seat-lt2.false (spaces_stand c.args.seat _ _ _ c.in-None.ensures) c.cut_pieces.ensures.cuts_pieces

pub returns-then-line-eq76-clause-cuts_seat : goal.returns-then-line-eq76-clause-cuts_seat
returns-then-line-eq76-clause-cuts_seat c =
    let found = rw c.in-Some-Ok.field-0-is at c.in-Some-Ok.ensures in
    cuts_there c.args.seat _ _ _ _ _ _ _ _ _ c.if-seat-lt2.false (text_stands c.args.seat _ _ _ c.in-Some-Ok.line found c.if-line-eq76.true) c.cut_pieces-then-line-eq76.ensures.cuts_pieces

pub returns-in-Some-clause-cuts_seat : goal.returns-in-Some-clause-cuts_seat
returns-in-Some-clause-cuts_seat c =
    let found = rw c.in-Some-Ok.field-0-is at c.in-Some-Ok.ensures in
    let there = c.in-Some.ensures.lookup.0 in
    let laid = c.lay_border-end.ensures in
    cuts_there c.args.seat _ _ _ _ _ _ _ _ _ c.if-seat-lt2.false
    (border_stands c.args.seat _ _ c.in-Some-Ok.line found c.if-line-eq76.false _ c.of.ensures.reads_border _ _ laid.lays_border _ _
    (omega (arith, laid.laid_len_unchanged.0, c.requires.1)) there.1 there.2)
    c.cut_pieces-in-Some.ensures.cuts_pieces

pub returns-in_default-clause-cuts_seat : goal.returns-in_default-clause-cuts_seat
returns-in_default-clause-cuts_seat c =
    let found = rw c.in-Some-Ok.field-0-is at c.in-Some-Ok.ensures in
    let laid = c.lay_border-end.ensures in
    cuts_long c.args.seat _ _ c.in-Some-Ok.line found c.if-line-eq76.false c.if-seat-lt2.false _ c.of.ensures.reads_border _ _ laid.lays_border _ _ _ _
    (past_room _ _ _ c.in_default.ensures.lookup.0 laid.laid_len_unchanged.1 laid.laid_len_unchanged.0)
