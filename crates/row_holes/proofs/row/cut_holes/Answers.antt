-- Assumes nothing.
use Rattle.row_holes.proofs.RowLaws.{cut_on, cut_end}
use Rattle.row_holes.proofs.row.cut_holes.Goals as goal

pub loop-seat-preserved : goal.loop-seat-preserved
loop-seat-preserved c =
    let e = c.cut_seat.ensures in
    cut_on _ _ _ _ _ _ _ _ _ _ c.in-Some.seat _ _ _ _ c.loop-seat.invariant c.in-Some.ensures.steps e.same_buffer e.room.0 e.room.1 e.cuts_seat c.advance-pos.ensures.upper_bound c.advance-pos.ensures.advances

pub returns-clause-cuts_holes : goal.returns-clause-cuts_holes
returns-clause-cuts_holes c =
    let begins = rw (← c.into_iter-seat-iterator.ensures.into_iter_gives) at c.iter-seat-items.ensures in
    cut_end _ _ _ _ _ _ _ _ _ _ c.next.new.self c.args.row.now c.loop-seat.invariant c.in-None.ensures.steps begins
