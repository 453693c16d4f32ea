-- `iter::SlotsIterator::next` meets its contract: it gives the first of the seats ahead.
-- Assumes nothing.
use Rattle.std.proofs.Common.{refl}
use Rattle.slots.proofs.SlotSteps.{walk_passes, walk_last, walk_instead, walk_behind}
use Rattle.slots.proofs.iter.SlotsIterator.next.Goals as goal

pub returns-in-Some-front-clause-steps : goal.returns-in-Some-front-clause-steps
returns-in-Some-front-clause-steps c =
    walk_passes _ c.loop-seat.self c.give.new.self _ c.in-Some.seat c.in-Some.rest _ c.loop-seat.invariant c.in-Some-front.is c.in-Some.ensures.splits_hanging c.if-front-seat.true c.give.ensures

pub loop-seat-preserved-in-Some-2 : goal.loop-seat-preserved-in-Some-2
loop-seat-preserved-in-Some-2 c =
    walk_instead _ c.loop-seat.self _ c.in-Some-front.front c.in-Some.seat c.in-Some.rest c.loop-seat.invariant c.in-Some-front.is c.in-Some.ensures.shorter c.in-Some.ensures.splits_hanging
    c.if-front-seat.false refl refl refl refl refl refl refl

pub loop-seat-preserved : goal.loop-seat-preserved
loop-seat-preserved c =
    walk_behind _ c.loop-seat.self c.put_behind.new.self c.in-Some.seat c.in-Some.rest c.loop-seat.invariant c.in-None.is c.in-Some.ensures.shorter c.in-Some.ensures.splits_hanging
    c.put_behind.ensures

pub returns-clause-steps : goal.returns-clause-steps
returns-clause-steps c = walk_last _ c.loop-seat.self c.give-2.new.self _ c.loop-seat.invariant c.in_default.ensures.splits_hanging c.give-2.ensures
