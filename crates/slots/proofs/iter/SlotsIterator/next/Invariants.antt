-- `iter::SlotsIterator::next`: what is ahead stays the same, and gets no more.
-- Assumes nothing.
use Rattle.std.proofs.Common.{length}
use Rattle.slots.proofs.SlotSteps.{Walked}
use Rattle.slots.proofs.iter.SlotsIterator.next.Given as goal

abbrev pub invariant-loop-seat : goal.invariant-loop-seat
invariant-loop-seat l = Walked l.fn.self l.self

abbrev pub decreases-loop-seat : goal.decreases-loop-seat
decreases-loop-seat l = length l.self.hanging.now
