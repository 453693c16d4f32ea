-- `row::row_has_holes` meets its contract: no seat passed has a hole, and the seats ahead tell.
-- Assumes nothing.
use Rattle.row_fit.proofs.HoleLaws.{NoneYet}
use Rattle.row_fit.proofs.row.row_has_holes.Given as goal

abbrev pub invariant-loop-seat : goal.invariant-loop-seat
invariant-loop-seat l = NoneYet l.row l.collapse l.height l.seat-iterator
