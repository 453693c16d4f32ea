-- `hang::hang_on` meets its contract: what hangs on of the cells passed stands, and the others are left.
-- Assumes nothing.
use Rattle.overhang.proofs.RowLaws.{Turns}
use Rattle.overhang.proofs.hang.hang_on.Given as goal

abbrev pub invariant-loop-seat : goal.invariant-loop-seat
invariant-loop-seat l = Turns l.options l.height l.collapse l.row l.initial.out l.initial.next l.seat-iterator l.out l.next
