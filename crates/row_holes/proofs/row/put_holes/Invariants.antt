-- `row::put_holes` meets its contract: the holes of the seats passed are put, and the others are left.
-- Assumes nothing.
use Rattle.row_holes.proofs.RowLaws.{Putting}
use Rattle.row_holes.proofs.row.put_holes.Given as goal

abbrev pub invariant-loop-seat : goal.invariant-loop-seat
invariant-loop-seat l = Putting l.base l.annotation l.collapse l.height l.initial.seat-iterator l.initial.out l.place l.initial.laid l.seat-iterator l.out l.at l.laid l.pos
