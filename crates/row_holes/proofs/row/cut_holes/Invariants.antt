-- `row::cut_holes` meets its contract: the border is cut for the seats passed, and the others are left.
-- Assumes nothing.
use Rattle.row_holes.proofs.RowLaws.{Cutting}
use Rattle.row_holes.proofs.row.cut_holes.Given as goal

abbrev pub invariant-loop-seat : goal.invariant-loop-seat
invariant-loop-seat l = Cutting l.annotation l.collapse l.height l.initial.seat-iterator l.initial.border l.initial.laid l.seat-iterator l.border l.laid l.pos
