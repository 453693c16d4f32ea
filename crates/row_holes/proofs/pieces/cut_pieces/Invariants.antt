-- `pieces::cut_pieces` meets its contract: the border is cut for the pieces passed, and the others are left.
-- Assumes nothing.
use Rattle.row_holes.proofs.PieceLaws.{Cutting}
use Rattle.row_holes.proofs.pieces.cut_pieces.Given as goal

abbrev pub invariant-loop-part : goal.invariant-loop-part
invariant-loop-part l = Cutting l.initial.part-iterator l.pos l.initial.border l.part-iterator l.x l.border
