-- `pieces::put_pieces` meets its contract: the holes of the pieces passed are put, and the others are left.
-- Assumes nothing.
use Rattle.row_holes.proofs.PieceLaws.{Putting}
use Rattle.row_holes.proofs.pieces.put_pieces.Given as goal

abbrev pub invariant-loop-part : goal.invariant-loop-part
invariant-loop-part l = Putting l.initial.part-iterator l.pos l.initial.out l.place l.part-iterator l.x l.out l.at
