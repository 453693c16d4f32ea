-- `cols::pieces_width` meets its contract: the columns so far and those of the pieces left are the columns of all.
-- Assumes nothing.
use Rattle.fields.specs.List.{left}
use Rattle.holes.proofs.WidthLaws.{Counted}
use Rattle.holes.proofs.cols.pieces_width.Given as goal

abbrev pub invariant-loop-piece : goal.invariant-loop-piece
invariant-loop-piece l = Counted l.content l.cols (left l.piece-iterator)
