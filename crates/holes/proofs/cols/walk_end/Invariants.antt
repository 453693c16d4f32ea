-- `cols::walk_end` meets its contract: from here the walk ends where the whole one does.
-- Assumes nothing.
use Rattle.places.specs.Holes.{holes_left}
use Rattle.holes.proofs.WidthLaws.{Walked}
use Rattle.holes.proofs.cols.walk_end.Given as goal

abbrev pub invariant-loop-hole : goal.invariant-loop-hole
invariant-loop-hole l = Walked l.holes l.end l.pos (holes_left l.hole-iterator)
