-- `overlap::overlaps` meets its contract: what the holes left give is what all give.
-- Assumes nothing.
use Rattle.places.specs.Holes.{holes_left}
use Rattle.holes.proofs.OverlapLaws.{Looks}
use Rattle.holes.proofs.overlap.overlaps.Given as goal

abbrev pub invariant-loop-hole : goal.invariant-loop-hole
invariant-loop-hole l = Looks l.holes l.count l.pos (holes_left l.hole-iterator)
