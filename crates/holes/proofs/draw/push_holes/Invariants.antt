-- `draw::push_holes` meets its contract: what is drawn so far and the holes left give the whole.
-- Assumes nothing.
use Rattle.places.specs.Holes.{holes_left}
use Rattle.holes.proofs.DrawLaws.{Drawing}
use Rattle.holes.proofs.draw.push_holes.Given as goal

abbrev pub invariant-loop-hole : goal.invariant-loop-hole
invariant-loop-hole l = Drawing l.initial.out l.initial.drawn l.annotation l.border.segments.now l.border.holes.now l.to l.shown l.end l.out l.drawn l.pos (holes_left l.hole-iterator)
