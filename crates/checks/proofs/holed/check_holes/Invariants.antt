-- `checks::holed::check_holes` meets its contract: the refusal so far and those of the holes left give that of all.
-- Assumes nothing.
use Rattle.fields.specs.Refusal.{number_of}
use Rattle.fields.specs.Spans.{raw_holes}
use Rattle.fields.specs.SpanRefusals.{holes_refusal}
use Rattle.places.specs.Holes.{holes_left}
use Rattle.checks.proofs.HoleLaws.{HoleWalk}
use Rattle.checks.proofs.holed.check_holes.Given as goal

abbrev pub invariant-loop-hole : goal.invariant-loop-hole
invariant-loop-hole l = HoleWalk l.segments (holes_refusal l.segments (raw_holes l.holes)) (holes_left l.hole-iterator) (number_of l.worst)
