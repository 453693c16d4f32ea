-- `chop::chop_left` meets its contract: the segment's arm, or no arm. Assumes nothing.
use Rattle.std.proofs.Common.{rules}
use Rattle.borders.specs.BorderSegHoriz.{chop_left}
use Rattle.borders.proofs.Segments.{at_byte, chop_left_same}
use Rattle.long_borders.proofs.chop.chop_left.Goals as goal

pub returns : goal.returns
returns c = at_byte chop_left c.try_from.result c.try_from.ensures c.map_or.ensures (λ s p. search rules) (λ h. chop_left_same c.args.segment h c.ranges.segment.fits)
