-- `segment::join_below` meets its contract: the segment's arm, or no arm. Assumes nothing.
use Rattle.std.proofs.Common.{rules}
use Rattle.borders.specs.declared.border.Side.TheVariants.{Below}
use Rattle.borders.specs.BorderSegHoriz.{with_below}
use Rattle.borders.proofs.Segments.{at_byte, joined_same}
use Rattle.borders.proofs.segment.join_below.Goals as goal

pub returns : goal.returns
returns c = at_byte with_below c.try_from.result c.try_from.ensures c.map_or.ensures (λ s p. search rules) (λ h. joined_same Below c.args.segment h c.ranges.segment.fits)
