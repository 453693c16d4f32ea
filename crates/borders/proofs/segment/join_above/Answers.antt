-- `segment::join_above` meets its contract: the segment's arm, or no arm. Assumes nothing.
use Rattle.std.proofs.Common.{rules}
use Rattle.borders.specs.declared.border.Side.TheVariants.{Above}
use Rattle.borders.specs.BorderSegHoriz.{with_above}
use Rattle.borders.proofs.Segments.{at_byte, joined_same}
use Rattle.borders.proofs.segment.join_above.Goals as goal

pub returns : goal.returns
returns c = at_byte with_above c.try_from.result c.try_from.ensures c.map_or.ensures (λ s p. search rules) (λ h. joined_same Above c.args.segment h c.ranges.segment.fits)
