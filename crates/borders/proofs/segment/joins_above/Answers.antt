-- `segment::joins_above` meets its contract: the segment's arm, or no arm. Assumes nothing.
use Rattle.std.proofs.Common.{rules}
use Rattle.borders.specs.declared.border.Side.TheVariants.{Above}
use Rattle.borders.specs.BorderSegHoriz.{joins_above}
use Rattle.borders.proofs.Segments.{at_byte, joins_none}
use Rattle.borders.proofs.segment.joins_above.Goals as goal

pub returns : goal.returns
returns c = at_byte joins_above c.try_from.result c.try_from.ensures c.map_or.ensures (λ s p. search rules) (λ h. joins_none Above h c.ranges.segment.fits)
