-- `segment::seg_to_char` meets its contract: the segment's arm, or no arm. Assumes nothing.
use Rattle.std.proofs.Common.{rules}
use Rattle.borders.specs.declared.draw.Drawing.TheVariants.{Segments}
use Rattle.borders.specs.BorderHoriz.{glyph}
use Rattle.borders.specs.BorderSegHoriz.{seg_to_char}
use Rattle.borders.proofs.Segments.{at_byte}
use Rattle.borders.proofs.Glyphs.{no_glyph}
use Rattle.borders.proofs.segment.seg_to_char.Goals as goal

pub returns : goal.returns
unfolding glyph seg_to_char
returns c = at_byte seg_to_char c.try_from.result c.try_from.ensures c.map_or.ensures (λ s p. search rules) (λ h. no_glyph Segments h c.ranges.segment.fits)
