-- `segment::line_above` meets its contract: the segment's arm, or no arm. Assumes nothing.
use Rattle.std.proofs.Common.{rules}
use Rattle.borders.specs.declared.draw.Drawing.TheVariants.{LinesAbove}
use Rattle.borders.specs.BorderHoriz.{glyph}
use Rattle.borders.specs.BorderSegHoriz.{line_above}
use Rattle.borders.proofs.Segments.{at_byte}
use Rattle.borders.proofs.Glyphs.{no_glyph}
use Rattle.borders.proofs.segment.line_above.Goals as goal

pub returns : goal.returns
unfolding glyph line_above
returns c = at_byte line_above c.try_from.result c.try_from.ensures c.map_or.ensures (λ s p. search rules) (λ h. no_glyph LinesAbove h c.ranges.segment.fits)
