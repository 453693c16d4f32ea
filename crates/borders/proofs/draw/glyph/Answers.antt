-- `draw::glyph` meets its contract: one of the two tables, in which every character is below 10000. Assumes nothing.
use Rattle.std.proofs.Common.{◌≡◌}
use Rattle.borders.specs.BorderHoriz.{glyph}
use Rattle.borders.proofs.Glyphs.{glyph_below}
use Rattle.borders.proofs.draw.glyph.Goals as goal

pub returns-in-Segments : goal.returns-in-Segments
unfolding glyph
returns-in-Segments c =
    let e : _ ≡ glyph c.args.drawing c.args.byte = rw c.in-Segments.is c.seg_to_char.ensures in
    record { value = e; upper_bound = rw e (glyph_below c.args.drawing c.args.byte) }

pub returns-in-LinesAbove : goal.returns-in-LinesAbove
unfolding glyph
returns-in-LinesAbove c =
    let e : _ ≡ glyph c.args.drawing c.args.byte = rw c.in-LinesAbove.is c.line_above.ensures in
    record { value = e; upper_bound = rw e (glyph_below c.args.drawing c.args.byte) }
