-- `draw::put_glyph` meets its contract: one byte, or three writes of a byte, which are one write of three. Assumes nothing.
use Rattle.fields.proofs.Sets.{wrote_then}
use Rattle.borders.proofs.Glyphs.{glyph_one, glyph_three}
use Rattle.borders.proofs.draw.put_glyph.Goals as goal

pub returns-then-c-lt128 : goal.returns-then-c-lt128
returns-then-c-lt128 c =
    rw (glyph_one c.args.drawing c.args.byte c.glyph-c.ensures.value c.if-c-lt128.true) c.put_byte.ensures

pub returns : goal.returns
returns c =
    rw (glyph_three c.args.drawing c.args.byte c.glyph-c.ensures.value c.if-c-lt128.false)
    (wrote_then (wrote_then c.put_byte-second.ensures c.put_byte-third.ensures) c.put_byte-2.ensures)
