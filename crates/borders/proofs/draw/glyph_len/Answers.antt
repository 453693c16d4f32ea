-- `draw::glyph_len` meets its contract: a character below 80 takes one byte, and any other that is drawn takes three. Assumes nothing.
use mathlib.Core.Path.{sym, ap}
use native.Mathlib.Omega.{arith}
use lib.ListN.{length}
use Rattle.borders.proofs.Glyphs.{glyph_one, glyph_three}
use Rattle.borders.proofs.draw.glyph_len.Goals as goal

pub returns-then-c-lt128 : goal.returns-then-c-lt128
returns-then-c-lt128 c =
    record { upper_bound = omega arith; value = sym (ap length (glyph_one c.args.drawing c.args.byte c.glyph-c.ensures.value c.if-c-lt128.true)) }

pub returns-else-c-lt128 : goal.returns-else-c-lt128
returns-else-c-lt128 c =
    record { upper_bound = omega arith; value = sym (ap length (glyph_three c.args.drawing c.args.byte c.glyph-c.ensures.value c.if-c-lt128.false)) }
