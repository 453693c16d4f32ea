-- `draw::stretch_len` meets its contract: each Horiz takes as many bytes. Assumes nothing.
use Rattle.borders.proofs.Drawing.{three_most, horiz_length}
use borrow.Author.Rules.{rules}
use Rattle.borders.proofs.draw.stretch_len.Goals as goal

pub overflow_mul-result : goal.overflow_mul-result
overflow_mul-result c =
    let m = three_most c.args.k c.glyph_len.ensures.upper_bound in search rules

pub returns : goal.returns
returns c =
    record { upper_bound = three_most c.args.k c.glyph_len.ensures.upper_bound; value = horiz_length c.args.drawing c.args.k c.glyph_len.ensures.value }
