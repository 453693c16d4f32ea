use mathlib.Core.Path.{◌≡◌}
use native.Mathlib.Omega.{arith}
use Rattle.borders.specs.BorderSegHoriz.{Horiz}
use Rattle.borders.proofs.Glyphs.{glyph_most}
use Rattle.borders.proofs.Drawing.{wrote_none, horiz_full, horiz_wrote}
use borrow.Author.Rules.{rules}
use Rattle.borders.proofs.draw.put_stretch.Goals as goal

pub loop-i-init : goal.loop-i-init
loop-i-init c =
    (search rules, search rules, wrote_none c.args.drawing c.args.out.now c.args.at)

pub returns-then-out-to : goal.returns-then-out-to
returns-then-out-to c =
    horiz_full c.args.drawing c.args.k c.loop-i.i (search rules) c.loop-i.invariant.2 (omega (arith, c.loop-i.invariant.0, c.if-out-to.true)) c.stretch_len.ensures.value

pub loop-i-preserved : goal.loop-i-preserved
loop-i-preserved c =
    (search rules, omega (arith, c.loop-i.invariant.1, c.put_glyph-to.ensures.place, glyph_most c.args.drawing Horiz), horiz_wrote c.args.drawing c.loop-i.i c.loop-i.invariant.2 c.put_glyph-to.ensures)

pub returns : goal.returns
returns c =
    let e : c.loop-i.i ≡ c.args.k = search rules in
    rw (← e) c.loop-i.invariant.2
