use Prim.Native.Nat.{◌+◌}
use native.Mathlib.Omega.{arith}
use Rattle.borders.proofs.Drawing.{wrote_none, wrote_next, wrote_full, wrote_all, drawn_part}
use borrow.Author.Rules.{rules}
use Rattle.borders.proofs.draw.put_drawn.Goals as goal

pub loop-byte-init : goal.loop-byte-init
loop-byte-init c =
    (search rules, search rules, wrote_none c.args.drawing c.args.out.now c.args.at)

pub returns-then-out-to : goal.returns-then-out-to
returns-then-out-to c =
    wrote_full c.args.drawing c.args.segs.now c.loop-byte.byte-index c.loop-byte.invariant.2 (omega (arith, c.loop-byte.invariant.0, c.if-out-to.true)) c.requires.1

pub loop-byte-preserved : goal.loop-byte-preserved
loop-byte-preserved c =
    let w = wrote_next c.args.drawing c.args.segs.now c.loop-byte.byte-index c.loop-byte-test.true c.loop-byte.invariant.2 c.put_glyph-to.ensures in
    let n = drawn_part c.args.drawing c.args.segs.now (c.loop-byte.byte-index + 1) in
    (search rules, omega (arith, n, w.place, c.requires.1), w)

pub returns : goal.returns
returns c =
    wrote_all c.args.drawing c.args.segs.now c.loop-byte.byte-index c.loop-byte-test.false c.loop-byte.invariant.2
