use mathlib.Core.Path.{sym, ap, ◌∙◌}
use mathlib.Core.List.{List}
use Prim.Native.Nat.{ℕ}
use native.Mathlib.Omega.{arith}
use lib.ListN.{length}
use lib.Seq.{take_all}
use Rattle.borders.specs.BorderHoriz.{drawn}
use Rattle.borders.proofs.Drawing.{length_next, drawn_nil}
use borrow.Author.Rules.{rules}
use Rattle.borders.proofs.draw.drawn_len.Goals as goal

pub loop-byte-init : goal.loop-byte-init
loop-byte-init c =
    (search rules, sym (ap length (drawn_nil c.args.drawing)))

pub loop-byte-preserved : goal.loop-byte-preserved
loop-byte-preserved c =
    (omega (arith, c.loop-byte.invariant.0, c.glyph_len-n.ensures.upper_bound), length_next c.args.drawing c.args.segs.now c.loop-byte.byte-index c.loop-byte-test.true c.loop-byte.invariant.1 c.glyph_len-n.ensures.value)

pub returns : goal.returns
returns c =
    record { upper_bound = search rules; value = c.loop-byte.invariant.1 ∙ ap (λ (b : List ℕ). length (drawn c.args.drawing b)) (take_all c.loop-byte.byte-index c.args.segs.now c.loop-byte-test.false) }
