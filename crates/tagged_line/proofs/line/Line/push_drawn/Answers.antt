-- `Line::push_drawn` meets its contract: the drawing and its stretch stand where room was made for them. Assumes nothing.
use native.Mathlib.Omega.{arith}
use Rattle.tagged_line.proofs.Holding.{drawn_grown, pushed_drawn}
use Rattle.tagged_line.proofs.line.Line.push_drawn.Goals as goal

pub returns : goal.returns
returns c =
    record {
      line_grown = drawn_grown _ _ _ _ _ _ _ c.open_text-next.ensures.line_grown.0 c.drawn_len-n.ensures.upper_bound c.stretch_len-tail.ensures.upper_bound c.saturating_sub-more.ensures;
      draws = pushed_drawn _ _ _ _ c.args.self _ c.args.annotation _ _ _ c.args.width _ _ c.args.segs.now c.args.drawing c.open_text-next.ensures.makes_room (omega (arith, c.open_text-next.ensures.line_grown.1)) c.drawn_len-n.ensures.value c.stretch_len-tail.ensures.value c.saturating_sub-more.ensures c.put_drawn-at.ensures c.put_stretch.ensures;
    }
