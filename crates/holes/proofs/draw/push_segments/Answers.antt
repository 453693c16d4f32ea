-- `draw::push_segments` meets its contract: the part of the stretched border is a part of its own segments, stretched.
-- Assumes nothing.
use Rattle.holes.proofs.Segments.{low, few, drawn_none, drawn_part}
use Rattle.tagged_line.proofs.Laying.{grown_none, grown_more}
use Rattle.fields.proofs.Parts.{part_length}
use native.Mathlib.Omega.{arith}
use Rattle.holes.proofs.draw.push_segments.Goals as goal

pub returns-then-to-from : goal.returns-then-to-from
returns-then-to-from c =
    record { line_grown = grown_none _ _ _ c.requires.2; draws_part = drawn_none _ _ _ _ _ _ c.if-to-from.true }

pub returns : goal.returns
returns c =
    let n = part_length c.min-a.result c.min-b.result c.args.segments.now (low _ _ _ c.min-b.ensures) in
    let k = few _ _ _ _ _ c.min-a.ensures c.min-b.ensures c.if-to-from.false in
    record { line_grown = grown_more _ _ _ _ c.push_drawn.ensures.line_grown (omega (arith, n, k)); draws_part = drawn_part _ _ _ _ _ c.args.segments.now _ _ _ _ c.if-to-from.false c.min-a.ensures c.min-b.ensures c.push_drawn.ensures.draws }
