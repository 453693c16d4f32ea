-- `draw::push_holes` meets its contract.
-- Assumes nothing.
use Rattle.std.proofs.Common.{rules}
use Rattle.holes.proofs.DrawLaws.{draw_start, draw_piece_room, draw_on, draw_torn, draw_end}
use Rattle.holes.proofs.draw.push_holes.Goals as goal

pub loop-hole-init : goal.loop-hole-init
loop-hole-init c = draw_start _ _ _ _ _ _ _ _ _ _ (search rules) c.requires.1

pub returns-in_default-clause-draws_holes : goal.returns-in_default-clause-draws_holes
returns-in_default-clause-draws_holes c =
    draw_torn _ _ _ _ _ _ _ _ c.max-end.ensures _ _ _ _ c.loop-hole.invariant _ (rw c.in_default.is at c.in-Some.ensures.steps)

pub push_piece-drawn-requires : goal.push_piece-drawn-requires
push_piece-drawn-requires c =
    draw_piece_room _ _ _ _ _ _ _ _ c.max-end.ensures _ _ _ _ c.loop-hole.invariant _ _ _ _ _ _ c.min.ensures c.max-begin.ensures (rw (c.in-Ok.is, ← c.from.ensures) at c.in-Some.ensures.steps) _ c.requires.1 c.push_segments-drawn.ensures.line_grown

pub loop-hole-preserved : goal.loop-hole-preserved
loop-hole-preserved c =
    draw_on _ _ _ _ _ _ _ _ c.max-end.ensures _ _ _ _ c.loop-hole.invariant _ _ _ _ _ _ c.min.ensures c.max-begin.ensures (rw (c.in-Ok.is, ← c.from.ensures) at c.in-Some.ensures.steps) _ _ _ _ _ c.push_segments-drawn.ensures.line_grown c.push_segments-drawn.ensures.draws_part c.push_piece-drawn.ensures.line_grown c.push_piece-drawn.ensures.pushes_piece c.piece_cols.ensures.upper_bound c.piece_cols.ensures.counts_piece (search rules)

pub returns-clause-draws_holes : goal.returns-clause-draws_holes
returns-clause-draws_holes c =
    draw_end _ _ _ _ _ _ _ _ c.max-end.ensures _ _ _ _ c.loop-hole.invariant _ _ c.in-None.ensures.steps.0 c.push_segments.ensures.draws_part
