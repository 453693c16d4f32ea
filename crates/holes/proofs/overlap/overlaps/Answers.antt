-- `overlap::overlaps` meets its contract.
-- Assumes nothing.
use Rattle.std.proofs.Common.{rules}
use Rattle.holes.proofs.OverlapLaws.{look_start, look_on, look_over, look_torn, look_end}
use Rattle.holes.proofs.overlap.overlaps.Goals as goal

pub loop-hole-init : goal.loop-hole-init
loop-hole-init c = look_start _ _ _ (search rules)

pub returns-in_default : goal.returns-in_default
returns-in_default c = look_torn _ _ _ _ c.loop-hole.invariant _ (rw c.in_default.is at c.in-Some.ensures.steps)

pub returns-then-place-pos : goal.returns-then-place-pos
returns-then-place-pos c =
    look_over _ _ _ _ c.loop-hole.invariant _ _ _ _ (rw (c.in-Ok.is, ← c.from-place.ensures) at c.in-Some.ensures.steps) c.then-place-pos.either

pub loop-hole-preserved : goal.loop-hole-preserved
loop-hole-preserved c =
    look_on _ _ _ _ c.loop-hole.invariant _ _ _ _ _ (rw (c.in-Ok.is, ← c.from-place.ensures) at c.in-Some.ensures.steps) c.piece_cols.ensures.counts_piece c.if-place-pos.false c.if-count-place.false

pub returns : goal.returns
returns c = look_end _ _ _ _ c.loop-hole.invariant c.in-None.ensures.steps.0
