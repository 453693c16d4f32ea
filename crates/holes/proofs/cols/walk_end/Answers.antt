-- `cols::walk_end` meets its contract.
-- Assumes nothing.
use Rattle.std.proofs.Common.{rules}
use Rattle.holes.proofs.WidthLaws.{walk_start, walk_on, walk_torn, walk_done}
use Rattle.holes.proofs.cols.walk_end.Goals as goal

pub loop-hole-init : goal.loop-hole-init
loop-hole-init c = walk_start _ _ _ (search rules)

pub returns-in_default-clause-ends_at : goal.returns-in_default-clause-ends_at
returns-in_default-clause-ends_at c = walk_torn _ _ _ _ c.loop-hole.invariant _ (rw c.in_default.is at c.in-Some.ensures.steps)

pub loop-hole-preserved : goal.loop-hole-preserved
loop-hole-preserved c =
    walk_on _ _ _ _ c.loop-hole.invariant _ _ _ _ _ _ _ c.min.ensures c.max-begin.ensures (rw (c.in-Ok.is, ← c.from.ensures) at c.in-Some.ensures.steps) c.piece_cols.ensures.upper_bound c.piece_cols.ensures.counts_piece

pub returns-clause-ends_at : goal.returns-clause-ends_at
returns-clause-ends_at c = walk_done _ _ _ _ c.loop-hole.invariant _ c.in-None.ensures.steps.0 c.max.ensures
