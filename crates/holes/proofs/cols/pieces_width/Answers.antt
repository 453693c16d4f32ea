-- `cols::pieces_width` meets its contract.
-- Assumes nothing.
use Rattle.std.proofs.Common.{refl}
use Rattle.holes.proofs.WidthLaws.{count_start, count_on, count_broken, count_end}
use Rattle.holes.proofs.cols.pieces_width.Goals as goal

pub loop-piece-init : goal.loop-piece-init
loop-piece-init c = rw (c.into_iter-piece-iterator.ensures.into_iter_gives, c.new-piece-items.ensures) (count_start _ _ refl)

pub loop-piece-preserved-in-Ok : goal.loop-piece-preserved-in-Ok
loop-piece-preserved-in-Ok c =
    count_on _ _ _ c.loop-piece.invariant _ _ _ _ (rw c.in-Ok.is at c.in-Some.ensures.steps) c.piece_cols-cols.ensures.upper_bound c.piece_cols-cols.ensures.counts_piece

pub loop-piece-preserved : goal.loop-piece-preserved
loop-piece-preserved c = count_broken _ _ _ c.loop-piece.invariant _ (rw c.in_default.is at c.in-Some.ensures.steps)

pub returns-clause-counts_pieces : goal.returns-clause-counts_pieces
returns-clause-counts_pieces c = count_end _ _ _ c.loop-piece.invariant c.in-None.ensures.steps.0
