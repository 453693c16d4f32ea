-- Assumes nothing.
use Rattle.row_holes.proofs.PieceLaws.{cut_on, cut_end}
use Rattle.row_holes.proofs.pieces.cut_pieces.Goals as goal

pub loop-part-preserved : goal.loop-part-preserved
loop-part-preserved c =
    cut_on _ _ _ _ _ _ _ _ _ _ c.loop-part.invariant c.in-Some.ensures.steps c.advance-end.ensures.upper_bound c.advance-end.ensures.advances c.cut_for.ensures.same_buffer c.cut_for.ensures.room c.cut_for.ensures.cuts

pub returns-clause-cuts_pieces : goal.returns-clause-cuts_pieces
returns-clause-cuts_pieces c =
    let made = rw (← c.into_iter-part-iterator.ensures.into_iter_gives) at c.new-part-items.ensures in
    cut_end _ _ _ _ _ _ _ _ _ _ c.loop-part.invariant c.in-None.ensures.steps made.0 made.1 made.2
