-- Assumes nothing.
use Rattle.row_holes.proofs.PieceLaws.{put_start, put_on, put_end}
use Rattle.row_holes.proofs.pieces.put_pieces.Goals as goal

pub loop-part-init : goal.loop-part-init
loop-part-init c = put_start _ _ _ _ c.requires.2

pub loop-part-preserved : goal.loop-part-preserved
loop-part-preserved c =
    put_on _ _ _ _ _ _ _ _ _ _ _ _ _ c.loop-part.invariant c.in-Some.ensures.steps c.advance-x.ensures.upper_bound c.advance-x.ensures.advances c.put_hole-at.ensures.wrote

pub returns-clause-puts_pieces : goal.returns-clause-puts_pieces
returns-clause-puts_pieces c =
    let made = rw (← c.into_iter-part-iterator.ensures.into_iter_gives) at c.new-part-items.ensures in
    put_end _ _ _ _ _ _ _ _ _ _ _ _ c.loop-part.invariant c.in-None.ensures.steps made.0 made.1 made.2
