-- Assumes nothing.
use borrow.Author.Rules.{rules}
use Rattle.overhang.proofs.RowLaws.{turns_start, turns_on, turns_end}
use Rattle.overhang.proofs.hang.hang_on.Goals as goal

pub loop-seat-init : goal.loop-seat-init
loop-seat-init c = rw c.into_iter-seat-iterator.ensures.into_iter_gives (turns_start _ _ _ _ _ _ _ c.iter-seat-items.ensures)

pub loop-seat-preserved : goal.loop-seat-preserved
loop-seat-preserved c =
    turns_on _ _ _ _ _ _ _ _ _ c.loop-seat.invariant _ _ _ _ (search rules) c.hang_seat-next.ensures.count_value c.in-Some.ensures.steps c.hang_seat-next.ensures.hangs_seat

pub shape_of-out : goal.shape_of-out
shape_of-out c = c.loop-seat.invariant.size

pub returns : goal.returns
returns c =
    let w = c.loop-seat.invariant in
    record { count_value = w.count; hangs_all = turns_end _ _ _ _ _ _ _ _ _ w (λ ys total left. (c.in-None.ensures.steps ys total left).0) }
