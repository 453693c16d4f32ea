-- `piece::copy_pieces` meets its contract.
-- Assumes nothing.
use Rattle.std.proofs.Common.{refl, arith, rules}
use Rattle.tagged_line.proofs.Laying.{copy_start, copy_room, copy_on, copy_broken, copy_end}
use Rattle.tagged_line.proofs.piece.copy_pieces.Goals as goal

pub loop-piece-init : goal.loop-piece-init
loop-piece-init c =
    rw (c.into_iter-piece-iterator.ensures.into_iter_gives, c.new-piece-items.ensures) (copy_start _ _ _ _ refl)

pub put_field-to-requires : goal.put_field-to-requires
put_field-to-requires c =
    let next = rw c.in-Ok.is at c.in-Some.ensures.steps in
    (copy_room _ _ _ _ _ _ c.loop-piece.invariant _ _ _ next c.requires.0, c.in-Ok.piece.short)

pub loop-piece-preserved-in-Ok : goal.loop-piece-preserved-in-Ok
loop-piece-preserved-in-Ok c =
    let next = rw c.in-Ok.is at c.in-Some.ensures.steps in
    copy_on _ _ _ _ _ _ c.loop-piece.invariant _ _ _ _ _ next (search rules) c.put_field-to.ensures

pub loop-piece-preserved : goal.loop-piece-preserved
loop-piece-preserved c =
    let next = rw c.in_default.is at c.in-Some.ensures.steps in
    copy_broken _ _ _ _ _ _ c.loop-piece.invariant _ next

pub returns : goal.returns
returns c =
    let w = c.loop-piece.invariant in
    record { lower_bound = (omega (arith, w.moved), omega (arith, w.moved, w.room)); copies = copy_end _ _ _ _ _ _ w c.in-None.ensures.steps.0 }
