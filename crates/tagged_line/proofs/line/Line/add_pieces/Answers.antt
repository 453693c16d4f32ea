-- Assumes nothing.
use mathlib.Core.Path.{refl}
use borrow.Author.Rules.{rules}
use Rattle.tagged_line.proofs.Laying.{lay_start, lay_on, lay_broken, lay_end}
use Rattle.tagged_line.proofs.line.Line.add_pieces.Goals as goal

pub loop-piece-init : goal.loop-piece-init
loop-piece-init c =
    rw (c.into_iter-piece-iterator.ensures.into_iter_gives, c.new-piece-items.ensures) (lay_start _ _ _ _ _ _ _ c.requires refl)

pub loop-piece-preserved-in-Ok : goal.loop-piece-preserved-in-Ok
loop-piece-preserved-in-Ok c =
    let next = rw c.in-Ok.is at c.in-Some.ensures.steps in
    lay_on _ _ _ _ _ _ _ _ _ c.loop-piece.invariant _ _ _ _ _ next (search rules) c.add_piece-line.ensures.line_grown c.add_piece-line.ensures.adds_piece

pub loop-piece-preserved : goal.loop-piece-preserved
loop-piece-preserved c =
    let next = rw c.in_default.is at c.in-Some.ensures.steps in
    lay_broken _ _ _ _ _ _ _ _ _ c.loop-piece.invariant _ next

pub returns : goal.returns
returns c =
    let done = lay_end _ _ _ _ _ _ _ _ _ c.loop-piece.invariant c.in-None.ensures.steps.0 in
    record { line_grown = done.0; adds_pieces = done.1 }
