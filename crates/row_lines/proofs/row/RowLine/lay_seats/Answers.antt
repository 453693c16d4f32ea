-- Assumes nothing.
use mathlib.Core.Path.{sym, ◌∙◌}
use borrow.Author.Rules.{rules}
use Rattle.row_lines.proofs.MarkLaws.{one_behind}
use Rattle.row_lines.proofs.RowLaws.{laid_start, laid_room, laid_order, laid_long, laid_end, laid_on}
use Rattle.row_lines.proofs.row.RowLine.lay_seats.Goals as goal

pub loop-seat-init : goal.loop-seat-init
loop-seat-init c =
    rw c.into_iter-seat-iterator.ensures.into_iter_gives (laid_start _ _ c.args.options _ c.args.self.collapse _ _ _ c.requires c.iter-seat-items.ensures)

pub is_long-requires : goal.is_long-requires
is_long-requires c = laid_order _ _ _ _ _ _ _ _ _ _ _ _ c.loop-seat.invariant c.requires

pub returns-then-is_long-clause-line_grown : goal.returns-then-is_long-clause-line_grown
returns-then-is_long-clause-line_grown c = c.loop-seat.invariant.grown

pub returns-then-is_long-clause-lays_seats : goal.returns-then-is_long-clause-lays_seats
returns-then-is_long-clause-lays_seats c =
    laid_long _ _ _ _ _ _ _ _ _ _ _ _ c.loop-seat.invariant (sym c.is_long.ensures ∙ c.if-is_long.true)

pub add_marked-line-requires : goal.add_marked-line-requires
add_marked-line-requires c = laid_room _ _ _ _ _ _ _ _ _ _ _ _ c.loop-seat.invariant c.requires

pub loop-seat-preserved : goal.loop-seat-preserved
loop-seat-preserved c =
    laid_on _ _ _ _ _ _ _ _ _ _ _ _ c.loop-seat.invariant _ _ _ c.in-Some.seat _ _ c.requires (sym c.is_long.ensures ∙ c.if-is_long.false)
    c.in-Some.ensures.steps (search rules) c.add_marked-line.ensures.line_grown c.add_marked-line.ensures.adds_marked
    (one_behind _ _ _ c.saturating_add-k.ensures (search rules))

pub returns-clause-line_grown : goal.returns-clause-line_grown
returns-clause-line_grown c = c.loop-seat.invariant.grown

pub returns-clause-lays_seats : goal.returns-clause-lays_seats
returns-clause-lays_seats c =
    laid_end _ _ _ _ _ _ _ _ _ _ _ _ c.loop-seat.invariant (λ xs total a. (c.in-None.ensures.steps xs total a).0)
