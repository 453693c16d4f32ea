-- Assumes nothing.
use Rattle.std.proofs.Common.{◌+◌, sym, ◌∙◌, rules}
use Rattle.long_borders.proofs.Laws.{near_plus}
use Rattle.row_holes.proofs.TextLaws.{text_start, text_ahead, text_on, text_long, text_end}
use Rattle.row_holes.proofs.text.push_holes.Goals as goal

pub loop-seat-init : goal.loop-seat-init
loop-seat-init c = text_start _ _ _ _ _ _ _ _ c.new-line.ensures

pub returns-then-is_long-clause-pushes_holes : goal.returns-then-is_long-clause-pushes_holes
returns-then-is_long-clause-pushes_holes c =
    let begins = rw (← c.into_iter-seat-iterator.ensures.into_iter_gives) at c.iter-seat-items.ensures in
    let d = c.in-Some.seat.width + 1 in
    text_long _ _ _ _ _ _ _ c.args.lines c.args.row.now _ _ _ _ (sym c.is_long.ensures ∙ c.if-is_long.true)
    (text_ahead _ _ _ _ _ _ _ _ _ _ _ c.loop-seat.invariant _ _ c.in-Some.seat _ (c.loop-seat.x + d) c.in-Some.ensures.steps c.push_seat-line.ensures.pushes_seat (λ x₀ n. near_plus d n))
    begins

pub loop-seat-preserved : goal.loop-seat-preserved
loop-seat-preserved c =
    text_on _ _ _ _ _ _ _ _ _ _ _ c.loop-seat.invariant _ _ _ _ (search rules) c.push_seat-line.ensures.line_grown (sym c.is_long.ensures ∙ c.if-is_long.false) c.advance-x.ensures.upper_bound
    (text_ahead _ _ _ _ _ _ _ _ _ _ _ c.loop-seat.invariant _ _ c.in-Some.seat _ _ c.in-Some.ensures.steps c.push_seat-line.ensures.pushes_seat c.advance-x.ensures.advances)

pub returns-clause-pushes_holes : goal.returns-clause-pushes_holes
returns-clause-pushes_holes c =
    let begins = rw (← c.into_iter-seat-iterator.ensures.into_iter_gives) at c.iter-seat-items.ensures in
    text_end _ _ _ _ _ _ _ _ _ _ _ c.loop-seat.invariant c.args.lines c.args.row.now _ _ c.next.new.self c.in-None.ensures.steps begins c.push_up_to_hole.ensures.pushes_up_to_hole
