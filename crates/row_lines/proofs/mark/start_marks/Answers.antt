-- Assumes nothing.
use mathlib.Core.Path.{subst}
use mathlib.Core.Bool.{Bool}
use borrow.Author.Rules.{rules}
use Rattle.row_lines.specs.Left.{FindsFirst}
use Rattle.row_lines.proofs.MarkLaws.{one_behind, marks_start, marks_end, marks_on}
use Rattle.row_lines.proofs.mark.start_marks.Goals as goal

pub loop-seat-init : goal.loop-seat-init
loop-seat-init c = rw c.into_iter-seat-iterator.ensures.into_iter_gives (marks_start _ _ _ _ c.iter-seat-items.ensures)

pub loop-seat-preserved : goal.loop-seat-preserved
loop-seat-preserved c =
    marks_on _ _ _ _ _ c.loop-seat.invariant c.in-Some.seat _ _ _ _ c.in-Some.ensures.steps c.first_lines.ensures.known
    (subst (λ (b : Bool). FindsFirst c.in-Some.seat.lines.now b c.first_lines.result.now) (search rules) c.first_lines.ensures.finds_first) c.first_lines.ensures.ends c.set_mark.ensures (one_behind _ _ _ c.saturating_add-k.ensures (search rules))

pub returns : goal.returns
returns c = marks_end _ _ _ _ _ c.loop-seat.invariant (λ xs total a. (c.in-None.ensures.steps xs total a).0)
