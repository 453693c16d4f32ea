-- `survey::survey` meets its contract: a row is what its seats are.
-- Assumes nothing.
use Rattle.std.proofs.Common.{arith, leb-true}
use Rattle.characters.proofs.Tests.{clash}
use Rattle.seats.proofs.SurveyLaws.{sees_none, sees_more, sees_all}
use Rattle.seats.proofs.survey.survey.Goals as goal

pub loop-seat-init : goal.loop-seat-init
loop-seat-init c = (omega arith, sees_none c.args.row.now _ _ c.iter-seats.ensures)

pub loop-seat-preserved : goal.loop-seat-preserved
loop-seat-preserved c =
    let (low, seen) = c.loop-seat.invariant in
    (c.look-seen.ensures.seen_in low, sees_more c.args.row.now _ _ _ c.loop-seat.seats c.next.new.self c.in-Some.seat c.in-Some.ensures.steps c.look-seen.ensures.looks seen)

pub returns-then-seen-clause-surveys : goal.returns-then-seen-clause-surveys
returns-then-seen-clause-surveys c =
    sees_all c.args.row.now _ _ c.loop-seat.seats c.next.new.self _ _ c.in_default.ensures.steps c.width-total.ensures.width_is (λ e. (c.if-seen.true, leb-true _ _ e)) c.loop-seat.invariant.1

pub returns-else-seen-clause-surveys : goal.returns-else-seen-clause-surveys
returns-else-seen-clause-surveys c =
    sees_all c.args.row.now _ _ c.loop-seat.seats c.next.new.self _ _ c.in_default.ensures.steps c.width-total.ensures.width_is (λ e. absurd (clash e c.if-seen.false)) c.loop-seat.invariant.1
