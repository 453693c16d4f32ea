-- `row::row_fit` meets its contract.
-- Assumes nothing.
use Rattle.row_fit.proofs.FitLaws.{seen_start, seen_on, seen_misfit, seen_over, seen_end}
use Rattle.row_fit.proofs.row.row_fit.Goals as goal

pub loop-seat-init : goal.loop-seat-init
loop-seat-init c = rw c.into_iter-seat-iterator.ensures.into_iter_gives (seen_start _ _ _ _ _ _ _ c.iter-seat-items.ensures c.first-reach.ensures)

pub returns-in_err-fit : goal.returns-in_err-fit
returns-in_err-fit c = seen_misfit _ _ _ _ _ _ _ _ _ c.in-Some.seat _ _ c.loop-seat.invariant c.in-Some.ensures.steps c.in_err-fit.ensures c.from_residual.ensures

pub loop-seat-preserved : goal.loop-seat-preserved
loop-seat-preserved c =
    seen_on _ _ _ _ _ _ _ _ _ _ c.in-Some.seat c.in_ok-fit.fit c.loop-seat.invariant c.in-Some.ensures.steps c.in_ok-fit.ensures c.past-reach.ensures

pub returns-then-reach : goal.returns-then-reach
returns-then-reach c = seen_over _ _ _ _ _ _ c.next.new.self _ _ c.loop-seat.invariant c.in-None.ensures.steps c.if-reach.true

pub returns : goal.returns
returns c = seen_end _ _ _ _ _ _ c.next.new.self _ _ c.loop-seat.invariant c.in-None.ensures.steps c.if-reach.false
