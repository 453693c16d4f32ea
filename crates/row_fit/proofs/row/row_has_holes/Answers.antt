-- `row::row_has_holes` meets its contract.
-- Assumes nothing.
use Rattle.std.proofs.Common.{rules}
use Rattle.row_fit.proofs.HoleLaws.{none_start, none_on, one_found, none_end}
use Rattle.row_fit.proofs.row.row_has_holes.Goals as goal

pub loop-seat-init : goal.loop-seat-init
loop-seat-init c = rw c.into_iter-seat-iterator.ensures.into_iter_gives (none_start _ _ _ _ c.iter-seat-items.ensures)

pub returns-then-is_some : goal.returns-then-is_some
returns-then-is_some c = one_found _ _ _ _ c.next.new.self c.loop-seat.invariant c.in-Some.seat c.seat_through.result c.in-Some.ensures.steps c.seat_through.ensures (search rules)

pub loop-seat-preserved : goal.loop-seat-preserved
loop-seat-preserved c = none_on _ _ _ _ _ c.loop-seat.invariant c.in-Some.seat c.seat_through.result c.in-Some.ensures.steps c.seat_through.ensures (search rules)

pub returns : goal.returns
returns c = none_end _ _ _ _ c.next.new.self c.loop-seat.invariant c.in-None.ensures.steps
