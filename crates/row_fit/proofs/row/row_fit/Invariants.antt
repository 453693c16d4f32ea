-- `row::row_fit` meets its contract: no seat passed is misfit, and the seats ahead tell.
-- Assumes nothing.
use Rattle.row_fit.proofs.FitLaws.{Seen}
use Rattle.row_fit.proofs.row.row_fit.Given as goal

abbrev pub invariant-loop-seat : goal.invariant-loop-seat
invariant-loop-seat l = Seen l.row l.collapse l.joined l.total l.height l.seat-iterator l.edge l.reach
