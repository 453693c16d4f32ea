-- `seat::last_join` meets its contract.
-- Assumes nothing.
use Rattle.std.proofs.Common.{rules}
use Rattle.row_fit.proofs.SeatLaws.{last_found}
use Rattle.row_fit.proofs.seat.last_join.Goals as goal

pub returns-clause-value : goal.returns-clause-value
returns-clause-value c = last_found _ _ (search rules)
