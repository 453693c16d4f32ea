-- `row::SeatsIterator::next` meets its contract: behind the seats that are kept come those ahead.
-- Assumes nothing.
use Rattle.seats.proofs.RowLaws.{next_ahead}
use Rattle.seats.proofs.row.SeatsIterator.next.Goals as goal

pub returns-in_default-clause-steps : goal.returns-in_default-clause-steps
returns-in_default-clause-steps c = next_ahead _ _ _ c.next.result c.in_default.len_below c.next.ensures.steps
