-- `row::Row::new` meets its contract: the row is that of the seats which a walk begins with.
-- Assumes nothing.
use Rattle.seats.proofs.row.Row.new.Goals as goal

pub returns : goal.returns
returns c = λ cs vs i few readable hung hung_readable. c.ahead.ensures _ _ (c.new.ensures cs vs i few readable hung hung_readable)
