-- `row::Row::ahead`: the first seats are kept, and the others are ahead.
-- Assumes nothing.
use Rattle.std.proofs.Common.{◌≡◌, ◌≤◌, length}
use Rattle.seats.proofs.RowLaws.{Keeps}
use Rattle.seats.proofs.row.Row.ahead.Given as goal

abbrev pub invariant-loop-len : goal.invariant-loop-len
invariant-loop-len l = (length l.seats ≡ 16) × (l.len ≤ 16) × Keeps l.initial.rest l.seats l.len l.rest
