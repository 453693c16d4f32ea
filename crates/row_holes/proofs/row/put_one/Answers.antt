-- `row::put_one` meets its contract: a seat that hangs on has the holes of its line. Assumes nothing.
use Rattle.row_holes.proofs.RowLaws.{puts_none, puts_one}
use Rattle.row_holes.proofs.row.put_one.Goals as goal

pub returns-then-seat-lt2-clause-puts_one : goal.returns-then-seat-lt2-clause-puts_one
returns-then-seat-lt2-clause-puts_one c = puts_none c.args.seat _ c.args.base c.args.place _ _ c.args.height c.args.pos _ c.if-seat-lt2.true

pub returns-clause-puts_one : goal.returns-clause-puts_one
returns-clause-puts_one c = puts_one c.args.seat _ _ _ _ _ _ _ _ _ _ c.if-seat-lt2.false c.put_seat.ensures.puts_seat
