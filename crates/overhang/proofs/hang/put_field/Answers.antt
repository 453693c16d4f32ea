-- `hang::put_field` meets its contract: the content from 3 on, and the head in front of it.
-- Assumes nothing.
use native.Mathlib.Omega.{arith}
use Rattle.overhang.proofs.HangLaws.{puts_hanging}
use Rattle.overhang.proofs.hang.put_field.Goals as goal

pub returns-clause-puts_hanging : goal.returns-clause-puts_hanging
returns-clause-puts_hanging c =
    puts_hanging _ _ _ _ _ _ _ c.args.cell _ _ _ _ _ _ (omega arith) (rw c.from.ensures at c.put_two-second.ensures) c.put_byte-third.ensures c.put_byte-start.ensures c.put_lines-end.ensures.puts_lines c.put_head.ensures
