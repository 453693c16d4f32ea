-- `border::put_border` meets its contract: the front, the segments, those that follow them, and the holes.
-- Assumes nothing.
use native.Mathlib.Omega.{arith}
use Rattle.extend_lines.proofs.Handing.{bytes_known}
use Rattle.overhang.proofs.BorderLaws.{puts_border}
use Rattle.overhang.proofs.border.put_border.Goals as goal

pub returns-clause-puts_border : goal.returns-clause-puts_border
returns-clause-puts_border c =
    puts_border _ _ _ _ _ _ _ _ _ _ _ _ _ _ (bytes_known c.args.holes.now (λ i. omega (arith, c.type_inv.holes i))) c.put_front-start.ensures.wrote c.put_bytes-middle.ensures c.put_repeat-end.ensures c.put_bytes.ensures
