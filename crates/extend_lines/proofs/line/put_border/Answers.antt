-- `extend_lines::line::put_border` meets its contract: a B field after the lines.
-- Assumes nothing.
use mathlib.Core.Logic.{inl, inr}
use mathlib.Core.Path.{refl}
use native.Mathlib.Omega.{arith}
use Rattle.extend_lines.proofs.Emitting.{puts_border}
use Rattle.extend_lines.proofs.line.put_border.Goals as goal
use Rattle.extend_lines.proofs.line.put_border.Goals.{then-lines, else-lines}

pub returns : goal.returns
returns c =
    record { one_line_more = record { count = refl; on = omega (arith, c.put_head-first.ensures.place, c.put_byte-start.ensures.place, c.put_bytes-end.ensures.place); at = omega (arith, c.put_head-first.ensures.place, c.put_byte-start.ensures.place, c.put_bytes-end.ensures.place, c.requires.1) }; puts_border = puts_border _ _ _ _ _ _ _ _ _ _ refl (elim c.if-lines.branch [ then-lines y ↦ inl (y.if-lines.true, y.long-is) | else-lines y ↦ inr (y.if-lines.false, y.long-is) ]) c.put_head-first.ensures c.put_byte-start.ensures c.put_bytes-end.ensures }
