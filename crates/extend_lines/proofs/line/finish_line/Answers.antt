-- `extend_lines::line::finish_line` meets its contract: the head in front of the line's content.
-- Assumes nothing.
use mathlib.Core.Logic.{inl, inr}
use mathlib.Core.Path.{refl}
use native.Mathlib.Omega.{arith}
use Rattle.extend_lines.proofs.Emitting.{ends}
use Rattle.extend_lines.proofs.line.finish_line.Goals as goal
use Rattle.extend_lines.proofs.line.finish_line.Goals.{then-lines, else-lines}

pub returns : goal.returns
returns c =
    record { one_line_more = record { count = refl; on = omega (arith, c.requires.1.base, c.requires.1.on); at = omega (arith, c.requires.1.at) }; finishes_line = ends _ _ _ _ _ _ c.requires.1.base refl refl (elim c.if-lines.branch [ then-lines y ↦ inl (y.if-lines.true, y.long-is) | else-lines y ↦ inr (y.if-lines.false, y.long-is) ]) c.put_head.ensures }
