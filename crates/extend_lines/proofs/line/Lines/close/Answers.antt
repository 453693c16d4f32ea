-- `extend_lines::line::Lines::close` meets its contract: refusal 7, then 9, then the head in front of the lines or refusal 8.
-- Assumes nothing.
use Rattle.extend_lines.proofs.Emitting.{closes_long, closes_many, closes_lines}
use Rattle.extend_lines.proofs.line.Lines.close.Goals as goal

pub returns-then-self : goal.returns-then-self
returns-then-self c =
    closes_long _ _ _ c.if-self.true c.refuse.ensures

pub returns-then-self-gt65535 : goal.returns-then-self-gt65535
returns-then-self-gt65535 c =
    closes_many _ _ _ c.if-self.false c.if-self-gt65535.true c.refuse-then-self-gt65535.ensures

pub returns : goal.returns
returns c =
    closes_lines _ _ _ c.if-self.false c.if-self-gt65535.false c.finish.ensures
