-- `line::put_filled` meets its contract: a text is padded, another line is a border.
-- Assumes nothing.
use Rattle.overhang.proofs.FillLaws.{filled_text, filled_border}
use Rattle.overhang.proofs.line.put_filled.Goals as goal

pub returns-then-line-eq76-clause-puts_filled : goal.returns-then-line-eq76-clause-puts_filled
returns-then-line-eq76-clause-puts_filled c = filled_text _ _ _ _ c.args.line _ _ c.if-line-eq76.true c.put_text.ensures.puts_text

pub returns-clause-puts_filled : goal.returns-clause-puts_filled
returns-clause-puts_filled c = filled_border _ _ _ _ c.args.line _ _ c.if-line-eq76.false c.put_stretched.ensures.puts_stretched
