-- `line::put_stretched` meets its contract: the border with the segments that it lacks.
-- Assumes nothing.
use Rattle.overhang.proofs.FillLaws.{stretched}
use Rattle.overhang.proofs.line.put_stretched.Goals as goal

pub returns-clause-puts_stretched : goal.returns-clause-puts_stretched
returns-clause-puts_stretched c = stretched _ _ _ c.args.line _ _ c.of-border.result _ c.of-border.ensures.reads_border c.saturating_sub-more.ensures c.put_border.ensures.puts_border
