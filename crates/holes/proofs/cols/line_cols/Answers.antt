-- `cols::line_cols` meets its contract: an L field is a text, and another a border.
-- Assumes nothing.
use Rattle.holes.proofs.LineLaws.{text_line, border_line}
use Rattle.holes.proofs.cols.line_cols.Goals as goal

pub returns-then-line-eq76-clause-counts_line : goal.returns-then-line-eq76-clause-counts_line
returns-then-line-eq76-clause-counts_line c = text_line _ _ _ _ c.if-line-eq76.true c.text_cols.ensures.counts_text

pub returns-clause-counts_line : goal.returns-clause-counts_line
returns-clause-counts_line c = border_line _ _ _ _ _ c.if-line-eq76.false c.of.ensures.reads_border c.border_cols.ensures.counts_border
