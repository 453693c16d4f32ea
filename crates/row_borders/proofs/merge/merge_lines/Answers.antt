-- `merge::merge_lines` meets its contract.
-- Assumes nothing.
use Rattle.row_borders.proofs.MergeLaws.{lines_none}
use Rattle.row_borders.proofs.merge.merge_lines.Goals as goal

pub returns-in_default-clause-merges_lines : goal.returns-in_default-clause-merges_lines
returns-in_default-clause-merges_lines c = lines_none c.args.side c.args.border.now _ c.args.pos (rw c.in_default.is at c.border_from.ensures)
