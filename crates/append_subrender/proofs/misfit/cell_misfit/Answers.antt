-- `misfit::cell_misfit` meets its contract: the lines behind the width tell, and what has no width is no cell.
-- Assumes nothing.
use Rattle.append_subrender.proofs.Stacking.{width_first, none_there}
use Rattle.append_subrender.proofs.Telling.{cell_told, cell_empty}
use Rattle.append_subrender.proofs.misfit.cell_misfit.Goals as goal

pub returns-in-len1-up : goal.returns-in-len1-up
returns-in-len1-up c =
    cell_told _ _ _ _ _ (width_first _ c.in-len1-up.len_at_least) c.lines_overlap.ensures

pub returns-in_default : goal.returns-in_default
returns-in_default c =
    cell_empty _ _ _ (none_there _ c.in_default.len_below)
