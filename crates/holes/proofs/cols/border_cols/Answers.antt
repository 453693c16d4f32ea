-- `cols::border_cols` meets its contract: the walk over the stretched border ends where its columns do.
-- Assumes nothing.
use Rattle.holes.proofs.LineLaws.{border_counts}
use Rattle.holes.proofs.cols.border_cols.Goals as goal

pub returns-clause-counts_border : goal.returns-clause-counts_border
returns-clause-counts_border c =
    border_counts c.args.border _ _ _ _ c.max-end.ensures c.walk_end-cols.ensures.ends_at c.then_some.ensures
