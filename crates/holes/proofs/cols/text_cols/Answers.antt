-- `cols::text_cols` meets its contract: the columns of its pieces, or those that it is padded to.
-- Assumes nothing.
use Rattle.holes.proofs.LineLaws.{text_counts}
use Rattle.holes.proofs.cols.text_cols.Goals as goal

pub returns-clause-counts_text : goal.returns-clause-counts_text
returns-clause-counts_text c =
    text_counts c.args.content.now c.args.to _ _ _ c.pieces_width.ensures.counts_pieces c.max-cols.ensures c.then_some.ensures
