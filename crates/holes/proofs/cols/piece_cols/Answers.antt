-- `cols::piece_cols` meets its contract: the columns of an S field are those of its text, and a name has none.
-- Assumes nothing.
use Rattle.holes.proofs.ColsLaws.{text_cols, empty_cols, name_cols}
use Rattle.holes.proofs.cols.piece_cols.Goals as goal

pub returns-in-len1-up-clause-counts_piece : goal.returns-in-len1-up-clause-counts_piece
returns-in-len1-up-clause-counts_piece c = text_cols _ c.args.piece.content.now _ c.if-piece-eq83.true c.text_width.ensures.value

pub returns-in_default-clause-counts_piece : goal.returns-in_default-clause-counts_piece
returns-in_default-clause-counts_piece c = empty_cols _ _ c.in_default.len_below

pub returns-in_default-2-clause-counts_piece : goal.returns-in_default-2-clause-counts_piece
returns-in_default-2-clause-counts_piece c = name_cols _ _ c.if-piece-eq83.false
