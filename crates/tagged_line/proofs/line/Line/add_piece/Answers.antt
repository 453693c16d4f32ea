-- `Line::add_piece` meets its contract: an S field is a text, and another field that was read is a name.
-- Assumes nothing.
use Rattle.tagged_line.proofs.Laying.{laid_text, laid_name}
use Rattle.tagged_line.proofs.line.Line.add_piece.Goals as goal

pub returns-then-piece-eq83-clause-adds_piece : goal.returns-then-piece-eq83-clause-adds_piece
returns-then-piece-eq83-clause-adds_piece c = laid_text _ _ _ _ _ _ _ c.if-piece-eq83.true c.add_text_piece.ensures.adds_text_piece

pub returns-else-piece-eq83-clause-adds_piece : goal.returns-else-piece-eq83-clause-adds_piece
returns-else-piece-eq83-clause-adds_piece c = laid_name _ _ _ _ _ _ _ c.if-piece-eq83.false c.add_fragment.ensures.adds_fragment
