-- `Line::add_text_piece` meets its contract: what is too short adds nothing, and a text is pushed or put as it stands.
-- Assumes nothing.
use Rattle.tagged_line.proofs.Laying.{laid_joined, laid_apart}
use Rattle.tagged_line.proofs.line.Line.add_text_piece.Goals as goal

pub returns-then-joins-clause-adds_text_piece : goal.returns-then-joins-clause-adds_text_piece
returns-then-joins-clause-adds_text_piece c =
    laid_joined _ _ _ _ c.args.piece.content.now _ _ c.if-joins.true c.text_width-cols.ensures.value c.push_str.ensures.pushes

pub returns-clause-adds_text_piece : goal.returns-clause-adds_text_piece
returns-clause-adds_text_piece c =
    laid_apart _ _ _ _ c.args.piece.content.now _ _ c.if-joins.false c.text_width-cols.ensures.value c.put_field.ensures
