-- `draw::push_piece` meets its contract: a text under one annotation, or the field as it stands.
-- Assumes nothing.
use Rattle.holes.proofs.Segments.{piece_text, piece_stands}
use Rattle.holes.proofs.draw.push_piece.Goals as goal

pub returns-in-AsText-clause-pushes_piece : goal.returns-in-AsText-clause-pushes_piece
returns-in-AsText-clause-pushes_piece c = piece_text _ _ _ _ _ _ _ _ c.in-AsText.is c.push_text.ensures.pushes_text

pub returns-in-AsItStands-clause-pushes_piece : goal.returns-in-AsItStands-clause-pushes_piece
returns-in-AsItStands-clause-pushes_piece c =
    piece_stands _ _ _ _ _ _ _ _ c.in-AsItStands.is c.add_piece.ensures.adds_piece
