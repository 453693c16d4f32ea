-- `draw::push_text` meets its contract: a text is pushed, and a name is none.
-- Assumes nothing.
use Rattle.holes.proofs.Segments.{text_pushed, text_empty, name_pushed}
use Rattle.holes.proofs.draw.push_text.Goals as goal

pub returns-in-len1-up-clause-pushes_text : goal.returns-in-len1-up-clause-pushes_text
returns-in-len1-up-clause-pushes_text c =
    text_pushed _ _ _ _ _ _ _ c.args.piece.content.now c.if-piece-eq83.true c.text_width.ensures.value c.push_str.ensures.pushes

pub returns-in_default-clause-pushes_text : goal.returns-in_default-clause-pushes_text
returns-in_default-clause-pushes_text c = text_empty _ _ _ _ _ c.in_default.len_below

pub returns-in_default-2-clause-pushes_text : goal.returns-in_default-2-clause-pushes_text
returns-in_default-2-clause-pushes_text c = name_pushed _ _ _ _ _ c.if-piece-eq83.false
