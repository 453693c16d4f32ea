-- `Line::pad_to` meets its contract: spaces up to the width, or none. Assumes nothing.
use Rattle.tagged_line.proofs.Holding.{padded, padded_none}
use borrow.Author.Rules.{rules}
use Rattle.tagged_line.proofs.line.Line.pad_to.Goals as goal

pub returns-then-self-width : goal.returns-then-self-width
returns-then-self-width c =
    record { line_grown = search rules; pads = padded _ _ _ _ _ _ c.push_ws.ensures.pushes_spaces }

pub returns-else-self-width : goal.returns-else-self-width
returns-else-self-width c =
    record { line_grown = search rules; pads = padded_none _ _ _ _ c.if-self-width.false }
