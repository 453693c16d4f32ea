-- `extend_lines::line::add_text_line` meets its contract: the line filled, with pad, and ended.
-- Assumes nothing.
use borrow.Author.Rules.{rules}
use Rattle.extend_lines.proofs.Emitting.{adds_padded, adds_text}
use Rattle.extend_lines.proofs.line.add_text_line.Goals as goal

pub returns-then-options : goal.returns-then-options
returns-then-options c =
    record { one_line_more = c.finish_line.ensures.one_line_more; adds_text_line = adds_padded _ _ _ _ _ _ _ _ _ c.if-options.true c.from.ensures (search rules) c.pad_to-padded.ensures.pads c.finish_line.ensures.finishes_line }

pub returns : goal.returns
returns c =
    record { one_line_more = c.finish_line-2.ensures.one_line_more; adds_text_line = adds_text _ _ _ _ _ _ c.if-options.false c.finish_line-2.ensures.finishes_line }
