-- `extend_lines::line::add_border` meets its contract: with pad a line of text under the border's own annotation, else a B field.
-- Assumes nothing.
use borrow.Author.Rules.{rules}
use Rattle.extend_lines.proofs.Emitting.{drawn_within, drawn_fits, adds_drawn, adds_border}
use Rattle.extend_lines.proofs.line.add_border.Goals as goal

pub push_drawn-text-requires-clause-within : goal.push_drawn-text-requires-clause-within
push_drawn-text-requires-clause-within c =
    drawn_within _ _ _ c.requires.0 c.new-line.ensures c.requires.1

pub add_text_line-requires : goal.add_text_line-requires
add_text_line-requires c =
    (c.requires.0, drawn_fits _ _ _ _ c.new-line.ensures c.push_drawn-text.ensures.line_grown c.requires.1)

pub returns-then-options : goal.returns-then-options
returns-then-options c =
    record { one_line_more = c.add_text_line.ensures.one_line_more; adds_border = adds_drawn _ _ _ _ _ _ _ _ _ _ c.if-options.true c.new-line.ensures (search rules) c.push_drawn-text.ensures.draws c.add_text_line.ensures.adds_text_line }

pub returns : goal.returns
returns c =
    record { one_line_more = c.put_border.ensures.one_line_more; adds_border = adds_border _ _ _ _ _ _ _ c.if-options.false c.put_border.ensures.puts_border }
