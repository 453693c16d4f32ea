-- `text::push_line` meets its contract: a text, or a border with its holes. Assumes nothing.
use Rattle.row_holes.proofs.TextLaws.{line_text, line_border_pushed}
use Rattle.row_holes.proofs.text.push_line.Goals as goal

pub returns-then-field-eq76-clause-pushes_line : goal.returns-then-field-eq76-clause-pushes_line
returns-then-field-eq76-clause-pushes_line c = line_text _ _ _ _ _ c.args.field _ c.if-field-eq76.true c.add_cell_text.ensures.adds_cell_text

pub returns-clause-pushes_line : goal.returns-clause-pushes_line
returns-clause-pushes_line c = line_border_pushed _ _ _ _ _ c.args.field _ _ c.if-field-eq76.false c.of.ensures.reads_border c.push_tagged.ensures.pushes_tagged
