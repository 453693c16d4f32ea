-- `text::push_there` meets its contract: the pieces stand behind the segments up to them. Assumes nothing.
use borrow.Author.Rules.{rules}
use Rattle.row_holes.proofs.TextLaws.{there_none, there_on}
use Rattle.row_holes.proofs.text.push_there.Goals as goal

pub returns-then-is_none-clause-pushes_there : goal.returns-then-is_none-clause-pushes_there
returns-then-is_none-clause-pushes_there c = there_none _ _ _ _ _ _ _ _ c.line_cols.ensures.counts_line (search rules)

pub returns-clause-pushes_there : goal.returns-clause-pushes_there
returns-clause-pushes_there c =
    there_on _ _ _ _ _ _ _ _ _ _ _ _ c.requires.1 c.line_cols.ensures.counts_line (search rules) c.push_up_to_hole-begun.ensures.pushes_up_to_hole c.push_line.ensures.pushes_line
