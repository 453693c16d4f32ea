-- `line::lay_border` meets its contract: the pieces are pushed onto an empty line. Assumes nothing.
use borrow.Author.Rules.{rules}
use Rattle.row_holes.proofs.ThroughLaws.{lays_border}
use Rattle.row_holes.proofs.line.lay_border.Goals as goal

pub returns-clause-lays_border : goal.returns-clause-lays_border
returns-clause-lays_border c = lays_border _ _ _ _ _ _ c.new.ensures c.push_tagged.ensures.line_grown.base (search rules) c.push_tagged.ensures.pushes_tagged
