-- `line::line_through` meets its contract: the line is the first of those from the height on. Assumes nothing.
use Rattle.std.proofs.Common.{ap}
use Rattle.fields.specs.Field.{raws}
use Rattle.row_holes.proofs.ThroughLaws.{finds_through}
use Rattle.row_holes.proofs.line.line_through.Goals as goal

pub returns : goal.returns
returns c = finds_through _ _ _ _ _ _ _ _ c.body_of.ensures.finds_body c.skip_lines.ensures.skips (ap raws c.new.ensures) c.next.ensures.steps
