-- `draw::push_holed` meets its contract: where no holes overlap the walk gives the text of `to_string`.
-- Assumes nothing.
use Rattle.holes.proofs.DrawLaws.{pushed_holed}
use Rattle.holes.proofs.draw.push_holed.Goals as goal

pub returns : goal.returns
returns c =
    record { line_grown = c.push_holes.ensures.line_grown; pushes_holed = pushed_holed _ _ _ _ _ c.args.border _ c.push_holes.ensures.draws_holes }
