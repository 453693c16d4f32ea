-- `text::push_up_to_hole` meets its contract: what is drawn is the part of the border from the text's end up to the place. Assumes nothing.
use Rattle.row_holes.proofs.TextLaws.{up_to_part}
use Rattle.row_holes.proofs.text.push_up_to_hole.Goals as goal

pub returns-clause-pushes_up_to_hole : goal.returns-clause-pushes_up_to_hole
returns-clause-pushes_up_to_hole c = up_to_part _ _ _ _ _ _ _ _ c.min.ensures c.push_segments.ensures.draws_part
