-- `overlap::line_overlaps` meets its contract.
-- Assumes nothing.
use Rattle.holes.proofs.TellLaws.{tells_plain, tells_holed}
use Rattle.holes.proofs.overlap.line_overlaps.Goals as goal

pub returns-then-line-ne71 : goal.returns-then-line-ne71
returns-then-line-ne71 c = tells_plain _ _ _ c.if-line-ne71.true

pub returns : goal.returns
returns c = tells_holed _ _ _ c.of-border.result _ _ c.if-line-ne71.false c.of-border.ensures.reads_border c.max.ensures c.overlaps.ensures
