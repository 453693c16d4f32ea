-- Assumes nothing.
use Rattle.std.proofs.Common.{arith}
use Rattle.fields.proofs.Sheets.{segment_on, segment_off, segment_end}
use Rattle.fields.proofs.judge.all_segments.Goals as goal

pub returns-then-segment-gt11 : goal.returns-then-segment-gt11
returns-then-segment-gt11 c =
    segment_off _ _ (omega arith) c.loop-segment.invariant (omega arith)

pub loop-segment-preserved : goal.loop-segment-preserved
loop-segment-preserved c =
    segment_on _ _ (omega arith) c.loop-segment.invariant (omega arith)

pub returns : goal.returns
returns c =
    segment_end _ _ (omega arith) c.loop-segment.invariant
