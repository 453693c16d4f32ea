-- `fields::judge::all_segments` meets its contract: the bytes behind are segments, and those left decide.
-- Assumes nothing.
use Rattle.fields.proofs.Sheets.{Segments}
use Rattle.fields.proofs.judge.all_segments.Given as goal

abbrev pub invariant-loop-segment : goal.invariant-loop-segment
invariant-loop-segment l = Segments l.segments l.segment-index
