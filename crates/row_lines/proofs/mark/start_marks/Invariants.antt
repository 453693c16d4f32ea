-- `mark::start_marks` meets its contract: the marks of the seats that were passed are set, and the others are ahead.
-- Assumes nothing.
use Rattle.row_lines.proofs.MarkLaws.{MarksSet}
use Rattle.row_lines.proofs.mark.start_marks.Given as goal

abbrev pub invariant-loop-seat : goal.invariant-loop-seat
invariant-loop-seat l = MarksSet l.row l.collapse l.marks l.seat-iterator l.k
