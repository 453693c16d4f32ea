use Rattle.std.proofs.Common.{length}
use Rattle.show.proofs.show_sheets.Given as goal

abbrev pub decreases-loop-left : goal.decreases-loop-left
decreases-loop-left l = length l.left
