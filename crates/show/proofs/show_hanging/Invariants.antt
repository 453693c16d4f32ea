use Rattle.std.proofs.Common.{length}
use Rattle.reader.specs.Reading.{left, read_cell_line}
use Rattle.show.proofs.show_hanging.Given as goal

abbrev pub decreases-loop-line : goal.decreases-loop-line
decreases-loop-line l = length (left read_cell_line l.lines)
