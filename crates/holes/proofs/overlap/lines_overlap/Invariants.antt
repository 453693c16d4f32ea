-- `overlap::lines_overlap` meets its contract: the lines passed can be drawn, and those left tell.
-- Assumes nothing.
use Rattle.std.specs.Iterator.Adapters.{take_count, take_source}
use Rattle.fields.specs.List.{left}
use Rattle.holes.proofs.TellLaws.{Telling}
use Rattle.holes.proofs.overlap.lines_overlap.Given as goal

abbrev pub invariant-loop-line : goal.invariant-loop-line
invariant-loop-line l = Telling l.lines l.most l.to (take_count l.line-iterator) (left (take_source l.line-iterator))
