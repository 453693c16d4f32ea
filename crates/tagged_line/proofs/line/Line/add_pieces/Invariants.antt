-- `Line::add_pieces` meets its contract: what is laid so far and the pieces left give the whole.
-- Assumes nothing.
use Rattle.fields.specs.List.{left}
use Rattle.tagged_line.proofs.Laying.{Laid}
use Rattle.tagged_line.proofs.line.Line.add_pieces.Given as goal

abbrev pub invariant-loop-piece : goal.invariant-loop-piece
invariant-loop-piece l = Laid l.initial.out l.initial.line l.content l.joins l.rejoins l.out l.line l.join (left l.piece-iterator)
