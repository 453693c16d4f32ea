-- `piece::copy_pieces` meets its contract: the fields so far are copied, and the others are left.
-- Assumes nothing.
use Rattle.fields.specs.List.{left}
use Rattle.tagged_line.proofs.Laying.{Copying}
use Rattle.tagged_line.proofs.piece.copy_pieces.Given as goal

abbrev pub invariant-loop-piece : goal.invariant-loop-piece
invariant-loop-piece l = Copying l.initial.out l.place l.content l.out l.to (left l.piece-iterator)
