-- `wrap_piece` meets its contract: what is left of the piece, from the block as it now stands, gives what the whole piece gives; the walk in each turn passes
-- characters that fit and stops at the first that does not. The outer measure is twice the bytes left and one for a line with columns: a turn goes forward or
-- empties such a line; the walk's is the bytes that it has not passed. Assumes nothing.
use Prim.Native.Nat.{◌+◌, ◌-◌, ◌*◌, min}
use lib.ListN.{length}
use Rattle.hard_wrap.proofs.Walks.{Walk}
use Rattle.hard_wrap.proofs.Piecewise.{Walked}
use Rattle.hard_wrap.proofs.line.OpenLine.wrap_piece.Given as goal

abbrev pub invariant-walk : goal.invariant-walk
invariant-walk l = Walk l.rest l.left l.idx l.used

abbrev pub decreases-walk : goal.decreases-walk
decreases-walk l = length l.rest - l.idx

abbrev pub invariant-loop-bpos : goal.invariant-loop-bpos
invariant-loop-bpos l = Walked l.initial.self l.piece l.tag l.self l.wpos l.bpos

abbrev pub decreases-loop-bpos : goal.decreases-loop-bpos
decreases-loop-bpos l = 2 * (length l.piece - l.bpos) + min 1 l.self.cols
