-- `join::join_edges` meets its contract: the edges of the seats so far are joined, and joining at the others gives the whole.
-- Assumes nothing.
use Rattle.std.proofs.Common.{◌≡◌, ◌<◌, length}
use Rattle.std.specs.Prelude.{IfSome}
use Rattle.row_borders.proofs.JoinLaws.{SoFar}
use Rattle.row_borders.proofs.join.join_edges.Given as goal

abbrev pub invariant-loop-seat : goal.invariant-loop-seat
invariant-loop-seat l =
    record {
      same_buffer : l.border.buffer.ghost_name ≡ l.initial.border.buffer.ghost_name;
      room : length l.border.buffer.now ≡ length l.initial.border.buffer.now;
      low : IfSome l.end (λ edge. edge < 8589934592);
      so_far : SoFar l.side l.initial.border l.row l.border l.end l.seat-iterator;
    }
