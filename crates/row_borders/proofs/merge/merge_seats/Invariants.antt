-- `merge::merge_seats` meets its contract: the borders of the seats so far are merged, and merging the others gives the whole.
-- Assumes nothing.
use Rattle.std.proofs.Common.{◌≡◌, ◌<◌, length}
use Rattle.row_borders.proofs.MergeLaws.{SoFar}
use Rattle.row_borders.proofs.merge.merge_seats.Given as goal

abbrev pub invariant-loop-seat : goal.invariant-loop-seat
invariant-loop-seat l =
    record {
      same_buffer : l.border.buffer.ghost_name ≡ l.initial.border.buffer.ghost_name;
      room : length l.border.buffer.now ≡ length l.initial.border.buffer.now;
      low : l.pos < 8589934592;
      so_far : SoFar l.side l.initial.border l.row l.border l.pos l.seat-iterator;
    }
