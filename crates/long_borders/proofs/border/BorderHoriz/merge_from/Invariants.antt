-- `merge_from` meets its contract: merging what is left of the other border gives what merging the whole gives. Assumes nothing.
use Rattle.std.proofs.Common.{◌≡◌, ◌+◌, ◌≤◌, max, length}
use Rattle.long_borders.proofs.Laws.{SoFar}
use Rattle.long_borders.proofs.border.BorderHoriz.merge_from.Given as goal

abbrev pub invariant-loop-i : goal.invariant-loop-i
invariant-loop-i l =
    record {
      same_buffer : l.self.buffer.ghost_name ≡ l.initial.self.buffer.ghost_name;
      room : length l.self.buffer.now ≡ length l.initial.self.buffer.now;
      longer : l.initial.self.len ≤ l.self.len;
      bound : l.self.len ≤ max l.initial.self.len (l.pos + l.i);
      so_far : SoFar l.side l.initial.self l.other l.pos l.self l.i;
    }
