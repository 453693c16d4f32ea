-- Assumes nothing.
use Rattle.std.proofs.Common.{◌∙◌}
use Rattle.row_borders.proofs.MergeLaws.{merge_goes, merge_ends}
use Rattle.row_borders.proofs.merge.merge_seats.Goals as goal

pub loop-seat-preserved : goal.loop-seat-preserved
loop-seat-preserved c =
    record {
      same_buffer = c.merge_lines.ensures.same_buffer ∙ c.loop-seat.invariant.same_buffer;
      room = c.merge_lines.ensures.room ∙ c.loop-seat.invariant.room;
      low = c.advance-pos.ensures.upper_bound;
      so_far = merge_goes c.args.side c.args.border.now c.args.row.now _ _ c.loop-seat.pos _ _ _ c.in-Some.seat c.in-Some.ensures.steps c.merge_lines.ensures.merges_lines c.advance-pos.ensures.advances c.loop-seat.invariant.so_far;
    }

pub returns-clause-merges_seats : goal.returns-clause-merges_seats
returns-clause-merges_seats c =
    merge_ends c.args.side c.args.border.now c.args.row.now _ c.loop-seat.pos c.loop-seat.seat-iterator c.next.new.self c.in-None.ensures.steps c.loop-seat.invariant.so_far
