-- Assumes nothing.
use Rattle.std.proofs.Common.{refl, ◌∙◌}
use Rattle.row_borders.proofs.JoinLaws.{join_starts, join_goes, join_ends}
use Rattle.row_borders.proofs.join.join_edges.Goals as goal

pub loop-seat-init : goal.loop-seat-init
loop-seat-init c =
    record {
      same_buffer = refl;
      room = refl;
      low = tt;
      so_far = join_starts c.args.side c.args.border.now c.args.row.now _ (rw c.into_iter-seat-iterator.ensures.into_iter_gives c.iter-seat-items.ensures);
    }

pub loop-seat-preserved : goal.loop-seat-preserved
loop-seat-preserved c =
    record {
      same_buffer = c.join_next.ensures.same_buffer ∙ c.loop-seat.invariant.same_buffer;
      room = c.join_next.ensures.room ∙ c.loop-seat.invariant.room;
      low = c.join_next.ensures.upper_bound;
      so_far = join_goes c.args.side c.args.border.now c.args.row.now _ _ c.loop-seat.end _ _ _ c.in-Some.seat c.in-Some.ensures.steps c.join_next.ensures.joins_next c.loop-seat.invariant.so_far;
    }

pub returns-clause-joins_edges : goal.returns-clause-joins_edges
returns-clause-joins_edges c =
    join_ends c.args.side c.args.border.now c.args.row.now _ c.loop-seat.end _ c.loop-seat.seat-iterator c.next.new.self c.in-None.ensures.steps c.unwrap_or.ensures c.loop-seat.invariant.so_far
