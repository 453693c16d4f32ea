use Rattle.std.proofs.Common.{arith, sym, ◌∙◌}
use Rattle.long_borders.proofs.Laws.{merge_joins, merge_passes, merge_ends}
use Rattle.long_borders.proofs.border.BorderHoriz.merge_from.Goals as goal
use Rattle.long_borders.proofs.border.BorderHoriz.merge_from.Goals.{then-joins, else-joins}

pub loop-i-preserved : goal.loop-i-preserved
loop-i-preserved c =
    elim c.if-joins.branch [
      | then-joins w ↦ rw w.self-is record {
        same_buffer = w.join_on.ensures.same_buffer ∙ c.loop-i.invariant.same_buffer;
        room = w.join_on.ensures.room ∙ c.loop-i.invariant.room;
        longer = omega arith;
        bound = omega arith;
        so_far = merge_joins c.args.side c.args.self.now _ _ c.args.other.now c.args.pos c.loop-i.i c.loop-i-test.true (sym c.joins.ensures ∙ w.if-joins.true) w.join_on.ensures.joins_on c.loop-i.invariant.so_far;
      }
      | else-joins w ↦ rw w.self-is record {
        same_buffer = c.loop-i.invariant.same_buffer;
        room = c.loop-i.invariant.room;
        longer = c.loop-i.invariant.longer;
        bound = omega arith;
        so_far = merge_passes c.args.side c.args.self.now _ c.args.other.now c.args.pos c.loop-i.i c.loop-i-test.true (sym c.joins.ensures ∙ w.if-joins.false) c.loop-i.invariant.so_far;
      }
    ]

pub returns-clause-merges_from : goal.returns-clause-merges_from
returns-clause-merges_from c = merge_ends c.args.side c.args.self.now _ c.args.other.now c.args.pos c.loop-i.i c.loop-i-test.false c.loop-i.invariant.so_far
