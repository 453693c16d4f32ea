-- `border::prev_border` meets its contract: joined, stretched and merged.
-- Assumes nothing.
use Rattle.row_borders.proofs.BorderLaws.{above_plain, above_collapsed}
use Rattle.row_borders.proofs.border.prev_border.Goals as goal

pub returns-then-collapse-clause-borders_above : goal.returns-then-collapse-clause-borders_above
returns-then-collapse-clause-borders_above c =
    rw c.if-collapse.true
    (above_collapsed c.args.border.now _ _ _ c.join_edges-end.result c.args.row.now c.join_edges-end.ensures.joins_edges c.stretch_to.ensures.stretches c.merge_seats.ensures.merges_seats)

pub returns-else-collapse-clause-borders_above : goal.returns-else-collapse-clause-borders_above
returns-else-collapse-clause-borders_above c =
    rw c.if-collapse.false
    (above_plain c.args.border.now _ _ c.join_edges-end.result c.args.row.now c.join_edges-end.ensures.joins_edges c.stretch_to.ensures.stretches)
