-- `border::next_border` meets its contract: joined or not, and merged.
-- Assumes nothing.
use Rattle.row_borders.proofs.BorderLaws.{JoinsNew, new_plain, new_joined, below_plain, below_collapsed}
use Rattle.row_borders.proofs.border.next_border.Goals as goal
use Rattle.row_borders.proofs.border.next_border.Goals.{then-joined, else-joined}

pub returns-then-collapse-clause-borders_below : goal.returns-then-collapse-clause-borders_below
returns-then-collapse-clause-borders_below c =
    let new : JoinsNew c.args.border.now c.args.joined c.args.row.now c.if-joined.border =
    elim c.if-joined.branch [
      | then-joined w ↦ rw (w.if-joined.true, w.border-is) (new_joined _ _ w.join_edges.result c.args.row.now w.join_edges.ensures.joins_edges)
      | else-joined w ↦ rw (w.if-joined.false, w.border-is) (new_plain c.args.border.now c.args.row.now)
    ]
    in
    rw c.if-collapse.true (below_collapsed c.args.border.now _ _ c.args.joined c.args.row.now new c.merge_seats.ensures.merges_seats)

pub returns-else-collapse-clause-borders_below : goal.returns-else-collapse-clause-borders_below
returns-else-collapse-clause-borders_below c =
    let new : JoinsNew c.args.border.now c.args.joined c.args.row.now c.if-joined.border =
    elim c.if-joined.branch [
      | then-joined w ↦ rw (w.if-joined.true, w.border-is) (new_joined _ _ w.join_edges.result c.args.row.now w.join_edges.ensures.joins_edges)
      | else-joined w ↦ rw (w.if-joined.false, w.border-is) (new_plain c.args.border.now c.args.row.now)
    ]
    in
    rw c.if-collapse.false (below_plain c.args.border.now _ c.args.joined c.args.row.now new)
