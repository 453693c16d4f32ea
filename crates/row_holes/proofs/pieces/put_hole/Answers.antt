-- `pieces::put_hole` meets its contract: the writes are one. Assumes nothing.
use Rattle.fields.proofs.Sets.{wrote_then}
use Rattle.row_holes.proofs.pieces.put_hole.Goals as goal

pub returns : goal.returns
returns c =
    record { wrote = wrote_then c.put_two-column.ensures (wrote_then c.put_head-start.ensures (wrote_then c.put_bytes-end.ensures c.put_repeat.ensures)) }
