-- `merge::first_border` meets its contract.
-- Assumes nothing.
use Rattle.row_borders.proofs.LineLaws.{first_there, first_text, first_none}
use Rattle.row_borders.proofs.merge.first_border.Goals as goal
use Rattle.row_borders.proofs.merge.first_border.Goals.{in_default-via-in-Some+else-first-ne76, in_default-via-in_default}

pub returns-in-Some : goal.returns-in-Some
returns-in-Some c = first_there _ _ c.in-Some.first c.of.result c.in-Some.ensures.splits_off c.if-first-ne76.true c.of.ensures.reads_border

pub returns-in_default : goal.returns-in_default
returns-in_default c =
    elim c.in_default.branch [
      | in_default-via-in-Some+else-first-ne76 w ↦ first_text _ _ w.in-Some.first w.in-Some.ensures.splits_off w.if-first-ne76.false
      | in_default-via-in_default w ↦ first_none _ (rw w.in_default.is at c.split_field.ensures.splits_off)
    ]
