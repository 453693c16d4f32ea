-- `sheet::split_last` meets its contract.
-- Assumes nothing.
use Rattle.std.proofs.Common.{◌≡◌}
use Rattle.std.specs.Prelude.{IfSome}
use Rattle.append_columns.proofs.SheetLaws.{last_plain, last_border}
use Rattle.append_columns.proofs.sheet.split_last.Goals as goal
use Rattle.append_columns.proofs.sheet.split_last.Goals.{in_default-via-in-Some+else-last-ne76, in_default-via-in_default}

pub returns-in-Some : goal.returns-in-Some
returns-in-Some c =
    last_border _ c.walk_lines-walked.result c.in-Some.last c.of.result c.walk_lines-walked.ensures.walks c.in-Some.is c.if-last-ne76.true c.of.ensures.reads_border

pub returns-in_default : goal.returns-in_default
returns-in_default c =
    let text : IfSome c.walk_lines-walked.result.last (λ f. f.letter ≡ 0x4C) =
    elim c.in_default.branch [ in_default-via-in-Some+else-last-ne76 w ↦ rw w.in-Some.is w.if-last-ne76.false | in_default-via-in_default w ↦ rw w.in_default.is tt ]
    in
    last_plain _ c.walk_lines-walked.result c.walk_lines-walked.ensures.walks text
