-- `checks::sheet::sheet_parts` meets its contract: the places behind the head where the fields are split.
-- Assumes nothing.
use Rattle.std.proofs.Common.{arith}
use Rattle.checks.proofs.SheetLaws.{short_sheet, finds_parts}
use Rattle.checks.proofs.sheet.sheet_parts.Goals as goal

pub returns-in_default-clause-finds_parts : goal.returns-in_default-clause-finds_parts
returns-in_default-clause-finds_parts c =
    short_sheet _ _ (omega (arith, c.in_default.ensures.lookup.0))

pub returns-clause-finds_parts : goal.returns-clause-finds_parts
returns-clause-finds_parts c =
    let (long, all, body, size) = c.in-Some.ensures.lookup.0 in
    finds_parts _ _ long (rw body at c.body_parts-found.ensures) (c.type_inv.sheet 3).fits (c.type_inv.sheet 4).fits
