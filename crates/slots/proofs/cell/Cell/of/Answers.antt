-- `cell::Cell::of` meets its contract: it is the cell that the definitions read.
-- Assumes nothing.
use Rattle.std.proofs.Common.{◌<◌, length, refl, arith}
use Rattle.std.proofs.lemmas.Bool.Decides.{nat_tests}
use Rattle.slots.proofs.CellLaws.{plain_cell, spanning_cell, no_cell, short_cell}
use Rattle.slots.proofs.cell.Cell.of.Goals as goal
use Rattle.slots.proofs.cell.Cell.of.Goals.{in_default-via-then-field-lt1, in_default-via-in-len1-up+else-field-eq67+then-field-lt2}

pub returns-in-len1-up : goal.returns-in-len1-up
returns-in-len1-up c = plain_cell c.args.field _ c.if-field-eq67.true refl refl refl

pub returns-in-len2-up : goal.returns-in-len2-up
returns-in-len2-up c = spanning_cell c.args.field _ c.if-field-eq67.false refl refl refl

pub returns-in_default : goal.returns-in_default
returns-in_default c =
    elim c.in_default.branch [
      | in_default-via-then-field-lt1 w ↦ let short : length c.args.field.content.now < 1 = grind (arith, nat_tests) in no_cell c.args.field short
      | in_default-via-in-len1-up+else-field-eq67+then-field-lt2 w ↦ let short : length c.args.field.content.now < 2 = grind (arith, nat_tests) in short_cell c.args.field w.if-field-eq67.false short
    ]
