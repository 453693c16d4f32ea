-- `hanging::HangingCell::of` meets its contract: it is the hanging cell that the definitions read.
-- Assumes nothing.
use Rattle.std.proofs.Common.{refl}
use Rattle.slots.proofs.CellLaws.{hanging_cell, no_hanging}
use Rattle.slots.proofs.hanging.HangingCell.of.Goals as goal

pub returns-in_default : goal.returns-in_default
returns-in_default c = no_hanging c.args.field c.in_default.len_below

pub returns : goal.returns
returns c = hanging_cell c.args.field _ c.from_be_bytes.ensures refl refl refl
