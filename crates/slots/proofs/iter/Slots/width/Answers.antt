-- `iter::Slots::width` meets its contract.
-- Assumes nothing.
use Rattle.std.proofs.Common.{arith}
use Rattle.slots.proofs.SlotLaws.{at_last}
use Rattle.slots.proofs.iter.Slots.width.Goals as goal

pub returns-clause-width_is : goal.returns-clause-width_is
returns-clause-width_is c total l = omega (arith, c.max.ensures, c.saturating_sub.ensures, at_last _ _ _ _ _ _ _ _ l)
