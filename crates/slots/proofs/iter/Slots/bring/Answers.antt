-- `iter::Slots::bring` meets its contract: the first of the C and K fields comes forward, if no seat is ready.
-- Assumes nothing.
use Rattle.std.proofs.Common.{◌≡◌, arith}
use Rattle.std.specs.Prelude.{None}
use Rattle.slots.proofs.SlotLaws.{brought}
use Rattle.slots.proofs.SlotSteps.{bring_ready, bring_full, bring_none, bring_no_cell, none_there, some_none}
use Rattle.slots.proofs.iter.Slots.bring.Goals as goal
use Rattle.slots.proofs.iter.Slots.bring.Goals.{then-is_some-via-then-is_some, then-is_some-via-else-is_some+then-self-ge4096}

pub returns-then-is_some : goal.returns-then-is_some
returns-then-is_some c =
    elim c.then-is_some.branch [
      | then-is_some-via-then-is_some w ↦ bring_ready _ w.if-is_some.ensures
      | then-is_some-via-else-is_some+then-self-ge4096 w ↦ bring_full _ w.if-self-ge4096.true
    ]

pub returns-in_default : goal.returns-in_default
returns-in_default c = bring_none _ c.in_default.ensures.splits_off

pub returns-in_default-of : goal.returns-in_default-of
returns-in_default-of c = bring_no_cell _ _ _ c.in-Some.ensures.splits_off c.in_default-of.ensures

pub returns : goal.returns
returns c =
    let none : c.args.self.now.front ≡ None = none_there _ c.if-is_some.ensures in record {
      measure = omega (arith, c.in-Some.ensures.size);
      brings =
          λ left total l. (
            brought _ _ _ _ _ _ _ _ _ c.in-Some-of.cell _ none c.in-Some.ensures.splits_off c.in-Some-of.ensures c.of_cell-seat.ensures (omega (arith, c.of_cell-seat.ensures.width_is)) left total l,
            some_none _,
          );
    }
