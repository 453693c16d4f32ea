-- `border::Parts::holed` meets its contract.
-- Assumes nothing.
use Rattle.std.proofs.Common.{arith, refl}
use Rattle.places.proofs.BorderLaws.{holed_found, holed_short, holed_cut, in_none, in_holed}
use Rattle.places.proofs.border.Parts.holed.Goals as goal

pub returns-in_default : goal.returns-in_default
returns-in_default c =
    record { parts_in = in_none _ _ c.none.ensures; finds_parts = holed_short _ _ c.in_default.len_below }

pub returns-in_default-split_at_checked : goal.returns-in_default-split_at_checked
returns-in_default-split_at_checked c =
    record {
      parts_in = in_none _ _ c.none-in_default-split_at_checked.ensures;
      finds_parts = holed_cut _ _ c.from-count.result c.in-len3-up.len_at_least (omega arith) c.in_default-split_at_checked.ensures.cases;
    }

pub returns : goal.returns
returns c =
    record {
      parts_in = in_holed _ _ _ c.in-Some.ensures.cases;
      finds_parts = holed_found _ _ c.from-count.result c.in-len3-up.len_at_least refl (omega arith) c.in-Some.ensures.cases;
    }
