-- `border::Parts::of` meets its contract.
-- Assumes nothing.
use Rattle.std.proofs.Common.{refl}
use Rattle.places.proofs.BorderLaws.{plain_found, plain_short, in_none, in_plain}
use Rattle.places.proofs.border.Parts.of.Goals as goal

pub returns-then-letter-eq71 : goal.returns-then-letter-eq71
returns-then-letter-eq71 c =
    record { parts_in = c.holed.ensures.parts_in; finds_parts = rw c.if-letter-eq71.true c.holed.ensures.finds_parts }

pub returns-in_default : goal.returns-in_default
returns-in_default c =
    record { parts_in = in_none _ _ c.none.ensures; finds_parts = plain_short _ _ _ c.if-letter-eq71.false c.in_default.len_below }

pub returns : goal.returns
returns c =
    record { parts_in = in_plain _ _ refl refl; finds_parts = plain_found _ _ _ c.if-letter-eq71.false c.in-len1-up.len_at_least refl refl refl }
