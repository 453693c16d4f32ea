-- `border::Border::of` meets its contract.
-- Assumes nothing.
use Rattle.std.proofs.Common.{refl}
use Rattle.places.proofs.BorderLaws.{parts_within, parts_read}
use Rattle.places.proofs.border.Border.of.Goals as goal

pub returns : goal.returns
returns c =
    record { within = parts_within _ _ c.of-parts.ensures.parts_in; reads_border = parts_read _ _ _ _ refl refl refl c.of-parts.ensures.finds_parts }
