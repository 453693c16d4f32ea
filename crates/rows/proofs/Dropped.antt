-- The names that wait on a guest are dropped: where they pass refusal 3 they change nothing.
-- Assumes nothing.
use Rattle.std.proofs.Common.{◌≡◌, ℕ, Bool, true, List, [], refl}
use mathlib.Core.Option.{Option, none, some}
use Rattle.fields.specs.Field.{all}
use Rattle.fields.specs.Spans.{Sheet, sheet_of, readable_names}
use Rattle.rows.specs.Answer.{subrender_verdict}
use Rattle.rows.specs.declared.RenderOptions.{RenderOptions}

-- A GUEST'S NAMES ARE DROPPED: the verdict is that of the guest without them.
pub guest_dropped : (s : RenderOptions) (old guest : Sheet) (ps : Option (List (List ℕ))) (rep : Bool) → readable_names guest.names ≡ true
    → subrender_verdict s (some old) (some guest) ps rep ≡ subrender_verdict s (some old) (some (sheet_of guest.lines [] guest.overhang)) ps rep
unfolding subrender_verdict readable_names all
guest_dropped s old guest none rep e = refl
guest_dropped s old guest (some ps) rep e = rw e
