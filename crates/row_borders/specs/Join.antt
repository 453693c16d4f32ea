-- Joins at the inner edges of a row.
-- Assumes nothing: these are definitions.
use Rattle.std.specs.Prelude.{◌≡◌, List, ℕ, ◌+◌, ◌-◌, Option, MatchOption}
use Rattle.borders.specs.declared.border.Side.{Side}
use Rattle.borders.specs.BorderHoriz.{join_on}
use Rattle.rows.specs.Columns.{join_at, total_width, Slot, slot_widths}
use Rattle.long_borders.specs.declared.border.BorderHoriz.{BorderHoriz}
use Rattle.long_borders.specs.Keeps.{Near, Keeps, JoinsOn, Advances}
use Rattle.seats.specs.declared.row.Row.{Row}
use Rattle.seats.specs.Row.{RowIs}

-- `join_next`: the first seat joins nothing, and another one at the edge behind the seat before it
abbrev pub JoinsNext : Side → BorderHoriz → Option ℕ → ℕ → BorderHoriz → ℕ → Type 0
JoinsNext side b end width b' r = MatchOption end ((b' ≡ b) × (r ≡ width)) (λ edge. JoinsOn side b edge b' × Advances edge (width + 1) r)

-- a border joined at the inner edges of some cells, and where the last one ends
pub record JoinedAll (side : Side) (border : List ℕ) (xs : List Slot) (b : BorderHoriz) (end : ℕ) : Type 0 where
  pub keeps : Keeps b (join_at (join_on side) 0 (slot_widths xs) border)
  pub ends : Near end (total_width (slot_widths xs) - 1)

-- `join_edges`
abbrev pub JoinsEdges : Side → BorderHoriz → Row → BorderHoriz → ℕ → Type 0
JoinsEdges side b row b' r =
    (xs : List Slot) (total : ℕ) (border : List ℕ) → RowIs row xs total → Keeps b border → JoinedAll side border xs b' r
