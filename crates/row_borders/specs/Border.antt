-- The border above a row and the border below it, before its holes.
-- Assumes nothing: these are definitions.
use Rattle.std.specs.Prelude.{Bool, List, map, ℕ}
use Rattle.borders.specs.BorderSegHoriz.{Horiz}
use Rattle.borders.specs.BorderHoriz.{new_type}
use Rattle.rows.specs.Columns.{Slot, column_of, border_above, border_below}
use Rattle.long_borders.specs.declared.border.BorderHoriz.{BorderHoriz}
use Rattle.long_borders.specs.Keeps.{Keeps}
use Rattle.seats.specs.declared.row.Row.{Row}
use Rattle.seats.specs.Row.{RowIs}

-- `prev_border`
abbrev pub BordersAbove : BorderHoriz → Row → Bool → BorderHoriz → Type 0
BordersAbove b row collapse b' =
    (segs : List ℕ) (xs : List Slot) (total : ℕ) → Keeps b segs → RowIs row xs total → Keeps b' (border_above collapse xs segs)

-- `next_border`, from a new border of a width
abbrev pub BordersBelow : BorderHoriz → Bool → Row → Bool → BorderHoriz → Type 0
BordersBelow b joined row collapse b' =
    (w : ℕ) (xs : List Slot) (total : ℕ) → Keeps b (new_type w Horiz) → RowIs row xs total
    → Keeps b' (border_below joined w xs (map (column_of collapse) xs))
