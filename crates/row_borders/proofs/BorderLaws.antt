-- Laws of the border above a row and of the border below it.
-- Assumes nothing.
use mathlib.Core.Path.{sym, subst}
use mathlib.Core.Bool.{Bool, true, false}
use mathlib.Core.List.{List}
use Prim.Native.Nat.{ℕ, ◌-◌}
use Rattle.std.specs.Prelude.{if◌then◌else◌}
use Rattle.borders.specs.declared.border.Side.TheVariants.{Above, Below}
use Rattle.borders.specs.BorderSegHoriz.{Horiz}
use Rattle.borders.specs.BorderHoriz.{new_type, join_on, join_above}
use Rattle.rows.specs.Columns.{join_at, total_width, joined_above, Slot, slot_widths, border_above, border_below}
use Rattle.rows.proofs.Columns.{bottoms_none}
use Rattle.long_borders.specs.declared.border.BorderHoriz.{BorderHoriz}
use Rattle.long_borders.specs.Keeps.{Keeps, Stretches}
use Rattle.seats.specs.declared.row.Row.{Row}
use Rattle.seats.specs.Row.{RowIs}
use Rattle.row_borders.specs.Merge.{MergesSeats}
use Rattle.row_borders.specs.Join.{JoinsEdges}
use Rattle.row_borders.specs.Border.{BordersAbove, BordersBelow}

-- ---- above

-- joined and stretched
above_joined : (b b₁ b₂ : BorderHoriz) (end : ℕ) (row : Row) → JoinsEdges Below b row b₁ end → Stretches b₁ end b₂
    → (segs : List ℕ) (xs : List Slot) (total : ℕ) → Keeps b segs → RowIs row xs total → Keeps b₂ (joined_above (slot_widths xs) segs)
unfolding joined_above
above_joined b b₁ b₂ end row joins stretches segs xs total k is =
    let d = joins xs total segs is k in
    stretches (join_at (join_on Below) 0 (slot_widths xs) segs) (total_width (slot_widths xs) - 1) d.keeps d.ends

-- No first border is taken off.
pub above_plain : (b b₁ b₂ : BorderHoriz) (end : ℕ) (row : Row) → JoinsEdges Below b row b₁ end → Stretches b₁ end b₂ → BordersAbove b row false b₂
unfolding border_above
above_plain b b₁ b₂ end row joins stretches segs xs total k is = above_joined b b₁ b₂ end row joins stretches segs xs total k is

-- The first borders of the cells are merged into it.
pub above_collapsed : (b b₁ b₂ b₃ : BorderHoriz) (end : ℕ) (row : Row) → JoinsEdges Below b row b₁ end → Stretches b₁ end b₂
    → MergesSeats Below b₂ row b₃ → BordersAbove b row true b₃
unfolding border_above
above_collapsed b b₁ b₂ b₃ end row joins stretches merges segs xs total k is =
    merges xs total (joined_above (slot_widths xs) segs) is (above_joined b b₁ b₂ end row joins stretches segs xs total k is)

-- ---- below

-- the new border, joined or not
abbrev new_border : Bool → ℕ → List Slot → List ℕ
new_border joined w xs = if joined then join_at join_above 0 (slot_widths xs) (new_type w Horiz) else new_type w Horiz

-- `next_border` before anything is merged
abbrev pub JoinsNew : BorderHoriz → Bool → Row → BorderHoriz → Type 0
JoinsNew b joined row b' =
    (w : ℕ) (xs : List Slot) (total : ℕ) → Keeps b (new_type w Horiz) → RowIs row xs total → Keeps b' (new_border joined w xs)

-- No border stands above the row.
pub new_plain : (b : BorderHoriz) (row : Row) → JoinsNew b false row b
new_plain b row w xs total k is = k

-- One does.
pub new_joined : (b b' : BorderHoriz) (end : ℕ) (row : Row) → JoinsEdges Above b row b' end → JoinsNew b true row b'
new_joined b b' end row joins w xs total k is = (joins xs total (new_type w Horiz) is k).keeps

-- No last border is taken off.
pub below_plain : (b b₁ : BorderHoriz) (joined : Bool) (row : Row) → JoinsNew b joined row b₁ → BordersBelow b joined row false b₁
unfolding border_below
below_plain b b₁ joined row new w xs total k is =
    subst (λ (z : List ℕ). Keeps b₁ z) (sym (bottoms_none 0 xs (new_border joined w xs))) (new w xs total k is)

-- The last borders of the cells are merged into it.
pub below_collapsed : (b b₁ b₂ : BorderHoriz) (joined : Bool) (row : Row) → JoinsNew b joined row b₁ → MergesSeats Above b₁ row b₂
    → BordersBelow b joined row true b₂
unfolding border_below
below_collapsed b b₁ b₂ joined row new merges w xs total k is = merges xs total (new_border joined w xs) is (new w xs total k is)
