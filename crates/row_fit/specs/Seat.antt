-- What one seat of a row has to do with refusal 10.
-- Assumes nothing: these are definitions.
use Rattle.std.specs.Prelude.{Option as Maybe, Some, None, Result, Ok, Err, ◌≡◌, Bool, true, false, List, [], ◌∷◌, ℕ, suc, ltb, drop, if◌then◌else◌}
use Rattle.fields.specs.Sheet.{Piece}
use Rattle.fields.specs.declared.refusal.Refusal.{Refusal}
use Rattle.fields.specs.declared.refusal.Refusal.TheVariants.{OverhangMisfit}
use Rattle.borders.specs.BorderSegHoriz.{joins_above}
use Rattle.rows.specs.declared.RenderOptions.{RenderOptions}
use Rattle.fields.specs.Spans.{readable_lines}
use Rattle.fields.specs.Places.{LinesIn}
use Rattle.rows.specs.Columns.{Slot, Column, column_of, bottom_of, column_misfit, through_of}
use Rattle.holes.specs.Cols.{Counts}
use Rattle.slots.specs.declared.seat.Seat.{Seat}
use Rattle.slots.specs.Seat.{SeatIs}
use Rattle.row_fit.specs.declared.reach.SeatFit.{SeatFit}

-- ---- the last border that was taken off

-- the place behind a segment, of one found behind it, or its own if it joins
abbrev pub or_first : Bool → Maybe ℕ → Maybe ℕ
or_first joins (Some i) = Some (suc i)
or_first true None = Some 0
or_first false None = None

-- the last segment at which a border joins another that it is merged into from above
unfoldable pub last_join : List ℕ → Maybe ℕ
last_join [] = None
last_join (s ∷ segs) = or_first (joins_above s) (last_join segs)

-- ---- the line that comes where the border is

-- its pieces, of a column that hangs on
abbrev pub pieces_below : RenderOptions → ℕ → Column → List Piece
pieces_below o n c = if ltb 1 c.span then through_of o c (drop n c.lines) else []

-- `through_cols`: of a column of a seat's width and rows
abbrev pub CountsThrough : List ℕ → Seat → ℕ → Maybe ℕ → Type 0
CountsThrough bytes seat height r =
    (o : RenderOptions) (c : Column) → c.to ≡ seat.to → c.width ≡ seat.width → c.span ≡ seat.span → LinesIn bytes c.lines → readable_lines c.lines ≡ true
    → Counts r (pieces_below o height c)

-- `seat_through`
abbrev pub CountsSeat : Seat → Bool → ℕ → Maybe ℕ → Type 0
CountsSeat seat collapse height r = (o : RenderOptions) (x : Slot) → SeatIs seat x → Counts r (pieces_below o height (column_of collapse x))

-- ---- one seat

-- how a column meets the border below the row
pub record FitIs (o : RenderOptions) (height : ℕ) (c : Column) (fit : SeatFit) : Type 0 where
  pub join_is : fit.join ≡ last_join (bottom_of c)
  pub through_is : Counts fit.through (pieces_below o height c)

-- a column with its refusal, or how it meets the border
abbrev pub ColumnFit : RenderOptions → ℕ → ℕ → Column → Result SeatFit Refusal → Type 0
ColumnFit o total height c (Ok fit) = (column_misfit total height c ≡ false) × FitIs o height c fit
ColumnFit o total height c (Err e) = (column_misfit total height c ≡ true) × (e ≡ OverhangMisfit)

-- `seat_fit`
abbrev pub FitsSeat : Seat → Bool → ℕ → ℕ → Result SeatFit Refusal → Type 0
FitsSeat seat collapse total height r =
    (o : RenderOptions) (x : Slot) → SeatIs seat x → ColumnFit o total height (column_of collapse x) r
