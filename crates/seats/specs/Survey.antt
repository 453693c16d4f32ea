-- What a row is asked before anything is written.
-- Assumes nothing: these are definitions.
use Rattle.std.specs.Prelude.{◌≡◌, Bool, true, ◌||◌, List, map, ℕ, ◌-◌, ◌/◌, ◌≤◌, eqb, length, if◌then◌else◌}
use Rattle.fields.specs.Field.{all}
use Rattle.fields.proofs.Back.{Every}
use Rattle.rows.specs.SubRenderer.{max, starts_border}
use Rattle.rows.specs.Columns.{Slot, column_of, columns_height, any_top}
use Rattle.bodies.specs.Walk.{unholed}
use Rattle.slots.specs.declared.seat.Seat.{Seat}
use Rattle.slots.specs.Seat.{SeatIs}
use Rattle.seats.specs.declared.row.Row.{Row}
use Rattle.seats.specs.declared.survey.Seen.{Seen}
use Rattle.seats.specs.declared.survey.Surveyed.{Surveyed}
use Rattle.seats.specs.Row.{RowIs}

-- ---- one seat

-- the lines of one row of a cell that spans some
abbrev pub share_of : ℕ → ℕ → ℕ
share_of count span = if eqb span 1 then count else count / span

-- `share`: numbers
abbrev pub SharesIn : ℕ → ℕ → Type 0
SharesIn count r = r ≤ count

-- `share`
abbrev pub Shares : ℕ → ℕ → ℕ → Type 0
Shares count span r = 1 ≤ span → r ≡ share_of count span

-- a cell of one row, no wider than the row, and without a line with holes
pub record PlainSlot (collapse : Bool) (total : ℕ) (x : Slot) : Type 0 where
  pub one : x.span ≡ 1
  pub narrow : x.width ≤ total
  pub bare : all unholed (column_of collapse x).lines ≡ true

-- `look`: numbers
abbrev pub SeenIn : Seen → Seen → Type 0
SeenIn seen r = seen.height ≤ 65535 → r.height ≤ 65535

-- what is known of some cells, with one more
pub record LookIs (seen : Seen) (collapse : Bool) (r : Seen) (x : Slot) : Type 0 where
  pub top_is : r.top ≡ (seen.top || starts_border x.lines)
  pub widest_is : r.widest ≡ max seen.widest x.width
  pub height_is : r.height ≡ max seen.height (share_of (length (column_of collapse x).lines) x.span)
  pub single_is : r.single ≡ true → (seen.single ≡ true) × (x.span ≡ 1) × (all unholed (column_of collapse x).lines ≡ true)

-- `look`
abbrev pub Looks : Seen → Seat → Bool → Seen → Type 0
Looks seen seat collapse r = (x : Slot) → SeatIs seat x → LookIs seen collapse r x

-- ---- the row

-- numbers that hold whatever the bytes
abbrev pub SurveyIn : Surveyed → Type 0
SurveyIn r = (r.total ≤ 65790) × (r.height ≤ 65535)

-- a row's first borders, width and height, and whether its cells are plain
pub record SurveyIs (collapse : Bool) (r : Surveyed) (xs : List Slot) (total : ℕ) : Type 0 where
  pub top_is : r.top ≡ any_top xs
  pub total_is : r.total ≡ total - 1
  pub height_is : r.height ≡ columns_height (map (column_of collapse) xs)
  pub plain_is : r.plain ≡ true → Every (PlainSlot collapse (total - 1)) xs

-- `survey`
abbrev pub Surveys : Row → Bool → Surveyed → Type 0
Surveys row collapse r = (xs : List Slot) (total : ℕ) → RowIs row xs total → SurveyIs collapse r xs total
