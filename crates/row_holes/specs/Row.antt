-- The lines of all seats of a row that come where the border below it is: the cuts for them, and their holes.
-- Assumes nothing: these are definitions.
use Rattle.std.specs.Prelude.{◌≡◌, Bool, List, [], map, ℕ, ◌+◌, ◌-◌, ◌≤◌, ◌<◌, length, Option, MatchOption}
use Rattle.fields.specs.Sheet.{pieces_bytes}
use Rattle.fields.proofs.Back.{Every}
use Rattle.fields.specs.TaggedLine.{consume}
use Rattle.rows.specs.declared.RenderOptions.{RenderOptions}
use Rattle.fields.specs.Spans.{Hole, holes_bytes}
use Rattle.rows.specs.Columns.{Slot, column_of, punch, column_holes, holes_of, cut_all}
use Rattle.slots.specs.declared.seat.Seat.{Seat}
use Rattle.slots.specs.Seat.{SeatIs}
use Rattle.seats.specs.declared.row.Row.{Row}
use Rattle.seats.specs.Row.{RowIs}
use Rattle.long_borders.specs.Keeps.{Near, Keeps}
use Rattle.long_borders.specs.declared.border.BorderHoriz.{BorderHoriz}
use Rattle.row_holes.specs.Pieces.{HolesPut}
use Rattle.row_holes.specs.Through.{seat_through}

-- ---- the seats

-- one that hangs on has a column at least
abbrev pub WideSeat : Slot → Type 0
WideSeat x = 1 < x.span → 1 ≤ x.width

-- the pieces of the line of one that hangs on, pushed on a new line, fit a buffer of so many bytes, behind a head
abbrev pub ShortSeat : RenderOptions → Bool → ℕ → ℕ → Slot → Type 0
ShortSeat o collapse height room x = 1 < x.span → 3 + length (pieces_bytes (consume [] (seat_through o collapse height x))) ≤ room

-- ---- the cuts

-- `cut_seat`
abbrev pub CutsSeat : BorderHoriz → ℕ → Seat → Bool → ℕ → ℕ → ℕ → BorderHoriz → Type 0
CutsSeat b a seat collapse height pos room b' =
    (o : RenderOptions) → o.annotation ≡ a → (x : Slot) → SeatIs seat x → WideSeat x → ShortSeat o collapse height room x
    → (pos₀ : ℕ) → Near pos pos₀ → (border : List ℕ) → Keeps b border → Keeps b' (cut_all border (column_holes o height pos₀ (column_of collapse x)))

-- `cut_holes`
abbrev pub CutsHoles : BorderHoriz → ℕ → Row → Bool → ℕ → ℕ → BorderHoriz → Type 0
CutsHoles b a row collapse height room b' =
    (o : RenderOptions) → o.annotation ≡ a → (xs : List Slot) (total : ℕ) → RowIs row xs total → Every WideSeat xs
    → Every (ShortSeat o collapse height room) xs → (border : List ℕ) → Keeps b border
    → Keeps b' (cut_all border (holes_of o height 0 (map (column_of collapse) xs)))

-- ---- the holes

-- where the holes of one seat end, whatever the bytes
pub record PutIn (place at : ℕ) : Type 0 where
  pub on : place ≤ at
  pub few : at ≤ place + 524288

-- `put_seat`: the holes of a seat that hangs on are put, or their bytes are more than the room
abbrev pub PutsSeat : List ℕ → ℕ → ℕ → Seat → Bool → ℕ → ℕ → ℕ → List ℕ → Option ℕ → Type 0
PutsSeat out place a seat collapse height pos room out' r =
    (x : Slot) → SeatIs seat x → 1 ≤ x.width → (o : RenderOptions) → o.annotation ≡ a → (pos₀ : ℕ) → Near pos pos₀
    → MatchOption r (room < 3 + length (holes_bytes (punch pos₀ (seat_through o collapse height x)))) (λ at. HolesPut out place (punch pos₀ (seat_through o collapse height x)) out' at)

-- put behind what a content has up to a place; or too long for a content that begins at base
abbrev pub HolesAre : List ℕ → ℕ → ℕ → List Hole → List ℕ → Option ℕ → Type 0
HolesAre out base place hs out' r = MatchOption r (65535 < (place - base) + length (holes_bytes hs)) (λ at. HolesPut out place hs out' at)

-- `put_one`
abbrev pub PutsOne : List ℕ → ℕ → ℕ → ℕ → Seat → Bool → ℕ → ℕ → ℕ → List ℕ → Option ℕ → Type 0
PutsOne out base place a seat collapse height pos room out' r =
    65538 ≤ room → (o : RenderOptions) → o.annotation ≡ a → (x : Slot) → SeatIs seat x → WideSeat x → (pos₀ : ℕ) → Near pos pos₀
    → HolesAre out base place (column_holes o height pos₀ (column_of collapse x)) out' r

-- where all holes end, whatever the bytes: in a content that begins at base and is not too long
pub record HolesIn (base at : ℕ) : Type 0 where
  pub on : base ≤ at
  pub few : at ≤ base + 65535

-- `put_holes`
abbrev pub PutsHoles : List ℕ → ℕ → ℕ → ℕ → Row → Bool → ℕ → ℕ → List ℕ → Option ℕ → Type 0
PutsHoles out base place a row collapse height room out' r =
    65538 ≤ room → (o : RenderOptions) → o.annotation ≡ a → (xs : List Slot) (total : ℕ) → RowIs row xs total → Every WideSeat xs
    → HolesAre out base place (holes_of o height 0 (map (column_of collapse) xs)) out' r
