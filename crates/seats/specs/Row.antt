-- The seats of a row: the first are kept, and the others are ahead.
-- Assumes nothing: these are definitions.
use Rattle.std.specs.Prelude.{◌≡◌, true, List, [], ◌∷◌, ◌++◌, ℕ, ◌+◌, ◌≤◌, length, take, Option, MatchOption}
use Rattle.fields.specs.Field.{all}
use Rattle.fields.specs.Spans.{Hanging, Cell, readable_hanging, readable_cell}
use Rattle.fields.specs.Places.{CellsIn, OverhangIn}
use Rattle.rows.specs.Columns.{total_width, Slot, cell_slots, total_from, slot_widths, row_slots}
use Rattle.slots.specs.declared.seat.Seat.{Seat}
use Rattle.slots.specs.declared.iter.Slots.{Slots}
use Rattle.slots.specs.Seat.{SeatIs}
use Rattle.slots.specs.Iter.{slots_measure, SlotsLeft}
use Rattle.seats.specs.declared.row.Row.{Row}
use Rattle.seats.specs.declared.row.Seats.{Seats}

-- each of some seats is the cell at its place
abbrev pub SeatsAre : List Seat → List Slot → Type 0
SeatsAre [] [] = Unit {0}
SeatsAre [] (y ∷ ys) = ⊥
SeatsAre (s ∷ ss) [] = ⊥
SeatsAre (s ∷ ss) (y ∷ ys) = SeatIs s y × SeatsAre ss ys

-- the seats of a row, and its width, one too high: some are kept, the others are ahead
pub record RowLeft (kept : List Seat) (rest : Slots) (xs : List Slot) (total : ℕ) : Type 0 where
  pub ys : List Slot
  pub zs : List Slot
  pub are : xs ≡ ys ++ zs
  pub kept_are : SeatsAre kept ys
  pub ahead : SlotsLeft rest zs total

-- those of a whole row
abbrev pub RowIs : Row → List Slot → ℕ → Type 0
RowIs row xs total = RowLeft (take row.len row.seats) row.rest xs total

-- `ahead`: the row's seats are those that were ahead
abbrev pub KeepsAhead : Slots → Row → Type 0
KeepsAhead first row = (xs : List Slot) (total : ℕ) → SlotsLeft first xs total → RowIs row xs total

-- `new`
abbrev pub BeginsRow : List ℕ → List ℕ → Row → Type 0
BeginsRow cells hanging row =
    (cs : List Cell) (vs : List Hanging) → CellsIn cells cs → length cs ≤ 16 → all readable_cell cs ≡ true → OverhangIn hanging vs → all readable_hanging vs ≡ true
    → RowIs row (row_slots vs cs) (total_from (cell_slots 0 cs) vs 0 (total_width (slot_widths (cell_slots 0 cs))))

-- `kept`
abbrev pub KeepsSeats : Row → List Seat → Type 0
KeepsSeats row r = r ≡ take row.len row.seats

-- `rest`
abbrev pub GivesRest : Row → Slots → Type 0
GivesRest row r = r ≡ row.rest

-- ---- the walk over all seats

-- those that are left
abbrev pub SeatsLeft : Seats → List Slot → ℕ → Type 0
SeatsLeft s xs total = RowLeft s.kept.now s.rest xs total

-- `iter`
abbrev pub GivesSeats : Row → Seats → Type 0
GivesSeats row s = (xs : List Slot) (total : ℕ) → RowIs row xs total → SeatsLeft s xs total

-- it gets smaller with each seat
abbrev pub seats_measure : Seats → ℕ
seats_measure s = length s.kept.now + slots_measure s.rest

-- the first of the seats that are left, and the others
pub record FirstSeat (seat : Seat) (rest : Seats) (xs : List Slot) (total : ℕ) : Type 0 where
  pub one : Slot
  pub more : List Slot
  pub are : xs ≡ one ∷ more
  pub seat_is : SeatIs seat one
  pub goes : SeatsLeft rest more total

-- a call of `next`
abbrev pub NextSeat : Seats → Option Seat → Seats → Type 0
NextSeat s r rest =
    (xs : List Slot) (total : ℕ) → SeatsLeft s xs total → MatchOption r ((xs ≡ []) × SeatsLeft rest [] total) (λ seat. FirstSeat seat rest xs total)
