-- What a seat has left of its lines, so many lines down.
-- Assumes nothing: these are definitions.
use Rattle.std.specs.Prelude.{◌≡◌, Bool, true, List, ℕ, zero, suc, ◌-◌, length, drop}
use Rattle.fields.specs.Spans.{readable_lines, lines_bytes}
use Rattle.fields.specs.Places.{LinesIn}
use Rattle.rows.specs.Columns.{Slot, Column, column_of, next_column}
use Rattle.row_lines.specs.Seat.{LeftIn}

-- the last so many of some bytes
abbrev pub last : ℕ → List ℕ → List ℕ
last n bytes = drop (length bytes - n) bytes

-- these bytes are the lines of a seat
pub record LinesOf (bytes : List ℕ) (x : Slot) : Type 0 where
  pub same : bytes ≡ lines_bytes x.lines
  pub lines_in : LinesIn bytes x.lines
  pub readable : readable_lines x.lines ≡ true

-- a column without its first lines, so many
unfoldable pub down : ℕ → Column → Column
down zero c = c
down (suc i) c = next_column (down i c)

-- a seat's column, i lines down
abbrev pub column_down : Bool → ℕ → Slot → Column
column_down collapse i x = down i (column_of collapse x)

-- what a seat has left, i lines down, are these bytes
abbrev pub StandsAt : List ℕ → Bool → ℕ → Slot → Type 0
StandsAt bytes collapse i x = LeftIn bytes x.width x.to collapse (column_down collapse i x)

-- `first_lines`
abbrev pub FindsFirst : List ℕ → Bool → List ℕ → Type 0
FindsFirst bytes collapse r = (x : Slot) → LinesOf bytes x → StandsAt r collapse 0 x

-- `next_lines`
abbrev pub MovesOn : List ℕ → Bool → List ℕ → Type 0
MovesOn bytes collapse r = (width to : ℕ) (c : Column) → LeftIn bytes width to collapse c → LeftIn r width to collapse (next_column c)

-- `lines_down`
abbrev pub FindsLeft : List ℕ → Bool → ℕ → List ℕ → Type 0
FindsLeft bytes collapse n r = (x : Slot) → LinesOf bytes x → StandsAt r collapse n x
