-- A cell of a row in its place, and what it stands for.
-- Assumes nothing: these are definitions.
use Rattle.std.specs.Prelude.{◌≡◌, true, List, [], ◌∷◌, ℕ, ◌+◌, ◌-◌, Option, MatchOption}
use Rattle.std.proofs.Common.{Bor}
use Rattle.fields.specs.Field.{all}
use Rattle.fields.specs.Spans.{Hanging, is_span, readable_lines, readable_hanging}
use Rattle.fields.specs.Places.{LinesIn, OverhangIn}
use Rattle.rows.specs.Columns.{Slot, hung_slot}
use Rattle.slots.specs.declared.cell.Cell.{Cell}
use Rattle.slots.specs.declared.hanging.HangingCell.{HangingCell}
use Rattle.slots.specs.declared.seat.Seat.{Seat}

-- a cell of the row, whose lines passed refusal 3
pub record SeatIs (seat : Seat) (x : Slot) : Type 0 where
  pub pos_is : x.pos ≡ seat.pos
  pub width_is : x.width ≡ seat.width
  pub to_is : x.to ≡ seat.to
  pub span_is : x.span ≡ seat.span
  pub spans : is_span seat.span ≡ true
  pub lines_in : LinesIn seat.lines.now x.lines
  pub readable : readable_lines x.lines ≡ true

-- `of_cell`
pub record SeatOfCell (c : Cell) (pos : ℕ) (seat : Seat) : Type 0 where
  pub pos_is : seat.pos ≡ pos
  pub width_is : seat.width ≡ c.width
  pub to_is : seat.to ≡ c.width
  pub span_is : seat.span ≡ c.span
  pub lines_are : seat.lines.now ≡ c.lines.now

-- `of_hanging`
pub record SeatOfHanging (c : HangingCell) (seat : Seat) : Type 0 where
  pub pos_is : seat.pos ≡ c.pos
  pub width_is : seat.width ≡ c.width
  pub to_is : seat.to ≡ 0
  pub span_is : seat.span ≡ c.rows
  pub lines_are : seat.lines.now ≡ c.lines.now

-- `filling`
pub record FillingSeat (pos end : ℕ) (seat : Seat) : Type 0 where
  pub pos_is : seat.pos ≡ pos
  pub width_is : seat.width ≡ end - (pos + 1)
  pub to_is : seat.to ≡ 0
  pub span_is : seat.span ≡ 1
  pub lines_are : seat.lines.now ≡ []

-- the first of some V fields, as a cell of the row, and the others
pub record FirstHanging (p : Seat × Bor (List ℕ)) (vs : List Hanging) : Type 0 where
  pub one : Hanging
  pub more : List Hanging
  pub are : vs ≡ one ∷ more
  pub seat_is : SeatIs p.0 (hung_slot one)
  pub rest_in : OverhangIn p.1.now more

-- `split_hanging`
abbrev pub SplitsHanging : List ℕ → Option (Seat × Bor (List ℕ)) → Type 0
SplitsHanging bytes r =
    (vs : List Hanging) → OverhangIn bytes vs → all readable_hanging vs ≡ true → MatchOption r (vs ≡ []) (λ p. FirstHanging p vs)
