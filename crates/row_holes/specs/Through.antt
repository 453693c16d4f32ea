-- The line of a seat that comes where the border below the row is, and its pieces.
-- Assumes nothing: these are definitions.
use Rattle.std.specs.Prelude.{◌≡◌, Bool, true, List, [], ◌∷◌, ℕ, ◌+◌, ◌≤◌, length, drop, Option, Some, None, Result, Ok, Err}
use Rattle.std.proofs.Math.Option.{some}
use Rattle.fields.specs.Field.{part, all}
use Rattle.fields.specs.List.{whole_of}
use Rattle.fields.specs.declared.raw.Field.{Field}
use Rattle.fields.specs.declared.raw.Broken.{Broken}
use Rattle.fields.specs.Sheet.{Piece, pieces_bytes}
use Rattle.fields.proofs.Back.{Every}
use Rattle.borders.specs.BorderHoriz.{stretch_to, border_into_tagged_line}
use Rattle.fields.specs.TaggedLine.{WellFormedPiece, consume}
use Rattle.rows.specs.declared.RenderOptions.{RenderOptions}
use Rattle.fields.specs.Spans.{Hole, RenderLine, read_line, readable_hole, readable_line}
use Rattle.rows.specs.Columns.{Slot, column_of, through_of}
use Rattle.places.specs.declared.border.Border.{Border}
use Rattle.places.specs.Border.{BorderIs}
use Rattle.slots.specs.declared.seat.Seat.{Seat}
use Rattle.slots.specs.Seat.{SeatIs}
use Rattle.tagged_line.specs.Pieces.{PiecesOf}

-- ---- a line laid as pieces

-- some pieces, as they are when they are pushed, laid in a buffer behind three bytes, up to a place, if it has room for them
pub record LaidTo (laid : List ℕ) (end : ℕ) (ps : List Piece) : Type 0 where
  pub valid : Every WellFormedPiece ps
  pub pushed : consume [] ps ≡ ps
  pub size : end ≡ 3 + length (pieces_bytes ps)
  pub reads : length laid ≤ 65538 → end ≤ length laid → PiecesOf (part 3 end laid) ps

-- `lay_border`
abbrev pub LaysBorder : Border → ℕ → List ℕ → ℕ → Type 0
LaysBorder r to laid end =
    (a : ℕ) (ss : List ℕ) (hs : List Hole) → BorderIs r a ss hs → all readable_hole hs ≡ true → LaidTo laid end (border_into_tagged_line a (stretch_to ss to) hs)

-- ---- the line of a seat

-- a field is the first of some lines, which passed refusal 3
pub record LineThrough (f : Field) (ls : List RenderLine) : Type 0 where
  pub one : RenderLine
  pub more : List RenderLine
  pub are : ls ≡ one ∷ more
  pub reads : read_line (whole_of f) ≡ some one
  pub readable : readable_line one ≡ true

-- the first of some lines, or none is left
abbrev pub ThroughIs : List RenderLine → Option (Result Field Broken) → Type 0
ThroughIs ls None = ls ≡ []
ThroughIs ls (Some (Ok f)) = LineThrough f ls
ThroughIs ls (Some (Err e)) = ⊥

-- `line_through`: the line that a seat has left so many lines down
abbrev pub FindsThrough : Seat → Bool → ℕ → Option (Result Field Broken) → Type 0
FindsThrough seat collapse height r = (x : Slot) → SeatIs seat x → ThroughIs (drop height (column_of collapse x).lines) r

-- the pieces that come where the border is
abbrev pub seat_through : RenderOptions → Bool → ℕ → Slot → List Piece
seat_through o collapse height x = through_of o (column_of collapse x) (drop height (column_of collapse x).lines)
