-- What a seat gives to a line of the row, and what is left of its lines.
-- Assumes nothing: these are definitions.
use Rattle.std.specs.Prelude.{◌≡◌, Bool, true, false, not, ◌&&◌, List, ℕ, zero, suc, ◌-◌, eqb, replicate, length}
use Rattle.std.proofs.Math.Option.{none}
use Rattle.fields.specs.Field.{all}
use Rattle.fields.specs.Sheet.{Piece, readable_piece}
use Rattle.fields.specs.Widths.{width}
use Rattle.fields.specs.TaggedLine.{push_str, consume}
use Rattle.fields.specs.Spans.{RenderLine, readable_lines}
use Rattle.fields.specs.Places.{LinesIn}
use Rattle.rows.specs.declared.RenderOptions.{RenderOptions}
use Rattle.rows.specs.SubRenderer.{edge, bottom, without_bottom}
use Rattle.rows.specs.Columns.{Column, cell_misfit, add_column, next_column}
use Rattle.tagged_line.specs.Held.{Held}
use Rattle.tagged_line.specs.Pieces.{PiecesOf}
use Rattle.tagged_line.specs.declared.line.Line.{Line}

-- the most bytes and the most columns that a seat adds to a line
abbrev pub seat_most : ℕ
seat_most = 1900000

-- a text line, filled
abbrev pub AddsCellText : List ℕ → Line → ℕ → List ℕ → ℕ → List ℕ → Line → Type 0
AddsCellText out p a content to out' r =
    (ps : List Piece) → PiecesOf content ps → all readable_piece ps ≡ true → (st : List ℕ) (l : List Piece) → Held st l out p
    → Held st (push_str (consume l ps) a (replicate (to - width ps) 0x20)) out' r

-- ---- a seat

-- a line with nothing behind it is a last border, which collapsing takes off
abbrev pub leaves_pattern : Bool → ℕ → List ℕ → Bool
leaves_pattern collapse letter rest = collapse && eqb (length rest) 0 && not (eqb letter 0x4C)

-- a column whose lines and last border are these lines: with collapsing a last border is taken off them
abbrev pub Collapsed : Bool → List RenderLine → Column → Type 0
Collapsed false ms c = (c.lines ≡ ms) × (c.bottom ≡ none)
Collapsed true ms c = (c.lines ≡ without_bottom ms) × (c.bottom ≡ bottom ms)

-- the lines that a column has left, and its last border, are these bytes
pub record LeftIn (bytes : List ℕ) (width to : ℕ) (collapse : Bool) (c : Column) : Type 0 where
  pub ms : List RenderLine
  pub lines_in : LinesIn bytes ms
  pub readable : readable_lines ms ≡ true
  pub width_is : c.width ≡ width
  pub to_is : c.to ≡ to
  pub are : Collapsed collapse ms c

-- what the column gives to the line, and what is left of it without its first line
pub record SeatAdded (out : List ℕ) (p : Line) (s : RenderOptions) (width to : ℕ) (collapse : Bool) (out' : List ℕ) (r : Line) (left : List ℕ)
    (c : Column) : Type 0 where
  pub held : (total : ℕ) → cell_misfit total c c.lines ≡ false → (st : List ℕ) (l : List Piece) → Held st l out p
      → Held st (add_column s l c c.lines) out' r
  pub goes : LeftIn left width to collapse (next_column c)

-- `add_seat`, of each column whose lines left are some bytes
abbrev pub AddsSeat : List ℕ → Line → RenderOptions → ℕ → ℕ → List ℕ → Bool → List ℕ → Line → List ℕ → Type 0
AddsSeat out p s width to bytes collapse out' r left =
    (c : Column) → LeftIn bytes width to collapse c → SeatAdded out p s width to collapse out' r left c

-- ---- an edge

-- an edge between two seats
abbrev pub AddsEdge : List ℕ → Line → RenderOptions → List ℕ → Line → Type 0
AddsEdge out p s out' r =
    (st : List ℕ) (l : List Piece) → Held st l out p → Held st (push_str l s.annotation (edge s)) out' r

-- the line before seat k: with an edge, unless that is the first
abbrev pub opened : RenderOptions → ℕ → List Piece → List Piece
opened s zero l = l
opened s (suc k) l = push_str l s.annotation (edge s)

-- `open_seat`
abbrev pub OpensSeat : List ℕ → Line → RenderOptions → ℕ → List ℕ → Line → Type 0
OpensSeat out p s k out' r = (st : List ℕ) (l : List Piece) → Held st l out p → Held st (opened s k l) out' r
