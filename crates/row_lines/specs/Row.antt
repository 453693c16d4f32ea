-- A line of a row.
-- Assumes nothing: these are definitions.
use Rattle.std.specs.Prelude.{◌≡◌, Bool, false, ◌||◌, List, [], ◌∷◌, ◌++◌, map, ℕ, suc, ◌-◌, ◌≤◌, ltb, length}
use Rattle.std.proofs.Math.Option.{some}
use Rattle.fields.specs.Field.{raws, read_all}
use Rattle.fields.specs.Sheet.{Piece, pieces_bytes}
use Rattle.fields.specs.Spans.{RenderLine, text, read_name}
use Rattle.rows.specs.declared.RenderOptions.{RenderOptions}
use Rattle.rows.specs.SubRenderer.{with_names, padded}
use Rattle.rows.specs.Columns.{Slot, Column, cell_misfit, add_column, column_line, line_misfit}
use Rattle.slots.specs.declared.seat.Seat.{Seat}
use Rattle.slots.specs.Seat.{SeatIs}
use Rattle.seats.specs.declared.row.Row.{Row}
use Rattle.seats.specs.Row.{RowIs}
use Rattle.tagged_line.specs.Held.{Held}
use Rattle.tagged_line.specs.declared.line.Line.{Line}
use Rattle.extend_lines.specs.Emitted.{Emitted}
use Rattle.extend_lines.specs.declared.line.Lines.{Lines}
use Rattle.row_lines.specs.Seat.{opened}
use Rattle.row_lines.specs.Left.{column_down}
use Rattle.row_lines.specs.Mark.{Marked, MarkSet, AllMarked}

-- ---- one seat

-- the most bytes and the most columns that a seat adds to a line, with an edge
abbrev pub place_most : ℕ
place_most = 1900016

-- what the column gives to the line, behind an edge, and its mark one line further
pub record MarkedAdded (out : List ℕ) (p : Line) (s : RenderOptions) (k : ℕ) (collapse : Bool) (i : ℕ) (out' marks' : List ℕ) (r : Line) (x : Slot) : Type 0 where
  pub held : (total : ℕ) → cell_misfit total (column_down collapse i x) (column_down collapse i x).lines ≡ false → (st : List ℕ) (l : List Piece) → Held st l out p
      → Held st (add_column s (opened s k l) (column_down collapse i x) (column_down collapse i x).lines) out' r
  pub moved : Marked marks' k collapse (suc i) x

-- `add_marked`; the marks of the others stay
pub record AddsMarked (out : List ℕ) (p : Line) (s : RenderOptions) (seat : Seat) (k : ℕ) (collapse : Bool) (i : ℕ) (marks out' marks' : List ℕ) (r : Line) : Type 0 where
  pub n : ℕ
  pub set : MarkSet marks k n marks'
  pub adds : (x : Slot) → SeatIs seat x → Marked marks k collapse i x → MarkedAdded out p s k collapse i out' marks' r x

-- ---- all of them

-- a line that is too long for its field: its bytes show it, or its columns, of which a byte of text gives two at most
abbrev pub is_long : Line → Bool
is_long p = ltb 131070 p.cols || ltb 65535 (p.at - p.base)

-- the most bytes and the most columns that the seats add to a line: one seat more than is too long
abbrev pub line_most : ℕ
line_most = 2040000

-- the columns of seats, i lines down
abbrev pub columns_down : Bool → ℕ → List Slot → List Column
columns_down collapse i xs = map (column_down collapse i) xs

-- the columns are on a line that held l: all of them, and their marks one line further; or so many that the line is too long
pub record LineLaid (s : RenderOptions) (collapse : Bool) (i : ℕ) (out' marks' : List ℕ) (r : Line) (xs : List Slot) (st : List ℕ) (l : List Piece) : Type 0 where
  pub pieces : List Piece
  pub held : Held st pieces out' r
  pub grows : length (pieces_bytes pieces) ≤ length (pieces_bytes (column_line s l (columns_down collapse i xs)))
  pub whole : is_long r ≡ false → pieces ≡ column_line s l (columns_down collapse i xs)
  pub moved : is_long r ≡ false → AllMarked marks' 0 collapse (suc i) xs

-- `lay_seats`
abbrev pub LaysSeats : List ℕ → Line → RenderOptions → Row → Bool → ℕ → List ℕ → List ℕ → List ℕ → Line → Type 0
LaysSeats out p s row collapse i marks out' marks' r =
    (xs : List Slot) (total : ℕ) → RowIs row xs total → AllMarked marks 0 collapse i xs
    → (width : ℕ) → line_misfit width (columns_down collapse i xs) ≡ false → (st : List ℕ) (l : List Piece) → Held st l out p
    → LineLaid s collapse i out' marks' r xs st l

-- ---- a line behind others

-- a line more, with names in front, and, unless a line is too long, the marks one line further
pub record LineAdded (ns : List (List ℕ)) (s : RenderOptions) (collapse : Bool) (i : ℕ) (out' marks' : List ℕ) (r : Lines) (xs : List Slot) (st : List ℕ)
    (ls : List RenderLine) : Type 0 where
  pub emitted : Emitted st (ls ++ (padded s (with_names ns (text (column_line s [] (columns_down collapse i xs)))) ∷ [])) [] [] out' r
  pub moved : r.long ≡ false → AllMarked marks' 0 collapse (suc i) xs

-- `add`
abbrev pub AddsLine : List ℕ → Lines → List ℕ → RenderOptions → Row → Bool → ℕ → List ℕ → List ℕ → List ℕ → Lines → Type 0
AddsLine out p names s row collapse i marks out' marks' r =
    (ns : List (List ℕ)) → read_all read_name (raws names) ≡ some ns → (xs : List Slot) (total : ℕ) → RowIs row xs total → AllMarked marks 0 collapse i xs
    → (width : ℕ) → line_misfit width (columns_down collapse i xs) ≡ false → (st : List ℕ) (ls : List RenderLine) → Emitted st ls [] [] out p
    → LineAdded ns s collapse i out' marks' r xs st ls
