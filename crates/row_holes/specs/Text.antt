-- The border below a row with its holes as text: the segments between the holes and the lines of the seats, one after the other on a line.
-- Assumes nothing: these are definitions.
use Rattle.std.specs.Prelude.{◌≡◌, Bool, true, false, List, ◌++◌, map, ℕ, ◌≤◌, length}
use Rattle.std.proofs.Math.Option.{some}
use Rattle.fields.specs.Field.{Raw}
use Rattle.fields.specs.Sheet.{Piece, pieces_bytes}
use Rattle.fields.proofs.Back.{Every}
use Rattle.rows.specs.declared.RenderOptions.{RenderOptions}
use Rattle.fields.specs.TaggedLine.{consume}
use Rattle.fields.specs.Spans.{Hole, RenderLine, read_line, readable_line}
use Rattle.borders.specs.BorderHoriz.{up_to_hole, into_tagged_from, border_into_tagged_line}
use Rattle.rows.specs.SubRenderer.{into_tagged_line, filled}
use Rattle.rows.specs.Columns.{Slot, column_of, punch, column_holes, holes_of, any_past}
use Rattle.slots.specs.declared.seat.Seat.{Seat}
use Rattle.slots.specs.Seat.{SeatIs}
use Rattle.seats.specs.declared.row.Row.{Row}
use Rattle.seats.specs.Row.{RowIs}
use Rattle.tagged_line.specs.Held.{Held}
use Rattle.tagged_line.specs.declared.line.Line.{Line}
use Rattle.extend_lines.specs.declared.line.Lines.{Lines}
use Rattle.long_borders.specs.Keeps.{Near}
use Rattle.row_lines.specs.Row.{is_long}
use Rattle.row_holes.specs.Row.{WideSeat}

-- ---- numbers

-- the most bytes and the most columns that the segments of a border add to a line
abbrev pub segments_most : ℕ
segments_most = 524296

-- the most that a seat adds, with the segments before it
abbrev pub hole_most : ℕ
hole_most = 2424296

-- ---- segments and lines

-- `push_up_to_hole`: the segments from where the text stands up to a place within the border
abbrev pub PushesUpToHole : List ℕ → Line → ℕ → List ℕ → ℕ → List ℕ → Line → Type 0
PushesUpToHole out p a segs x out' r =
    x ≤ length segs → (st : List ℕ) (l : List Piece) → Held st l out p → Held st (up_to_hole a segs l p.cols x) out' r

-- `push_line`: of the line that a field is, filled to a width
abbrev pub PushesLine : List ℕ → Line → ℕ → Raw → ℕ → List ℕ → Line → Type 0
PushesLine out p a field to out' r =
    (o : RenderOptions) → o.annotation ≡ a → (g : RenderLine) → read_line field ≡ some g → readable_line g ≡ true
    → (st : List ℕ) (l : List Piece) → Held st l out p → Held st (consume l (into_tagged_line (filled o to g))) out' r

-- ---- holes

-- some holes are on a line, and the walk over the border goes on behind them
pub record HolesOn (a : ℕ) (segs : List ℕ) (hs : List Hole) (st : List ℕ) (l : List Piece) (pos : ℕ) (out' : List ℕ) (r : Line) : Type 0 where
  pub pieces : List Piece
  pub held : Held st pieces out' r
  pub goes : (ks : List Hole) → into_tagged_from a segs l pos (hs ++ ks) ≡ into_tagged_from a segs pieces r.cols ks

-- holes of which none ends past the border are pushed
abbrev pub Punches : List ℕ → Line → ℕ → List ℕ → List Hole → List ℕ → Line → Type 0
Punches out p a segs hs out' r =
    any_past (length segs) hs ≡ false → (st : List ℕ) (l : List Piece) → Held st l out p → HolesOn a segs hs st l p.cols out' r

-- `push_there`
abbrev pub PushesThere : List ℕ → Line → ℕ → List ℕ → Raw → ℕ → ℕ → List ℕ → Line → Type 0
PushesThere out p a segs field to x out' r =
    (o : RenderOptions) → o.annotation ≡ a → (g : RenderLine) → read_line field ≡ some g → readable_line g ≡ true
    → (x₀ : ℕ) → Near x x₀ → Punches out p a segs (punch x₀ (into_tagged_line (filled o to g))) out' r

-- `push_seat`
abbrev pub PushesSeat : List ℕ → Line → ℕ → List ℕ → Seat → Bool → ℕ → ℕ → List ℕ → Line → Type 0
PushesSeat out p a segs seat collapse height x out' r =
    (o : RenderOptions) → o.annotation ≡ a → (y : Slot) → SeatIs seat y → WideSeat y → (x₀ : ℕ) → Near x x₀
    → Punches out p a segs (column_holes o height x₀ (column_of collapse y)) out' r

-- ---- the border

-- the border with its holes is on a line; or so much of it that the line is too long
pub record HolesPushed (out : List ℕ) (a : ℕ) (segs : List ℕ) (hs : List Hole) (out' : List ℕ) (r : Line) : Type 0 where
  pub pieces : List Piece
  pub held : Held out pieces out' r
  pub grows : length (pieces_bytes pieces) ≤ length (pieces_bytes (border_into_tagged_line a segs hs))
  pub whole : is_long r ≡ false → pieces ≡ border_into_tagged_line a segs hs

-- `push_holes`
abbrev pub PushesHoles : List ℕ → Lines → ℕ → List ℕ → Row → Bool → ℕ → List ℕ → Line → Type 0
PushesHoles out p a segs row collapse height out' r =
    (o : RenderOptions) → o.annotation ≡ a → (xs : List Slot) (total : ℕ) → RowIs row xs total → Every WideSeat xs
    → any_past (length segs) (holes_of o height 0 (map (column_of collapse) xs)) ≡ false
    → HolesPushed out a segs (holes_of o height 0 (map (column_of collapse) xs)) out' r
