-- The columns that are counted of holes, pieces and lines.
-- Assumes nothing: these are definitions.
use Rattle.std.specs.Prelude.{◌≡◌, true, List, [], ◌∷◌, ℕ, ◌+◌, ◌-◌, ◌≤◌, Option, Some, None}
use Rattle.std.proofs.Math.Option.{some}
use Rattle.fields.specs.Field.{Raw, all}
use Rattle.fields.specs.Sheet.{Piece, read_piece, readable_piece}
use Rattle.fields.specs.Widths.{piece_width, width}
use Rattle.borders.specs.BorderHoriz.{stretch_to, at_hole, into_tagged_from}
use Rattle.fields.specs.TaggedLine.{pad_to}
use Rattle.rows.specs.declared.RenderOptions.{RenderOptions}
use Rattle.fields.specs.Spans.{Hole, RenderLine, read_line, readable_hole, readable_line}
use Rattle.rows.specs.SubRenderer.{into_tagged_line, filled}
use Rattle.places.specs.Border.{BorderIs}
use Rattle.places.specs.declared.border.Border.{Border}
use Rattle.tagged_line.specs.Pieces.{PiecesOf}
use Rattle.holes.specs.Drawing.{Fits}

-- `piece_cols`
abbrev pub CountsPiece : Raw → ℕ → Type 0
CountsPiece field r = (q : Piece) → read_piece field ≡ some q → r ≡ piece_width q

-- `pieces_width`
abbrev pub CountsPieces : List ℕ → ℕ → Type 0
CountsPieces s r = (ps : List Piece) → PiecesOf s ps → r ≡ width ps

-- the column where `into_tagged_line` ends that stands at pos, of a border of so many segments
unfoldable pub walk_end : ℕ → ℕ → List Hole → ℕ
walk_end end pos [] = pos + (end - pos)
walk_end end pos (h ∷ hs) = walk_end end (at_hole pos h.place + piece_width h.piece) hs

-- `walk_end`
abbrev pub EndsAt : List ℕ → ℕ → ℕ → Type 0
EndsAt holes end r = (n : ℕ) (hs : List Hole) → Fits n holes hs → n ≤ end → r ≡ walk_end end 0 hs

-- the columns of pieces, if there is at least one
abbrev pub cols_of : List Piece → Option ℕ
cols_of [] = None
cols_of (p ∷ ps) = Some (width (p ∷ ps))

-- a number of columns is theirs
abbrev pub Counts : Option ℕ → List Piece → Type 0
Counts r ps = r ≡ cols_of ps

-- `text_cols`: of the text padded to a width
abbrev pub CountsText : List ℕ → ℕ → Option ℕ → Type 0
CountsText s to r = (a : ℕ) (ps : List Piece) → PiecesOf s ps → all readable_piece ps ≡ true → Counts r (pad_to ps to a)

-- `border_cols`: of the border stretched to a width
abbrev pub CountsBorder : Border → ℕ → Option ℕ → Type 0
CountsBorder border to r =
    (a : ℕ) (ss : List ℕ) (hs : List Hole) → BorderIs border a ss hs → all readable_hole hs ≡ true
    → Counts r (into_tagged_from a (stretch_to ss to) [] 0 hs)

-- `line_cols`: of the line that a field is, filled to a width
abbrev pub CountsLine : Raw → ℕ → Option ℕ → Type 0
CountsLine field to r =
    (l : RenderLine) (o : RenderOptions) → read_line field ≡ some l → readable_line l ≡ true → Counts r (into_tagged_line (filled o to l))
