-- The borders of the cells of a row merged into the row's borders.
-- Assumes nothing: these are definitions.
use Rattle.std.specs.Prelude.{◌≡◌, true, List, [], map, ℕ, Option, MatchOption}
use Rattle.borders.specs.declared.border.Side.{Side}
use Rattle.borders.specs.declared.border.Side.TheVariants.{Above, Below}
use Rattle.fields.specs.Spans.{RenderLine}
use Rattle.fields.specs.Places.{LinesIn}
use Rattle.rows.specs.SubRenderer.{top}
use Rattle.rows.specs.Columns.{Slot, column_of, bottom_of, tops_of, bottoms_of}
use Rattle.places.specs.declared.border.Border.{Border}
use Rattle.long_borders.specs.declared.border.BorderHoriz.{BorderHoriz}
use Rattle.long_borders.specs.Keeps.{Keeps, MergesFrom}
use Rattle.seats.specs.declared.row.Row.{Row}
use Rattle.seats.specs.Row.{RowIs}

-- ---- one cell

-- a border of some segments, or none where there are no segments
abbrev pub HasSegments : Option Border → List ℕ → Type 0
HasSegments r segs = MatchOption r (segs ≡ []) (λ b. segs ≡ b.segments.now)

-- `first_border`
abbrev pub FindsFirst : List ℕ → Option Border → Type 0
FindsFirst lines r = (ls : List RenderLine) → LinesIn lines ls → HasSegments r (top ls)

-- the border of a cell that is merged from a side: from above its last one, and from below its first one
abbrev pub border_from : Side → Slot → List ℕ
border_from Above x = bottom_of (column_of true x)
border_from Below x = top x.lines

-- `border_from`
abbrev pub FindsBorder : Side → List ℕ → Option Border → Type 0
FindsBorder side lines r = (x : Slot) → LinesIn lines x.lines → HasSegments r (border_from side x)

-- `merge_lines`
abbrev pub MergesLines : Side → BorderHoriz → List ℕ → ℕ → BorderHoriz → Type 0
MergesLines side b lines pos b' = (x : Slot) → LinesIn lines x.lines → MergesFrom side b (border_from side x) pos b'

-- ---- the cells of a row

-- those of all cells merged from a side, the first at a position
abbrev pub merged_from : Side → ℕ → List Slot → List ℕ → List ℕ
merged_from Above pos xs b = bottoms_of pos (map (column_of true) xs) b
merged_from Below pos xs b = tops_of pos xs b

-- `merge_seats`
abbrev pub MergesSeats : Side → BorderHoriz → Row → BorderHoriz → Type 0
MergesSeats side b row b' =
    (xs : List Slot) (total : ℕ) (border : List ℕ) → RowIs row xs total → Keeps b border → Keeps b' (merged_from side 0 xs border)
