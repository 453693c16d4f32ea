-- Borders whose holes overlap.
-- Assumes nothing: these are definitions.
use Rattle.std.specs.Prelude.{◌≡◌, Bool, false, ◌||◌, List, [], ◌∷◌, ℕ, zero, suc, length}
use Rattle.std.proofs.Math.Option.{some}
use Rattle.fields.specs.Field.{Raw}
use Rattle.borders.specs.BorderHoriz.{stretch_to}
use Rattle.fields.specs.Spans.{Hole, RenderLine, text, border, read_line}
use Rattle.fields.specs.Places.{LinesIn, HolesIn}
use Rattle.rows.specs.Columns.{overlaps}

-- `overlaps`: of a border of so many segments whose holes are bytes
abbrev pub FindsOverlap : List ℕ → ℕ → Bool → Type 0
FindsOverlap holes count r = (segs : List ℕ) (hs : List Hole) → HolesIn holes hs → length segs ≡ count → r ≡ overlaps segs 0 hs

-- ---- lines that cannot be drawn

-- a border, stretched to a width, whose holes overlap
abbrev pub line_overlaps : ℕ → RenderLine → Bool
line_overlaps to (text ps) = false
line_overlaps to (border a segs hs) = overlaps (stretch_to segs to) 0 hs

-- one of the first n lines
unfoldable pub any_overlaps : ℕ → ℕ → List RenderLine → Bool
any_overlaps to zero ls = false
any_overlaps to (suc n) [] = false
any_overlaps to (suc n) (l ∷ ls) = line_overlaps to l || any_overlaps to n ls

-- `line_overlaps`
abbrev pub TellsLine : Raw → ℕ → Bool → Type 0
TellsLine line to r = (l : RenderLine) → read_line line ≡ some l → r ≡ line_overlaps to l

-- `lines_overlap`
abbrev pub TellsLines : List ℕ → ℕ → ℕ → Bool → Type 0
TellsLines bytes most to r = (ls : List RenderLine) → LinesIn bytes ls → r ≡ any_overlaps to most ls
