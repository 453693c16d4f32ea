-- A sheet and a list of cells without holes, names that wait and spans, read from bytes and written to bytes (document 01, "the sheet").
-- Assumes nothing: these are definitions.
use Rattle.std.specs.Prelude.{Bool, true, List, [], ◌∷◌, ◌++◌, ℕ, ◌+◌, ◌*◌, eqb, length, if◌then◌else◌}
use Rattle.std.proofs.Math.Option.{Option, none, some, map}
use Rattle.fields.specs.Field.{two, field, Raw, whole, broken, raws, read_all, all}
use Rattle.fields.specs.Sheet.{Piece, read_piece, is_segment, up_to16, readable_piece, pieces_bytes}

-- `RenderLine`: pieces, or a border's annotation and segments
pub data RenderLine : Type 0 where
  text : List Piece → RenderLine
  border : ℕ → List ℕ → RenderLine

-- ---- reading

-- an annotation and segments
abbrev pub read_border : List ℕ → Option RenderLine
read_border [] = none
read_border (a ∷ segs) = if all is_segment segs then some (border a segs) else none

-- an L or a B field
unfoldable pub read_line : Raw → Option RenderLine
read_line broken = none
read_line (whole l content) =
    if eqb l 0x4C then map text (read_all read_piece (raws content))
    else if eqb l 0x42 then read_border content
    else none

-- the H field's two bytes count the lines
abbrev pub counted : List ℕ → Option (List RenderLine) → Option (List RenderLine)
counted content none = none
counted [] (some ls) = none
counted (h ∷ []) (some ls) = none
counted (h ∷ o ∷ []) (some ls) = if eqb (h * 256 + o) (length ls) then some ls else none
counted (h ∷ o ∷ x ∷ xs) (some ls) = none

-- the H field first
unfoldable pub read_headed : List Raw → Option (List RenderLine)
read_headed [] = none
read_headed (broken ∷ rs) = none
read_headed (whole l content ∷ rs) = if eqb l 0x48 then counted content (read_all read_line rs) else none

-- the lines of a sheet, or none for refusal 1
unfoldable pub read_sheet : List ℕ → Option (List RenderLine)
read_sheet bs = read_headed (raws bs)

-- a cell: its width and its lines
pub record Cell : Type 0 where
  pub width : ℕ
  pub lines : List RenderLine

-- a cell of a width
abbrev pub cell : ℕ → List RenderLine → Cell
cell w ls = record { width = w; lines = ls }

-- a width byte, then lines
abbrev pub read_cell_content : List ℕ → Option Cell
read_cell_content [] = none
read_cell_content (w ∷ ls) = map (cell w) (read_all read_line (raws ls))

-- a C field
unfoldable pub read_cell : Raw → Option Cell
read_cell broken = none
read_cell (whole l content) = if eqb l 0x43 then read_cell_content content else none

-- the cells of a call, at most 16, or none for refusal 1
unfoldable pub read_cells : List ℕ → Option (List Cell)
read_cells bs = up_to16 (read_all read_cell (raws bs))

-- ---- refusal 3

-- each piece
abbrev pub readable_line : RenderLine → Bool
readable_line (text ps) = all readable_piece ps
readable_line (border a segs) = true

-- each line
unfoldable pub readable_lines : List RenderLine → Bool
readable_lines ls = all readable_line ls

-- each line of a cell
abbrev pub readable_cell : Cell → Bool
readable_cell c = readable_lines c.lines

-- ---- writing

-- the content of an L or a B
abbrev pub content : RenderLine → List ℕ
content (text ps) = pieces_bytes ps
content (border a segs) = a ∷ segs

-- L or B
abbrev pub letter : RenderLine → ℕ
letter (text ps) = 0x4C
letter (border a segs) = 0x42

-- the lines of a sheet
unfoldable pub lines_bytes : List RenderLine → List ℕ
lines_bytes [] = []
lines_bytes (l ∷ ls) = field (letter l) (content l) ++ lines_bytes ls

-- a whole sheet
unfoldable pub sheet_bytes : List RenderLine → List ℕ
sheet_bytes ls = field 0x48 (two (length ls)) ++ lines_bytes ls
