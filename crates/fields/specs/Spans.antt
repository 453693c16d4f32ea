-- A sheet whose borders may have holes (G), on which names may wait (F) and from which cells may hang (V), and cells that may span rows
-- (K), read from bytes and written to bytes (requests 2.1 and 2.2). Pieces and prefixes are document 01's.
-- Assumes nothing: these are definitions.
use Rattle.std.specs.Prelude.{◌≡◌, Bool, false, not, ◌&&◌, ◌||◌, List, [], ◌∷◌, ◌++◌, ℕ, zero, suc, ◌+◌, ◌*◌, leb, eqb, length, take, drop, get_or, if◌then◌else◌}
use Rattle.std.proofs.Math.Option.{Option, none, some, map}
use Rattle.fields.specs.Field.{two, field, Raw, whole, broken, raws, both, read_all, all}
use Rattle.fields.specs.Text.{readable_text}
use Rattle.fields.specs.Sheet.{Piece, read_piece, is_segment, up_to16, readable_piece, piece_bytes, pieces_bytes}
use Rattle.fields.specs.Widths.{piece_width}

-- an entry of `holes`: its place, and the text or the name that stands there
pub record Hole : Type 0 where
  pub place : ℕ
  pub piece : Piece

-- a piece at a place
abbrev pub hole : ℕ → Piece → Hole
hole p t = record { place = p; piece = t }

-- `RenderLine`: pieces, or a border's annotation, segments and holes
pub data RenderLine : Type 0 where
  text : List Piece → RenderLine
  border : ℕ → List ℕ → List Hole → RenderLine

-- an entry of `overhang_cells`: the cell's position, its width, the rows left to it and its lines left
pub record Hanging : Type 0 where
  pub pos : ℕ
  pub width : ℕ
  pub rows : ℕ
  pub lines : List RenderLine

-- a cell that hangs
abbrev pub hanging : ℕ → ℕ → ℕ → List RenderLine → Hanging
hanging p w r ls = record { pos = p; width = w; rows = r; lines = ls }

-- a sheet: its lines, the names that wait for the next text line (`pending_frags`), and the cells that still hang from it
pub record Sheet : Type 0 where
  pub lines : List RenderLine
  pub names : List (List ℕ)
  pub overhang : List Hanging

-- all three
abbrev pub sheet_of : List RenderLine → List (List ℕ) → List Hanging → Sheet
sheet_of ls ns vs = record { lines = ls; names = ns; overhang = vs }

-- a cell: its width, the rows that it spans and its lines
pub record Cell : Type 0 where
  pub width : ℕ
  pub span : ℕ
  pub lines : List RenderLine

-- a cell of a width
abbrev pub cell : ℕ → ℕ → List RenderLine → Cell
cell w n ls = record { width = w; span = n; lines = ls }

-- ---- reading a border with holes

-- what stands in a row of holes: a place and a field, or a rest that is none
pub data RawHole : Type 0 where
  punched : ℕ → Raw → RawHole
  torn : RawHole

-- `fuel` bounds the number of holes: each has five bytes at least
unfoldable pub raw_holes_f : ℕ → List ℕ → List RawHole
raw_holes_f zero bs = []
raw_holes_f (suc fuel) [] = []
raw_holes_f (suc fuel) (p ∷ []) = torn ∷ []
raw_holes_f (suc fuel) (p ∷ q ∷ []) = torn ∷ []
raw_holes_f (suc fuel) (p ∷ q ∷ l ∷ []) = torn ∷ []
raw_holes_f (suc fuel) (p ∷ q ∷ l ∷ h ∷ []) = torn ∷ []
raw_holes_f (suc fuel) (p ∷ q ∷ l ∷ h ∷ o ∷ rest) =
    if leb (h * 256 + o) (length rest)
    then punched (p * 256 + q) (whole l (take (h * 256 + o) rest)) ∷ raw_holes_f fuel (drop (h * 256 + o) rest)
    else torn ∷ []

-- the holes of a byte list, one after the other
unfoldable pub raw_holes : List ℕ → List RawHole
raw_holes bs = raw_holes_f (length bs) bs

-- a two-byte place and one S or F field
unfoldable pub read_hole : RawHole → Option Hole
read_hole torn = none
read_hole (punched p r) = map (hole p) (read_piece r)

-- each hole read
unfoldable pub read_holes : List RawHole → Option (List Hole)
read_holes [] = some []
read_holes (r ∷ rs) = both (read_hole r) (read_holes rs)

-- a hole whose text passes refusal 3 ends within so many segments
abbrev pub ends_within : ℕ → Hole → Bool
ends_within n h = not (readable_piece h.piece) || leb (h.place + piece_width h.piece) n

-- at least one hole, each within the segments
abbrev pub holed : ℕ → List ℕ → Option (List Hole) → Option RenderLine
holed a segs none = none
holed a segs (some []) = none
holed a segs (some (h ∷ hs)) =
    if all is_segment segs && all (ends_within (length segs)) (h ∷ hs) then some (border a segs (h ∷ hs)) else none

-- an annotation, a two-byte segment count, the segments, the holes
unfoldable pub read_holed : List ℕ → Option RenderLine
read_holed [] = none
read_holed (a ∷ []) = none
read_holed (a ∷ h ∷ []) = none
read_holed (a ∷ h ∷ o ∷ rest) =
    if leb (h * 256 + o) (length rest)
    then holed a (take (h * 256 + o) rest) (read_holes (raw_holes (drop (h * 256 + o) rest)))
    else none

-- ---- reading lines, sheets and cells

-- an annotation and segments
abbrev pub read_border : List ℕ → Option RenderLine
read_border [] = none
read_border (a ∷ segs) = if all is_segment segs then some (border a segs []) else none

-- an L, a B or a G field
unfoldable pub read_line : Raw → Option RenderLine
read_line broken = none
read_line (whole l content) =
    if eqb l 0x4C then map text (read_all read_piece (raws content))
    else if eqb l 0x42 then read_border content
    else if eqb l 0x47 then read_holed content
    else none

-- a span, or the rows left: 1 to 16
abbrev pub is_span : ℕ → Bool
is_span n = leb 1 n && leb n 16

-- a two-byte position, a width byte, the rows left, then lines
abbrev pub read_hanging_content : List ℕ → Option Hanging
read_hanging_content [] = none
read_hanging_content (p ∷ []) = none
read_hanging_content (p ∷ q ∷ []) = none
read_hanging_content (p ∷ q ∷ w ∷ []) = none
read_hanging_content (p ∷ q ∷ w ∷ r ∷ ls) =
    if is_span r then map (hanging (p * 256 + q) w r) (read_all read_line (raws ls)) else none

-- a V field
unfoldable pub read_hanging : Raw → Option Hanging
read_hanging broken = none
read_hanging (whole l content) = if eqb l 0x56 then read_hanging_content content else none

-- a V field, whatever is in it
abbrev pub is_hanging : Raw → Bool
is_hanging broken = false
is_hanging (whole l content) = eqb l 0x56

-- the fields before the first V
unfoldable pub before_hanging : List Raw → List Raw
before_hanging [] = []
before_hanging (r ∷ rs) = if is_hanging r then [] else r ∷ before_hanging rs

-- and those from it on
unfoldable pub from_hanging : List Raw → List Raw
from_hanging [] = []
from_hanging (r ∷ rs) = if is_hanging r then r ∷ rs else from_hanging rs

-- an F field
unfoldable pub read_name : Raw → Option (List ℕ)
read_name broken = none
read_name (whole l content) = if eqb l 0x46 then some content else none

-- an F field, whatever is in it
abbrev pub is_name : Raw → Bool
is_name broken = false
is_name (whole l content) = eqb l 0x46

-- the fields before the first F
unfoldable pub before_names : List Raw → List Raw
before_names [] = []
before_names (r ∷ rs) = if is_name r then [] else r ∷ before_names rs

-- and those from it on
unfoldable pub from_names : List Raw → List Raw
from_names [] = []
from_names (r ∷ rs) = if is_name r then r ∷ rs else from_names rs

-- the three parts, if each can be read
abbrev pub parts : Option (List RenderLine) → Option (List (List ℕ)) → Option (List Hanging) → Option Sheet
parts none ns vs = none
parts (some ls) none vs = none
parts (some ls) (some ns) none = none
parts (some ls) (some ns) (some vs) = some (sheet_of ls ns vs)

-- the H field's two bytes count the lines, and neither the names nor the V fields
abbrev pub counted : List ℕ → Option Sheet → Option Sheet
counted content none = none
counted [] (some t) = none
counted (h ∷ []) (some t) = none
counted (h ∷ o ∷ []) (some t) = if eqb (h * 256 + o) (length t.lines) then some t else none
counted (h ∷ o ∷ x ∷ xs) (some t) = none

-- what follows the H field: lines, then F fields, then V fields
abbrev pub read_parts : List Raw → Option Sheet
read_parts rs =
    parts (read_all read_line (before_names (before_hanging rs))) (read_all read_name (from_names (before_hanging rs)))
    (read_all read_hanging (from_hanging rs))

-- the H field first
unfoldable pub read_headed : List Raw → Option Sheet
read_headed [] = none
read_headed (broken ∷ rs) = none
read_headed (whole l content ∷ rs) = if eqb l 0x48 then counted content (read_parts rs) else none

-- a sheet, or none for refusal 1
unfoldable pub read_sheet : List ℕ → Option Sheet
read_sheet bs = read_headed (raws bs)

-- C: a width byte, then lines
abbrev pub read_cell_content : List ℕ → Option Cell
read_cell_content [] = none
read_cell_content (w ∷ ls) = map (cell w 1) (read_all read_line (raws ls))

-- K: a width byte, the row count, then lines
abbrev pub read_span_content : List ℕ → Option Cell
read_span_content [] = none
read_span_content (w ∷ []) = none
read_span_content (w ∷ n ∷ ls) = if is_span n then map (cell w n) (read_all read_line (raws ls)) else none

-- a C or a K field
unfoldable pub read_cell : Raw → Option Cell
read_cell broken = none
read_cell (whole l content) =
    if eqb l 0x43 then read_cell_content content
    else if eqb l 0x4B then read_span_content content
    else none

-- the cells of `append_columns_with_borders`, C and K together at most 16, or none for refusal 1
unfoldable pub read_cells : List ℕ → Option (List Cell)
read_cells bs = up_to16 (read_all read_cell (raws bs))

-- a C field
unfoldable pub read_plain_cell : Raw → Option Cell
read_plain_cell broken = none
read_plain_cell (whole l content) = if eqb l 0x43 then read_cell_content content else none

-- the cells of `append_vert_row`, which lays no spans: a K is out of place there
unfoldable pub read_plain_cells : List ℕ → Option (List Cell)
read_plain_cells bs = up_to16 (read_all read_plain_cell (raws bs))

-- ---- refusals 2 and 3

-- the width of a cell that hangs
abbrev pub wide_hanging : Hanging → Bool
wide_hanging v = leb 1 v.width

-- and of one that is laid
abbrev pub wide : Cell → Bool
wide c = leb 1 c.width

-- the text or the name of a hole
abbrev pub readable_hole : Hole → Bool
readable_hole h = readable_piece h.piece

-- each piece, each hole
abbrev pub readable_line : RenderLine → Bool
readable_line (text ps) = all readable_piece ps
readable_line (border a segs hs) = all readable_hole hs

-- each line
unfoldable pub readable_lines : List RenderLine → Bool
readable_lines ls = all readable_line ls

-- each line of a cell that hangs
abbrev pub readable_hanging : Hanging → Bool
readable_hanging v = readable_lines v.lines

-- each name that waits
unfoldable pub readable_names : List (List ℕ) → Bool
readable_names ns = all (readable_text false) ns

-- each line of a sheet, the names that wait and what hangs from it
abbrev pub readable_sheet : Sheet → Bool
readable_sheet t = readable_lines t.lines && readable_names t.names && all readable_hanging t.overhang

-- each line of a cell
abbrev pub readable_cell : Cell → Bool
readable_cell c = readable_lines c.lines

-- ---- writing

-- a two-byte place and an S or an F field
unfoldable pub holes_bytes : List Hole → List ℕ
holes_bytes [] = []
holes_bytes (h ∷ hs) = two h.place ++ (piece_bytes h.piece ++ holes_bytes hs)

-- the content of an L, a B or a G
abbrev pub content : RenderLine → List ℕ
content (text ps) = pieces_bytes ps
content (border a segs []) = a ∷ segs
content (border a segs (h ∷ hs)) = a ∷ (two (length segs) ++ (segs ++ holes_bytes (h ∷ hs)))

-- L, B or G
abbrev pub letter : RenderLine → ℕ
letter (text ps) = 0x4C
letter (border a segs []) = 0x42
letter (border a segs (h ∷ hs)) = 0x47

-- the lines of a sheet
unfoldable pub lines_bytes : List RenderLine → List ℕ
lines_bytes [] = []
lines_bytes (l ∷ ls) = field (letter l) (content l) ++ lines_bytes ls

-- the content of a V
abbrev pub hanging_content : Hanging → List ℕ
hanging_content v = two v.pos ++ (v.width ∷ v.rows ∷ lines_bytes v.lines)

-- the cells that hang
unfoldable pub overhang_bytes : List Hanging → List ℕ
overhang_bytes [] = []
overhang_bytes (v ∷ vs) = field 0x56 (hanging_content v) ++ overhang_bytes vs

-- the names that wait
unfoldable pub names_bytes : List (List ℕ) → List ℕ
names_bytes [] = []
names_bytes (n ∷ ns) = field 0x46 n ++ names_bytes ns

-- lines, the names that wait behind them and the cells that hang
abbrev pub body_bytes : List RenderLine → List (List ℕ) → List Hanging → List ℕ
body_bytes ls ns vs = lines_bytes ls ++ (names_bytes ns ++ overhang_bytes vs)

-- a whole sheet: the head counts the lines alone
unfoldable pub sheet_bytes : Sheet → List ℕ
sheet_bytes t = field 0x48 (two (length t.lines)) ++ body_bytes t.lines t.names t.overhang

-- ---- the head

-- the bytes begin with the head of a sheet, whose two bytes say the number of fields before the first F or V; F fields follow up to the
-- first V, and from there on all are V
pub record HeadCounts (bs : List ℕ) (t : Sheet) : Type 0 where
  pub head : take 3 bs ≡ 0x48 ∷ 0 ∷ 2 ∷ []
  pub count : get_or bs 3 0 * 256 + get_or bs 4 0 ≡ length t.lines
  pub lines : length (before_names (before_hanging (raws (drop 5 bs)))) ≡ length t.lines
  pub names : length (from_names (before_hanging (raws (drop 5 bs)))) ≡ length t.names
  pub hanging : length (from_hanging (raws (drop 5 bs))) ≡ length t.overhang
