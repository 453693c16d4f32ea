-- What stands in a sheet, field by field, and what the walks over it give (document 01, "What changes shape"; requests 2.1 and 2.2).
-- Each walk is a list: items, and at the first field that is none of them what is broken, which ends it. Assumes nothing: these are definitions.
use Rattle.std.specs.Prelude.{◌≡◌, List, [], ◌∷◌, ℕ, ◌+◌, ◌*◌, ltb, eqb, length, take, drop, map, if◌then◌else◌, Option, Some, None, Result, Ok, Err, MatchOption, MatchResult}
use Rattle.std.proofs.Math.Option.{some}
use Rattle.fields.specs.Field.{Raw, whole, broken, raws}
use Rattle.fields.specs.Sheet as sheet
use Rattle.fields.specs.Sheet.{str, fragment}
use Rattle.fields.specs.Spans as spans
use Rattle.fields.specs.Spans.{RawHole, punched, torn, raw_holes, read_sheet}
use Rattle.fields.specs.declared.raw.Broken.{Broken}
use Rattle.reader.specs.declared.walk.Found.{Found}
use Rattle.reader.specs.declared.walk.Walk.{Walk}
use Rattle.reader.specs.declared.piece.Piece.{Piece}
use Rattle.reader.specs.declared.piece.Piece.TheVariants as piece
use Rattle.reader.specs.declared.hole.Hole.{Hole}
use Rattle.reader.specs.declared.hole.Holes.{Holes}
use Rattle.reader.specs.declared.line.Line.{Line}
use Rattle.reader.specs.declared.line.Line.TheVariants as line
use Rattle.reader.specs.declared.line.CellLine.{CellLine}
use Rattle.reader.specs.declared.waiting.Name.{Name}
use Rattle.reader.specs.declared.hanging.Hanging.{Hanging}

-- ---- walks

-- what a letter and a content are: an item, or what is broken; none where the items are over
abbrev pub Reading : Type 0 → Type 0
Reading A = ℕ → List ℕ → Option (Result A Broken)

-- what is no item
abbrev pub not_one : {A : Type 0} → Result A Broken
not_one = Err (record {})

-- an item in front of those behind it; there are none behind what is broken, and where the items are over
abbrev pub item_then : {A : Type 0} → Option (Result A Broken) → List (Result A Broken) → List (Result A Broken)
item_then None more = []
item_then (Some (Err e)) more = Err e ∷ []
item_then (Some (Ok a)) more = Ok a ∷ more

-- what the fields of a byte list are, one after the other
unfoldable pub items : {A : Type 0} → Reading A → List Raw → List (Result A Broken)
items read [] = []
items read (broken ∷ rs) = not_one ∷ []
items read (whole l c ∷ rs) = item_then (read l c) (items read rs)

-- the bytes of a field: its letter, its length and its content
abbrev pub field_size : ℕ → List ℕ → ℕ
field_size l c = 3 + length c

-- the bytes of an item and of those behind it
abbrev pub size_then : {A : Type 0} → Option (Result A Broken) → ℕ → ℕ
size_then None n = 0
size_then (Some (Err e)) n = 0
size_then (Some (Ok a)) n = n

-- the bytes of the first item, if there is one
unfoldable pub first_size : {A : Type 0} → Reading A → List Raw → ℕ
first_size read [] = 0
first_size read (broken ∷ rs) = 0
first_size read (whole l c ∷ rs) = size_then (read l c) (field_size l c)

-- the bytes of all of them
unfoldable pub items_size : {A : Type 0} → Reading A → List Raw → ℕ
items_size read [] = 0
items_size read (broken ∷ rs) = 0
items_size read (whole l c ∷ rs) = size_then (read l c) (field_size l c + items_size read rs)

-- what an item shows of itself
abbrev pub seen : {A B : Type 0} → (A → B) → Result A Broken → Result B Broken
seen view (Ok a) = Ok (view a)
seen view (Err e) = Err e

-- the same where there may be none
abbrev pub all_seen : {A B : Type 0} → (A → B) → Option (Result A Broken) → Option (Result B Broken)
all_seen view None = None
all_seen view (Some r) = Some (seen view r)

-- the fields from a walk's place on
abbrev pub ahead : {T : Type 0} → Walk T → List Raw
ahead w = raws (drop w.at w.bytes.now)

-- what a walk still gives
abbrev pub left : {T A : Type 0} → Reading A → Walk T → List (Result A Broken)
left read w = if w.is_over then [] else items read (ahead w)

-- where a walk stands behind the next item
abbrev pub next_place : {T A : Type 0} → Reading A → Walk T → ℕ
next_place read w = if w.is_over then w.at else w.at + first_size read (ahead w)

-- where a walk stands behind all that it still gives
abbrev pub end_place : {T A : Type 0} → Reading A → Walk T → ℕ
end_place read w = if w.is_over then w.at else w.at + items_size read (ahead w)

-- the first field from a place on, with its content, and the place behind it
pub record FieldIn (s : List ℕ) (at : ℕ) (f : Found) : Type 0 where
  pub first : raws (drop at s) ≡ whole f.letter f.content.now ∷ raws (drop f.next s)
  pub place : f.next ≡ at + field_size f.letter f.content.now

-- what is found at a place
abbrev pub Finds : List ℕ → ℕ → Option (Result Found Broken) → Type 0
Finds s at r = MatchOption r (raws (drop at s) ≡ []) (λ x. MatchResult x (FieldIn s at) (λ e. raws (drop at s) ≡ broken ∷ []))

-- an item at a place, and the place where the next one stands
pub record ItemIn {A : Type 0} (read : Reading A) (s : List ℕ) (at : ℕ) (a : A) (next : ℕ) : Type 0 where
  pub first : items read (raws (drop at s)) ≡ Ok a ∷ items read (raws (drop next s))
  pub place : next ≡ at + first_size read (raws (drop at s))

-- what is read at a place
abbrev pub Reads : {T A : Type 0} → (T → A) → Reading A → List ℕ → ℕ → Option (Result (T × ℕ) Broken) → Type 0
Reads view read s at r =
    MatchOption r ((items read (raws (drop at s)) ≡ []) × (first_size read (raws (drop at s)) ≡ 0))
    (λ x. MatchResult x (λ p. ItemIn read s at (view p.0) p.1) (λ e. (items read (raws (drop at s)) ≡ not_one ∷ []) × (first_size read (raws (drop at s)) ≡ 0)))

-- ---- pieces

-- a text or a name
abbrev pub piece_seen : Piece → sheet.Piece
piece_seen (piece.Text a t) = str a t.now
piece_seen (piece.Name n) = fragment n.now

-- S has an annotation and at least one byte of text
abbrev pub read_text : List ℕ → Result sheet.Piece Broken
read_text [] = not_one
read_text (a ∷ []) = not_one
read_text (a ∷ b ∷ t) = Ok (str a (b ∷ t))

-- a field as a piece: a text or a name
abbrev pub piece_of : ℕ → List ℕ → Result sheet.Piece Broken
piece_of l c =
    if eqb l 0x46 then Ok (fragment c)
    else if eqb l 0x53 then read_text c
    else not_one

-- the same for a walk: a line's pieces go on to its end
abbrev pub read_piece : Reading sheet.Piece
read_piece l c = Some (piece_of l c)

-- the text of a piece; a name has none
abbrev pub text_of : sheet.Piece → Option (List ℕ)
text_of (str a t) = Some t
text_of (fragment n) = None

-- the name of a piece; a text has none
abbrev pub name_of : sheet.Piece → Option (List ℕ)
name_of (str a t) = None
name_of (fragment n) = Some n

-- ---- holes

-- a column and a piece
abbrev pub hole_seen : Hole → spans.Hole
hole_seen h = spans.hole h.column (piece_seen h.piece)

-- a column and the piece that stands there
abbrev pub hole_of : ℕ → Raw → Result spans.Hole Broken
hole_of column broken = not_one
hole_of column (whole l c) = seen (spans.hole column) (piece_of l c)

-- the holes of a border, one after the other
unfoldable pub holes : List RawHole → List (Result spans.Hole Broken)
holes [] = []
holes (torn ∷ rs) = not_one ∷ []
holes (punched column r ∷ rs) = item_then (Some (hole_of column r)) (holes rs)

-- the bytes of the first hole, if there is one: a column and a field
unfoldable pub first_hole_size : List RawHole → ℕ
first_hole_size [] = 0
first_hole_size (torn ∷ rs) = 0
first_hole_size (punched column broken ∷ rs) = 0
first_hole_size (punched column (whole l c) ∷ rs) = size_then (Some (hole_of column (whole l c))) (2 + field_size l c)

-- the holes from a walk's place on
abbrev pub holes_ahead : Holes → List RawHole
holes_ahead w = raw_holes (drop w.at w.bytes.now)

-- what a walk over holes still gives
abbrev pub holes_left : Holes → List (Result spans.Hole Broken)
holes_left w = if w.is_over then [] else holes (holes_ahead w)

-- where a walk over holes stands behind the next one
abbrev pub next_hole_place : Holes → ℕ
next_hole_place w = if w.is_over then w.at else w.at + first_hole_size (holes_ahead w)

-- what is read at a place of a border: a hole, and the place where the next one stands
abbrev pub ReadsHole : List ℕ → ℕ → Result (Hole × ℕ) Broken → Type 0
ReadsHole s at r =
    MatchResult r
    (λ p. (holes (raw_holes (drop at s)) ≡ Ok (hole_seen p.0) ∷ holes (raw_holes (drop p.1 s))) × (p.1 ≡ at + first_hole_size (raw_holes (drop at s))))
    (λ e. holes (raw_holes (drop at s)) ≡ not_one ∷ [])

-- ---- lines

-- a line with what walks over it give: pieces, or a border's annotation, segments and holes
pub data SeenLine : Type 0 where
  text : List (Result sheet.Piece Broken) → SeenLine
  border : ℕ → List ℕ → List (Result spans.Hole Broken) → SeenLine

-- what a line gives
abbrev pub line_seen : Line → SeenLine
line_seen (line.Text pieces) = text (left read_piece pieces)
line_seen (line.Border a segments hs) = border a segments.now (holes_left hs)

-- B: an annotation, then segments; there are no holes
abbrev pub plain_border : List ℕ → Result SeenLine Broken
plain_border [] = not_one
plain_border (a ∷ segments) = Ok (border a segments [])

-- G: an annotation, the number of segments in two bytes, the segments, then the holes, of which there are some
abbrev pub holed_border : List ℕ → Result SeenLine Broken
holed_border [] = not_one
holed_border (a ∷ []) = not_one
holed_border (a ∷ h ∷ []) = not_one
holed_border (a ∷ h ∷ o ∷ rest) =
    if ltb (h * 256 + o) (length rest)
    then Ok (border a (take (h * 256 + o) rest) (holes (raw_holes (drop (h * 256 + o) rest))))
    else not_one

-- a field as a line: a text with its pieces, or a border; at an F or a V the lines are over
abbrev pub read_line : Reading SeenLine
read_line l c =
    if eqb l 0x4C then Some (Ok (text (items read_piece (raws c))))
    else if eqb l 0x42 then Some (plain_border c)
    else if eqb l 0x47 then Some (holed_border c)
    else if eqb l 0x46 then None
    else if eqb l 0x56 then None
    else Some not_one

-- a hanging cell's line
abbrev pub cell_line_seen : CellLine → SeenLine
cell_line_seen l = line_seen l.0

-- a line as it stands in a hanging cell, on which no names wait
abbrev pub in_cell : Option (Result SeenLine Broken) → Result SeenLine Broken
in_cell None = not_one
in_cell (Some r) = r

-- a field as a line of a hanging cell; at a V the lines are over
abbrev pub read_cell_line : Reading SeenLine
read_cell_line l c = if eqb l 0x56 then None else Some (in_cell (read_line l c))

-- ---- names that wait

-- a name's bytes
abbrev pub name_seen : Name → List ℕ
name_seen n = n.0.now

-- a field as a name that waits; at a V the names are over
abbrev pub read_name : Reading (List ℕ)
read_name l c =
    if eqb l 0x46 then Some (Ok c)
    else if eqb l 0x56 then None
    else Some not_one

-- ---- hanging cells

-- a hanging cell with what a walk over its lines gives
pub record SeenHanging : Type 0 where
  pub position : ℕ
  pub width : ℕ
  pub rows : ℕ
  pub lines : List (Result SeenLine Broken)

-- what a hanging cell gives
abbrev pub hanging_seen : Hanging → SeenHanging
hanging_seen h = record { position = h.position; width = h.width; rows = h.rows; lines = left read_cell_line h.lines }

-- V: a position in two bytes, a width, the rows left, then lines
abbrev pub hanging_of : List ℕ → Result SeenHanging Broken
hanging_of [] = not_one
hanging_of (p ∷ []) = not_one
hanging_of (p ∷ q ∷ []) = not_one
hanging_of (p ∷ q ∷ w ∷ []) = not_one
hanging_of (p ∷ q ∷ w ∷ r ∷ ls) = Ok (record { position = p * 256 + q; width = w; rows = r; lines = items read_cell_line (raws ls) })

-- a field as a hanging cell; they go on to the end of the sheet
abbrev pub read_hanging : Reading SeenHanging
read_hanging l c = Some (if eqb l 0x56 then hanging_of c else not_one)

-- ---- the sheet

-- the fields of a sheet behind its head's five bytes
abbrev pub from_lines : List ℕ → List Raw
from_lines s = raws (drop 5 s)

-- the place behind all lines of a sheet, where the names that wait begin
unfoldable pub lines_end : List ℕ → ℕ
lines_end s = 5 + items_size read_line (from_lines s)

-- the place behind all its lines and names, where the hanging cells begin
unfoldable pub names_end : List ℕ → ℕ
names_end s = lines_end s + items_size read_name (raws (drop (lines_end s) s))

-- all that the walks over a sheet give: its lines, the names that wait on it, and the cells that hang from it
pub record Walked : Type 0 where
  pub lines : List (Result SeenLine Broken)
  pub names : List (Result (List ℕ) Broken)
  pub overhang : List (Result SeenHanging Broken)

unfoldable pub walked : List ℕ → Walked
walked s =
    record {
      lines = items read_line (from_lines s);
      names = items read_name (raws (drop (lines_end s) s));
      overhang = items read_hanging (raws (drop (names_end s) s));
    }

-- a line of which nothing is broken
abbrev pub whole_line : spans.RenderLine → SeenLine
whole_line (spans.text ps) = text (map Ok ps)
whole_line (spans.border a segments hs) = border a segments (map Ok hs)

-- a hanging cell of which nothing is broken
abbrev pub whole_hanging : spans.Hanging → SeenHanging
whole_hanging h = record { position = h.pos; width = h.width; rows = h.rows; lines = map (λ l. Ok (whole_line l)) h.lines }

-- a sheet of which nothing is broken
abbrev pub whole_sheet : spans.Sheet → Walked
whole_sheet t =
    record {
      lines = map (λ l. Ok (whole_line l)) t.lines;
      names = map Ok t.names;
      overhang = map (λ h. Ok (whole_hanging h)) t.overhang;
    }

-- the walks over a sheet that passes refusal 1 give its lines, pieces, holes, waiting names and hanging cells, in order, and nothing that is broken
-- (proved as `walks_back` in proofs/Walked.antt)
abbrev pub WalksBack : Type 0
WalksBack = (s : List ℕ) (t : spans.Sheet) → read_sheet s ≡ some t → walked s ≡ whole_sheet t
