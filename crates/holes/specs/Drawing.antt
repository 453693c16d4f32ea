-- What drawing a border with holes does to the line that it is drawn on.
-- Assumes nothing: these are definitions.
use Rattle.std.specs.Prelude.{◌≡◌, true, false, List, map, ℕ, ◌+◌, ◌-◌, ◌*◌, ◌≤◌, length}
use Rattle.std.proofs.Math.Option.{some}
use Rattle.fields.specs.Field.{Raw, part, all}
use Rattle.fields.specs.Sheet.{Piece, str, read_piece, readable_piece}
use Rattle.borders.specs.BorderHoriz.{stretch_to, to_string, as_str, into_tagged_from}
use Rattle.fields.specs.TaggedLine.{push_str, push}
use Rattle.fields.specs.Spans.{Hole, hole, ends_within, readable_hole}
use Rattle.rows.specs.Columns.{overlaps, holed_text}
use Rattle.fields.specs.Places.{HolesIn}
use Rattle.places.specs.Border.{BorderIs}
use Rattle.places.specs.declared.border.Border.{Border}
use Rattle.tagged_line.specs.Held.{Held}
use Rattle.tagged_line.specs.declared.line.Line.{Line}
use Rattle.holes.specs.declared.draw.Shown.{Shown}
use Rattle.holes.specs.declared.draw.Shown.TheVariants.{AsText, AsItStands}

-- the most bytes and the most columns that a border of n bytes of segments and holes, stretched to a width, adds to a line
abbrev pub drawn_most : ℕ → ℕ → ℕ
drawn_most n to = 16 + 28 * (n + to)

-- the segments from one column up to another, of the border stretched to any width that reaches that far
abbrev pub DrawsPart : List ℕ → Line → ℕ → List ℕ → ℕ → ℕ → List ℕ → Line → Type 0
DrawsPart out p a segs from to out' r =
    (w : ℕ) → to - from ≤ length (stretch_to segs w) - from → (st : List ℕ) (l : List Piece) → Held st l out p
    → Held st (push_str l a (to_string (part from to (stretch_to segs w)))) out' r

-- the text of a field, of a name nothing
abbrev pub PushesText : List ℕ → Line → ℕ → Raw → List ℕ → Line → Type 0
PushesText out p a field out' r =
    (q : Piece) → read_piece field ≡ some q → readable_piece q ≡ true
    → (st : List ℕ) (l : List Piece) → Held st l out p → Held st (push_str l a (as_str q)) out' r

-- a hole's piece as it stands, or its text under one annotation
abbrev pub shown_piece : Shown → ℕ → Piece → Piece
shown_piece AsItStands a q = q
shown_piece AsText a q = str a (as_str q)

-- the same of a hole
abbrev pub shown_hole : Shown → ℕ → Hole → Hole
shown_hole shown a h = hole h.place (shown_piece shown a h.piece)

-- a hole's field
abbrev pub PushesPiece : List ℕ → Line → ℕ → Raw → Shown → List ℕ → Line → Type 0
PushesPiece out p a field shown out' r =
    (q : Piece) → read_piece field ≡ some q → readable_piece q ≡ true
    → (st : List ℕ) (l : List Piece) → Held st l out p → Held st (push l (shown_piece shown a q)) out' r

-- bytes that are holes, each within n segments, whose texts and names passed refusal 3
pub record Fits (n : ℕ) (bytes : List ℕ) (hs : List Hole) : Type 0 where
  pub reads : HolesIn bytes hs
  pub within : all (ends_within n) hs ≡ true
  pub readable : all readable_hole hs ≡ true

-- the walk over all holes
abbrev pub DrawsHoles : List ℕ → Line → ℕ → Border → ℕ → Shown → List ℕ → Line → Type 0
DrawsHoles out p a border to shown out' r =
    (hs : List Hole) → Fits (length border.segments.now) border.holes.now hs → (st : List ℕ) (l : List Piece) → Held st l out p
    → Held st (into_tagged_from a (stretch_to border.segments.now to) l 0 (map (shown_hole shown a) hs)) out' r

-- `push_holed`
abbrev pub PushesHoled : List ℕ → Line → ℕ → Border → ℕ → List ℕ → Line → Type 0
PushesHoled out p annotation border to out' r =
    (a : ℕ) (ss : List ℕ) (hs : List Hole) → BorderIs border a ss hs → all readable_hole hs ≡ true → overlaps (stretch_to ss to) 0 hs ≡ false
    → (st : List ℕ) (l : List Piece) → Held st l out p → Held st (push_str l annotation (holed_text (stretch_to ss to) 0 hs)) out' r

-- `push_tagged`
abbrev pub PushesTagged : List ℕ → Line → Border → ℕ → List ℕ → Line → Type 0
PushesTagged out p border to out' r =
    (a : ℕ) (ss : List ℕ) (hs : List Hole) → BorderIs border a ss hs → all readable_hole hs ≡ true
    → (st : List ℕ) (l : List Piece) → Held st l out p → Held st (into_tagged_from a (stretch_to ss to) l 0 hs) out' r
