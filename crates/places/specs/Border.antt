-- What a border's field is read as.
-- Assumes nothing: these are definitions.
use Rattle.std.specs.Prelude.{◌≡◌, true, List, [], ◌++◌, ℕ, ◌+◌, length}
use Rattle.std.proofs.Math.Option.{some}
use Rattle.fields.specs.Field.{whole, all}
use Rattle.fields.specs.Spans.{Hole, border, ends_within, read_line}
use Rattle.fields.specs.Places.{HolesIn}
use Rattle.places.specs.declared.border.Border.{Border}
use Rattle.places.specs.declared.border.Parts.{Parts}

-- an annotation, segments, and holes, each within the segments
pub record BorderIs (r : Border) (a : ℕ) (ss : List ℕ) (hs : List Hole) : Type 0 where
  pub annotation : r.annotation ≡ a
  pub segments : r.segments.now ≡ ss
  pub punched : HolesIn r.holes.now hs
  pub within : all (ends_within (length ss)) hs ≡ true

-- how many bytes its segments and its holes take
abbrev pub size : Border → ℕ
size r = length r.segments.now + length r.holes.now

-- `Border::of`: the border that a field of a letter and a content is
abbrev pub ReadsBorder : ℕ → List ℕ → Border → Type 0
ReadsBorder letter content r =
    (a : ℕ) (ss : List ℕ) (hs : List Hole) → read_line (whole letter content) ≡ some (border a ss hs) → BorderIs r a ss hs

-- ---- the parts of any content

-- no segments and no holes: `none`
abbrev pub no_parts : Parts → Type 0
no_parts r = (r.segments.now ≡ []) × (r.holes.now ≡ [])

-- what holds whatever the bytes: the segments stand behind a front, and the holes behind them up to the end
pub record PartsIn (s : List ℕ) (r : Parts) : Type 0 where
  pub front : List ℕ
  pub are : s ≡ front ++ (r.segments.now ++ r.holes.now)

-- an annotation, segments, and holes, each within the segments
pub record PartsAre (r : Parts) (a : ℕ) (ss : List ℕ) (hs : List Hole) : Type 0 where
  pub annotation : r.annotation ≡ a
  pub segments : r.segments.now ≡ ss
  pub punched : HolesIn r.holes.now hs
  pub within : all (ends_within (length ss)) hs ≡ true

-- `Parts::of`: the parts of the border that a letter and a content are, however long the content
abbrev pub FindsParts : ℕ → List ℕ → Parts → Type 0
FindsParts letter content r =
    (a : ℕ) (ss : List ℕ) (hs : List Hole) → read_line (whole letter content) ≡ some (border a ss hs) → PartsAre r a ss hs
