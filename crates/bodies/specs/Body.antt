-- The lines of a cell as it is laid.
-- Assumes nothing: these are definitions.
use Rattle.std.specs.Prelude.{◌≡◌, Bool, true, false, List, [], ◌∷◌, ℕ, ◌+◌, ◌≤◌, ◌<◌, length, take, drop, Option as Maybe, None, MatchOption}
use Rattle.std.proofs.Math.Option.{Option, none, some}
use Rattle.fields.specs.Field.{all}
use Rattle.fields.specs.Spans.{Hole, RenderLine, border}
use Rattle.fields.specs.Places.{LinesIn}
use Rattle.rows.specs.Columns.{Slot, column_of}
use Rattle.places.specs.Border.{BorderIs}
use Rattle.places.specs.declared.border.Border.{Border}
use Rattle.bodies.specs.Walk.{unholed}
use Rattle.bodies.specs.declared.walk.Walked.{Walked}
use Rattle.bodies.specs.declared.body.Body.{Body}

-- all lines of a walk
pub record AllLines (bytes : List ℕ) (w : Walked) (b : Body) : Type 0 where
  pub lines_are : b.lines.now ≡ bytes
  pub no_bottom : b.bottom ≡ None
  pub count_is : b.count ≡ w.count
  pub holed_is : b.holed ≡ w.holed

-- bytes that stand in others from a place on
pub record StandsAt (bytes lines : List ℕ) (place : ℕ) : Type 0 where
  pub room : place + length lines ≤ length bytes
  pub are : lines ≡ take (length lines) (drop place bytes)

-- what holds whatever the bytes
pub record BodyIn (bytes : List ℕ) (b : Body) : Type 0 where
  pub shorter : length b.lines.now ≤ length bytes
  pub few : b.count ≤ length bytes
  pub part : (place : ℕ) × StandsAt bytes b.lines.now place

-- the segments of the last border that was taken off, if one was
abbrev pub BottomIs : Maybe Border → Option (List ℕ) → Type 0
BottomIs r o = MatchOption r (o ≡ none) (λ b. o ≡ some b.segments.now)

-- a border by itself in bytes: its annotation, its segments and its holes
pub record BorderThere (bytes : List ℕ) (r : Border) : Type 0 where
  pub annotation : ℕ
  pub segments : List ℕ
  pub holes : List Hole
  pub is : BorderIs r annotation segments holes
  pub room : 0 < length bytes
  pub line : LinesIn bytes (border annotation segments holes ∷ [])

-- the last border that was taken off is all that stands in the bytes behind the lines, or nothing does where none was
abbrev pub BottomThere : List ℕ → Maybe Border → Type 0
BottomThere behind r = MatchOption r (behind ≡ []) (λ b. BorderThere behind b)

-- the lines and where they stand, how many they are, the border that was taken off and stands behind them, and that no line has holes
pub record BodyIs (bytes : List ℕ) (b : Body) (ls : List RenderLine) (bottom : Option (List ℕ)) : Type 0 where
  pub place : ℕ
  pub part : StandsAt bytes b.lines.now place
  pub lines_in : LinesIn b.lines.now ls
  pub count_is : b.count ≡ length ls
  pub bottom_is : BottomIs b.bottom bottom
  pub bottom_there : BottomThere (drop (place + length b.lines.now) bytes) b.bottom
  pub plain : b.holed ≡ false → all unholed ls ≡ true

-- `body_of`: the column of a cell
abbrev pub FindsBody : List ℕ → Bool → Body → Type 0
FindsBody bytes collapse b = (x : Slot) → LinesIn bytes x.lines → BodyIs bytes b (column_of collapse x).lines (column_of collapse x).bottom
