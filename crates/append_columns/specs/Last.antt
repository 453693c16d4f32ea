-- The last line of some, apart if it is a border.
-- Assumes nothing: these are definitions.
use Rattle.std.specs.Prelude.{◌≡◌, Bool, true, false, List, [], ◌∷◌, ◌++◌, ℕ, Option, Some, None}
use Rattle.std.proofs.Common.{Bor}
use Rattle.fields.specs.Spans.{Hole, RenderLine, border}
use Rattle.fields.specs.Places.{LinesIn}
use Rattle.rows.specs.SubRenderer.{ends_in_border}
use Rattle.places.specs.declared.border.Border.{Border}
use Rattle.places.specs.Border.{BorderIs}

-- lines end in a border, behind those in some bytes
pub record LastBorder (b : Border) (bytes : List ℕ) (ls : List RenderLine) : Type 0 where
  pub before : List RenderLine
  pub annotation : ℕ
  pub segments : List ℕ
  pub holes : List Hole
  pub are : ls ≡ before ++ (border annotation segments holes ∷ [])
  pub before_in : LinesIn bytes before
  pub border_is : BorderIs b annotation segments holes

-- some lines: all are in some bytes, and none of them is a last border; or those before it are
abbrev pub OldLines : Option Border → List ℕ → List RenderLine → Type 0
OldLines None bytes ls = LinesIn bytes ls × (ends_in_border ls ≡ false)
OldLines (Some b) bytes ls = LastBorder b bytes ls

-- there is a last border
abbrev pub there : Option Border → Bool
there None = false
there (Some b) = true

-- `split_last`
abbrev pub SplitsLast : List ℕ → Bor (List ℕ) × Option Border → Type 0
SplitsLast bytes r = (ls : List RenderLine) → LinesIn bytes ls → OldLines r.1 r.0.now ls
