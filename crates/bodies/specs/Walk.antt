-- What walks over lines find.
-- Assumes nothing: these are definitions.
use Rattle.std.specs.Prelude.{◌≡◌, Bool, true, false, List, [], ◌∷◌, ◌++◌, ℕ, ◌+◌, ◌≤◌, ltb, length, take, drop, IfSome, MatchOption}
use Rattle.std.proofs.Math.Option.{some}
use Rattle.fields.specs.Field.{raws, all}
use Rattle.fields.specs.List.{whole_of}
use Rattle.fields.specs.declared.raw.Field.{Field}
use Rattle.fields.specs.Spans.{RenderLine, text, border, read_line}
use Rattle.fields.specs.Places.{LinesIn}
use Rattle.rows.specs.SubRenderer.{starts_border, without_top}
use Rattle.bodies.specs.declared.walk.Walked.{Walked}

-- ---- a first border

-- `without_top`
abbrev pub PassesTop : List ℕ → List ℕ → Type 0
PassesTop bytes r = (ls : List RenderLine) → LinesIn bytes ls → LinesIn r (without_top ls)

-- `without_top`: bytes are passed exactly where a border stands first
abbrev pub PassesOnlyTop : List ℕ → List ℕ → Type 0
PassesOnlyTop bytes r = (ls : List RenderLine) → LinesIn bytes ls → starts_border ls ≡ ltb (length r) (length bytes)

-- `starts_border`
abbrev pub TellsTop : List ℕ → Bool → Type 0
TellsTop bytes r = (ls : List RenderLine) → LinesIn bytes ls → r ≡ starts_border ls

-- ---- the last line

-- a line without holes
abbrev pub unholed : RenderLine → Bool
unholed (text ps) = true
unholed (border a segs []) = true
unholed (border a segs (h ∷ hs)) = false

-- lines end in the line that a field is, behind those in some bytes
pub record LastIs (f : Field) (bytes : List ℕ) (ls : List RenderLine) : Type 0 where
  pub before : List RenderLine
  pub line : RenderLine
  pub are : ls ≡ before ++ (line ∷ [])
  pub before_in : LinesIn bytes before
  pub line_is : read_line (whole_of f) ≡ some line

-- `walk_lines`, whatever the bytes: those before a last line are the first ones, and behind them stands its field alone; without one they are all
pub record WalkedIn (bytes : List ℕ) (w : Walked) : Type 0 where
  pub few : w.count ≤ length bytes
  pub shorter : length w.before.now ≤ length bytes
  pub there : IfSome w.last (λ f. 1 ≤ w.count)
  pub front : w.before.now ≡ take (length w.before.now) bytes
  pub near : length bytes ≤ length w.before.now + 65538
  pub inside : IfSome w.last (λ f. length w.before.now + 3 ≤ length bytes)
  pub behind : MatchOption w.last (w.before.now ≡ bytes) (λ f. raws (drop (length w.before.now) bytes) ≡ whole_of f ∷ [])

-- the last of some lines, those before it, how many they are, and that none has holes
pub record WalkIs (w : Walked) (ls : List RenderLine) : Type 0 where
  pub last_is : MatchOption w.last (ls ≡ []) (λ f. LastIs f w.before.now ls)
  pub count_is : w.count ≡ length ls
  pub plain : w.holed ≡ false → all unholed ls ≡ true

-- `walk_lines`
abbrev pub Walks : List ℕ → Walked → Type 0
Walks bytes w = (ls : List RenderLine) → LinesIn bytes ls → WalkIs w ls

-- ---- the lines from a number on

-- `skip_lines`
abbrev pub Skips : List ℕ → ℕ → List ℕ → Type 0
Skips bytes n r = (ls : List RenderLine) → LinesIn bytes ls → LinesIn r (drop n ls)
