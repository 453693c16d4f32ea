-- A border in a lent buffer of at most 65,536 bytes that may be too short for it, and running positions that stop growing at a cap.
-- Assumes nothing: these are definitions.
use Rattle.std.specs.Prelude.{◌≡◌, ◌⊎◌, List, ℕ, ◌+◌, ◌≤◌, ◌<◌, length, take}
use Rattle.borders.specs.declared.border.Side.{Side}
use Rattle.borders.specs.declared.segment.BorderSegHoriz.{BorderSegHoriz}
use Rattle.borders.specs.BorderSegHoriz.{number}
use Rattle.borders.specs.BorderHoriz.{new_type, stretch_to, change, join_on, merge_from, chop_before, cut_for}
use Rattle.long_borders.specs.declared.border.BorderHoriz.{BorderHoriz}

-- two positions are equal, or both lie past every border that fits a field
abbrev pub Near : ℕ → ℕ → Type 0
Near a b = (a ≡ b) ⊎ ((131072 ≤ a) × (131072 ≤ b))

-- the border has so many segments, up to `Near`, and the buffer has them, or as many of them as it has room for
pub record Keeps (b : BorderHoriz) (border : List ℕ) : Type 0 where
  pub room : length b.buffer.now ≤ 65536
  pub size : Near b.len (length border)
  pub kept : take (length b.buffer.now) border ≡ take b.len b.buffer.now

-- `new`
abbrev pub Fills : ℕ → ℕ → BorderHoriz → Type 0
Fills w segment b = length b.buffer.now ≤ 65536 → Keeps b (new_type w segment)

-- `from_segments`
abbrev pub Copies : List ℕ → BorderHoriz → Type 0
Copies segs b = length b.buffer.now ≤ 65536 → Keeps b segs

-- `stretch_to`
abbrev pub Stretches : BorderHoriz → ℕ → BorderHoriz → Type 0
Stretches b w b' = (border : List ℕ) (w₀ : ℕ) → Keeps b border → Near w w₀ → Keeps b' (stretch_to border w₀)

-- two positions are equal, or both lie past the buffer
abbrev pub NearIn : List ℕ → ℕ → ℕ → Type 0
NearIn buffer x x₀ = (x ≡ x₀) ⊎ ((length buffer ≤ x) × (length buffer ≤ x₀))

-- the segment at a place changed
abbrev pub Changes : (ℕ → ℕ) → BorderHoriz → ℕ → BorderHoriz → Type 0
Changes f b x b' = (border : List ℕ) (x₀ : ℕ) → Keeps b border → NearIn b.buffer.now x x₀ → Keeps b' (change f border x₀)

-- what a match makes of the segments is f of their numbers, and f leaves a byte that is no segment
pub record Means (matched : BorderSegHoriz → BorderSegHoriz → Type 0) (f : ℕ → ℕ) : Type 0 where
  pub segments : (s r : BorderSegHoriz) → matched s r → number r ≡ f (number s)
  pub others : (byte : ℕ) → 11 < byte → byte < 256 → f byte ≡ byte

-- the segment at a place changed by a match
abbrev pub ChangesBy : (BorderSegHoriz → BorderSegHoriz → Type 0) → BorderHoriz → ℕ → BorderHoriz → Type 0
ChangesBy matched b x b' = (f : ℕ → ℕ) → Means matched f → Changes f b x b'

-- `chop_right` before a place
abbrev pub ChopsBefore : BorderHoriz → ℕ → BorderHoriz → Type 0
ChopsBefore b pos b' = (border : List ℕ) (pos₀ : ℕ) → Keeps b border → Near pos pos₀ → Keeps b' (chop_before border pos₀)

-- the cuts beside a hole
abbrev pub Cuts : BorderHoriz → ℕ → ℕ → BorderHoriz → Type 0
Cuts b pos rpos b' =
    (border : List ℕ) (pos₀ rpos₀ : ℕ) → Keeps b border → Near pos pos₀ → Near rpos rpos₀ → Keeps b' (cut_for border pos₀ rpos₀)

-- `join_above`, `join_below`
abbrev pub JoinsOn : Side → BorderHoriz → ℕ → BorderHoriz → Type 0
JoinsOn side b x b' = (border : List ℕ) (x₀ : ℕ) → Keeps b border → Near x x₀ → Keeps b' (join_on side border x₀)

-- `merge_from_above`, `merge_from_below`
abbrev pub MergesFrom : Side → BorderHoriz → List ℕ → ℕ → BorderHoriz → Type 0
MergesFrom side b other pos b' = (border : List ℕ) (pos₀ : ℕ) → Keeps b border → Near pos pos₀ → Keeps b' (merge_from side border other pos₀)

-- a position moved on by d columns
abbrev pub Advances : ℕ → ℕ → ℕ → Type 0
Advances x d r = (x₀ : ℕ) → Near x x₀ → Near r (x₀ + d)
