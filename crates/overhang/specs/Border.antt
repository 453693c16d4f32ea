-- A border's field in a store.
-- Assumes nothing: these are definitions.
use Rattle.std.specs.Prelude.{◌≡◌, true, List, [], ◌∷◌, ◌++◌, ℕ, ◌+◌, ◌%◌, eqb, length, replicate, if◌then◌else◌}
use Rattle.std.proofs.lemmas.List.Edits.{sets}
use Rattle.fields.specs.Field.{two, head, field}
use Rattle.fields.specs.Spans.{Hole, RenderLine, border, content, letter}
use Rattle.fields.specs.Places.{HolesIn}
use Rattle.borders.specs.BorderSegHoriz.{Horiz}
use Rattle.rows.specs.Answer.{fits}

-- a line stands in the store from a place on, unless it is too long; the place after it is right in any case
pub record LineStands (out : List ℕ) (at : ℕ) (l : RenderLine) (out' : List ℕ) (r : ℕ) : Type 0 where
  pub place : r ≡ at + length (field (letter l) (content l))
  pub store : fits l ≡ true → out' ≡ sets out at (field (letter l) (content l))

-- the bytes of a border before its segments: of a G their count is among them
abbrev pub front_bytes : ℕ → ℕ → ℕ → List ℕ
front_bytes a count holes =
    if eqb holes 0 then head 0x42 ((1 + count) % 65536) ++ (a ∷ []) else head 0x47 ((3 + count + holes) % 65536) ++ (a ∷ two (count % 65536))

-- `put_border`
abbrev pub PutsBorder : List ℕ → ℕ → ℕ → List ℕ → ℕ → List ℕ → List ℕ → ℕ → Type 0
PutsBorder out at a segs more holes out' r = (hs : List Hole) → HolesIn holes hs → LineStands out at (border a (segs ++ replicate more Horiz) hs) out' r
