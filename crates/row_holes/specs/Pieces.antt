-- The pieces of a line as cuts in a border and as holes.
-- Assumes nothing: these are definitions.
use Rattle.std.specs.Prelude.{◌≡◌, Bool, true, List, ◌++◌, ℕ, ◌+◌, ◌%◌, ◌≤◌, leb, length, replicate}
use Rattle.std.proofs.lemmas.List.Edits.{sets}
use Rattle.fields.specs.Field.{two, head, all}
use Rattle.fields.specs.Sheet.{Piece}
use Rattle.fields.proofs.Back.{Every}
use Rattle.fields.specs.TaggedLine.{WellFormedPiece, pad_to}
use Rattle.fields.specs.Spans.{Hole, holes_bytes}
use Rattle.rows.specs.Columns.{punch, cut_all}
use Rattle.tagged_line.specs.Pieces.{PiecesOf}
use Rattle.long_borders.specs.Keeps.{Near, Keeps}
use Rattle.long_borders.specs.declared.border.BorderHoriz.{BorderHoriz}
use Rattle.row_holes.specs.declared.filled.Part.{Part}

-- what `put_hole` writes
abbrev pub part_hole : ℕ → Part → List ℕ
part_hole x p =
    two (x % 65536) ++ (head p.field.letter ((length p.field.content.now + p.spaces) % 65536) ++ (p.field.content.now ++ replicate p.spaces 0x20))

-- ---- holes in a store

-- a place that two bytes hold
abbrev pub placed : Hole → Bool
placed h = leb h.place 65535

-- the place behind the holes; and their bytes, where a field holds them
pub record HolesPut (out : List ℕ) (place : ℕ) (hs : List Hole) (out' : List ℕ) (r : ℕ) : Type 0 where
  pub size : r ≡ place + length (holes_bytes hs)
  pub bytes : length (holes_bytes hs) ≤ 65535 → all placed hs ≡ true → out' ≡ sets out place (holes_bytes hs)

-- ---- all pieces of a content, filled to a width

-- `put_pieces`
abbrev pub PutsPieces : List ℕ → ℕ → List ℕ → ℕ → ℕ → ℕ → List ℕ → ℕ → Type 0
PutsPieces out place s to a pos out' r =
    (ps : List Piece) → PiecesOf s ps → Every WellFormedPiece ps → (pos₀ : ℕ) → Near pos pos₀ → HolesPut out place (punch pos₀ (pad_to ps to a)) out' r

-- `cut_pieces`
abbrev pub CutsPieces : BorderHoriz → List ℕ → ℕ → ℕ → ℕ → BorderHoriz → Type 0
CutsPieces b s to a pos b' =
    (ps : List Piece) → PiecesOf s ps → Every WellFormedPiece ps → (pos₀ : ℕ) → Near pos pos₀
    → (border : List ℕ) → Keeps b border → Keeps b' (cut_all border (punch pos₀ (pad_to ps to a)))
