-- The lines of a cell that hangs on, filled to its width, as they stand in a store.
-- Assumes nothing: these are definitions.
use Rattle.std.specs.Prelude.{◌≡◌, true, List, map, ℕ, ◌+◌, ◌*◌, ◌≤◌, length}
use Rattle.std.proofs.Math.Option.{some}
use Rattle.std.proofs.lemmas.List.Edits.{sets}
use Rattle.fields.specs.Field.{all}
use Rattle.fields.specs.List.{whole_of}
use Rattle.fields.specs.declared.raw.Field.{Field}
use Rattle.fields.specs.Sheet.{Piece, readable_piece}
use Rattle.borders.specs.BorderHoriz.{stretch_to}
use Rattle.fields.specs.TaggedLine.{pad_to}
use Rattle.rows.specs.declared.RenderOptions.{RenderOptions}
use Rattle.fields.specs.Spans.{Hole, RenderLine, text, border, read_line, readable_line, lines_bytes, readable_lines}
use Rattle.rows.specs.SubRenderer.{filled}
use Rattle.fields.specs.Places.{LinesIn}
use Rattle.tagged_line.specs.Pieces.{PiecesOf}
use Rattle.overhang.specs.Border.{LineStands}

-- numbers of a line that is put, whatever the bytes: its content had n bytes, and it is filled to a width
pub record LineIn (at n to r : ℕ) : Type 0 where
  pub on : at ≤ r
  pub most : r ≤ at + 7 + 3 * n + 2 * to

-- `put_text`
abbrev pub PutsText : List ℕ → ℕ → RenderOptions → List ℕ → ℕ → List ℕ → ℕ → Type 0
PutsText out at s bytes to out' r =
    (ps : List Piece) → PiecesOf bytes ps → all readable_piece ps ≡ true → LineStands out at (text (pad_to ps to s.annotation)) out' r

-- `put_stretched`
abbrev pub PutsStretched : List ℕ → ℕ → Field → ℕ → List ℕ → ℕ → Type 0
PutsStretched out at line to out' r =
    (a : ℕ) (segs : List ℕ) (hs : List Hole) → read_line (whole_of line) ≡ some (border a segs hs)
    → LineStands out at (border a (stretch_to segs to) hs) out' r

-- `put_filled`
abbrev pub PutsFilled : List ℕ → ℕ → RenderOptions → Field → ℕ → List ℕ → ℕ → Type 0
PutsFilled out at s line to out' r =
    (l : RenderLine) → read_line (whole_of line) ≡ some l → readable_line l ≡ true → LineStands out at (filled s to l) out' r

-- lines stand in the store from a place on, unless they are more than 65,535 bytes; the place after them is right in any case
pub record LinesStand (out : List ℕ) (at : ℕ) (ls : List RenderLine) (out' : List ℕ) (r : ℕ) : Type 0 where
  pub place : r ≡ at + length (lines_bytes ls)
  pub store : length (lines_bytes ls) ≤ 65535 → out' ≡ sets out at (lines_bytes ls)

-- `put_lines`
abbrev pub PutsLines : List ℕ → ℕ → RenderOptions → List ℕ → ℕ → List ℕ → ℕ → Type 0
PutsLines out at s bytes to out' r = (ls : List RenderLine) → LinesIn bytes ls → readable_lines ls ≡ true → LinesStand out at (map (filled s to) ls) out' r
