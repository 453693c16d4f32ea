-- What a sheet can hold and what passes refusals 2 and 3: texts, pieces, lines, cells that hang, sheets and cells.
-- Assumes nothing: these are definitions.
use Rattle.std.specs.Prelude.{◌≡◌, ℕ, ◌+◌, ◌≤◌, true, false, List, length}
use Rattle.fields.specs.Text.{readable_text}
use Rattle.fields.specs.Sheet.{Piece, str, fragment}
use Rattle.fields.specs.Widths.{piece_width}
use Rattle.fields.specs.Spans.{Hole, RenderLine, text, border, Hanging, Sheet, Cell}
use Rattle.fields.proofs.Back.{Every}

-- a text, a name or a prefix
abbrev pub Fine : List ℕ → Type 0
Fine t = readable_text false t ≡ true

-- a piece that has text, and its text or its name passes
abbrev pub FinePiece : Piece → Type 0
FinePiece (str a t) = (1 ≤ length t) × Fine t
FinePiece (fragment n) = Fine n

-- the pieces of a line
abbrev pub FinePieces : List Piece → Type 0
FinePieces l = Every FinePiece l

-- the segments of a border
abbrev pub Segs : List ℕ → Type 0
Segs b = Every (λ (s : ℕ). s ≤ 11) b

-- a hole whose piece passes and that ends within n segments
abbrev pub FineHole : ℕ → Hole → Type 0
FineHole n h = FinePiece h.piece × (h.place + piece_width h.piece ≤ n)

-- a line
abbrev pub FineLine : RenderLine → Type 0
FineLine (text ps) = FinePieces ps
FineLine (border a segs hs) = Segs segs × Every (FineHole (length segs)) hs

-- lines
abbrev pub FineLines : List RenderLine → Type 0
FineLines ls = Every FineLine ls

-- a cell that hangs
pub record FineHanging (v : Hanging) : Type 0 where
  pub lines : FineLines v.lines
  pub some_left : 1 ≤ v.rows
  pub few_left : v.rows ≤ 16
  pub wide : 1 ≤ v.width

-- a sheet
pub record FineSheet (t : Sheet) : Type 0 where
  pub lines : FineLines t.lines
  pub names : Every Fine t.names
  pub overhang : Every FineHanging t.overhang

-- a cell
pub record FineCell (c : Cell) : Type 0 where
  pub lines : FineLines c.lines
  pub few : c.span ≤ 16
  pub wide : 1 ≤ c.width
