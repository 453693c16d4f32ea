-- A line that is being written into a store, and what each push does to it.
-- Assumes nothing: these are definitions.
use Rattle.std.specs.Prelude.{◌≡◌, List, [], ◌∷◌, ◌++◌, ℕ, ◌+◌, ◌-◌, ◌^◌, ◌≤◌, ◌<◌, length}
use Rattle.std.proofs.lemmas.List.Edits.{sets}
use Rattle.fields.specs.Sheet.{Piece, str, pieces_bytes}
use Rattle.fields.specs.Widths.{text_width, width}
use Rattle.fields.proofs.Back.{Every}
use Rattle.borders.specs.declared.draw.Drawing.{Drawing}
use Rattle.borders.specs.BorderHoriz.{drawn, stretch_to}
use Rattle.fields.specs.Text.{WellFormed}
use Rattle.fields.specs.TaggedLine.{WellFormedPiece, join, push_str, push_ws, pad_to}
use Rattle.tagged_line.specs.declared.line.Line.{Line}

-- ---- numbers

-- the places are in order, and so much more stays below 2^62
pub record Within (p : Line) (n : ℕ) : Type 0 where
  pub base : p.base ≤ p.at
  pub piece : p.piece ≤ p.at
  pub room : p.at + n < 2 ^ 62
  pub cols : p.cols + n < 2 ^ 62

-- the line goes on from p to r, by n at most
pub record LineGrown (p r : Line) (n : ℕ) : Type 0 where
  pub base : r.base ≡ p.base
  pub piece : r.piece ≤ r.at
  pub on : p.at ≤ r.at
  pub at : r.at ≤ p.at + n
  pub wider : p.cols ≤ r.cols
  pub cols : r.cols ≤ p.cols + n

-- an empty line whose field begins at a place
abbrev pub new_line : ℕ → Line
new_line place = record { base = place + 3; at = place + 3; piece = place + 3; annotation = 0; cols = 0 }

-- ---- the line

-- The store st has, from the line's base on, the bytes of its pieces l and is else as it was, unless they are more than 65,535 (refusal 7).
-- The line stands at their end. If a piece of text is open there its field begins at `piece`; if not, `piece` is less than four bytes back.
pub record Held (st : List ℕ) (l : List Piece) (out : List ℕ) (p : Line) : Type 0 where
  pub bytes : length (pieces_bytes l) ≤ 65535 → out ≡ sets st p.base (pieces_bytes l)
  pub place : p.at ≡ p.base + length (pieces_bytes l)
  pub cols : p.cols ≡ width l
  pub valid : Every WellFormedPiece l
  pub opened : p.piece + 4 ≤ p.at → (ps : List Piece) × (s : List ℕ) × (l ≡ ps ++ (str p.annotation s ∷ [])) × (p.piece ≡ p.base + length (pieces_bytes ps))
  pub closed : p.at < p.piece + 4 → (a : ℕ) (t : List ℕ) → join l a t ≡ l ++ (str a t ∷ [])

-- ---- what is done to it, whatever the line

-- room was made: once the text stands before the end, it is pushed
abbrev pub MakesRoom : List ℕ → Line → ℕ → ℕ → ℕ → List ℕ → Line → Type 0
MakesRoom out p a n c out' r =
    (st : List ℕ) (l : List Piece) (t out'' : List ℕ) → Held st l out p → length t ≡ n → WellFormed t → text_width t ≡ c
    → out'' ≡ sets out' (r.at - n) t → Held st (push_str l a t) out'' r

-- `push_str`
abbrev pub Pushes : List ℕ → Line → ℕ → List ℕ → ℕ → List ℕ → Line → Type 0
Pushes out p a t c out' r =
    (st : List ℕ) (l : List Piece) → Held st l out p → WellFormed t → text_width t ≡ c → Held st (push_str l a t) out' r

-- `push_ws`
abbrev pub PushesSpaces : List ℕ → Line → ℕ → ℕ → List ℕ → Line → Type 0
PushesSpaces out p n a out' r = (st : List ℕ) (l : List Piece) → Held st l out p → Held st (push_ws l n a) out' r

-- `pad_to`
abbrev pub Pads : List ℕ → Line → ℕ → ℕ → List ℕ → Line → Type 0
Pads out p w a out' r = (st : List ℕ) (l : List Piece) → Held st l out p → Held st (pad_to l w a) out' r

-- a border's drawing, stretched, is pushed
abbrev pub Draws : List ℕ → Line → ℕ → List ℕ → ℕ → Drawing → List ℕ → Line → Type 0
Draws out p a segs w drawing out' r =
    (st : List ℕ) (l : List Piece) → Held st l out p → Held st (push_str l a (drawn drawing (stretch_to segs w))) out' r
