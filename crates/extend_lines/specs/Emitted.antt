-- The lines of a sheet that stand in a store, from 5 on, before their head, with the names that wait and the cells that hang behind them;
-- and what is done to them.
-- Assumes nothing: these are definitions.
use Rattle.std.specs.Prelude.{◌≡◌, Bool, true, false, not, ◌&&◌, List, [], ◌∷◌, ◌++◌, map, ℕ, ◌+◌, ◌*◌, ◌≤◌, ◌<◌, length, take, drop, Result}
use Rattle.std.proofs.Math.Option.{some}
use Rattle.std.proofs.lemmas.List.Edits.{sets}
use Rattle.fields.specs.Field.{Raw, raws, read_all, all}
use Rattle.fields.specs.Sheet.{Piece, fragment}
use Rattle.fields.specs.Answer.{rendered, give}
use Rattle.fields.specs.declared.refusal.Refusal.{Refusal}
use Rattle.rows.specs.declared.RenderOptions.{RenderOptions}
use Rattle.fields.specs.Spans.{RenderLine, text, Hanging, sheet_of, read_line, read_name, read_hanging, body_bytes}
use Rattle.rows.specs.SubRenderer.{padded, plain_border}
use Rattle.rows.specs.Answer.{fits, fits_hanging, finished}
use Rattle.rows.proofs.Reading.{OfBytes}
use Rattle.tagged_line.specs.Held.{Held}
use Rattle.tagged_line.specs.declared.line.Line.{Line}
use Rattle.extend_lines.specs.declared.line.Lines.{Lines}

-- ---- numbers

-- so many lines, of less than 2^23 bytes each
pub record InBounds (p : Lines) : Type 0 where
  pub at : p.at ≤ (p.count + 1) * 8388608
  pub count : p.count < 1048576

-- one line more
pub record OneLineMore (p r : Lines) : Type 0 where
  pub count : r.count ≡ p.count + 1
  pub on : p.at ≤ r.at
  pub at : r.at ≤ p.at + 8388608

-- a line of text begun where the lines end, of n bytes and columns at most
pub record LineBegun (p : Lines) (line : Line) (n : ℕ) : Type 0 where
  pub base : line.base ≡ p.at + 3
  pub on : line.base ≤ line.at
  pub piece : line.piece ≤ line.at
  pub at : line.at ≤ p.at + n
  pub cols : line.cols ≤ n

-- no lines
abbrev pub no_lines : Lines
no_lines = record { at = 5; count = 0; long = false }

-- ---- the lines

-- no line is too long (refusal 7), nor is a cell that hangs; a name that waits was a field and fits
abbrev pub all_fit : List RenderLine → List Hanging → Bool
all_fit ls vs = all fits ls && all fits_hanging vs

-- The lines ls, the names ns and then the hanging cells vs stand in the store st from 5 on, unless one of them is too long; the lines alone
-- are counted.
pub record Emitted (st : List ℕ) (ls : List RenderLine) (ns : List (List ℕ)) (vs : List Hanging) (out : List ℕ) (p : Lines) : Type 0 where
  pub size : length out ≡ length st
  pub count : p.count ≡ length ls
  pub long : p.long ≡ not (all_fit ls vs)
  pub place : all_fit ls vs ≡ true → p.at ≡ 5 + length (body_bytes ls ns vs)
  pub bytes : all_fit ls vs ≡ true → out ≡ sets st 5 (body_bytes ls ns vs)

-- ---- what is done to them, whatever the lines

-- a text line as it stands: begun in the store mid, it holds the pieces l
abbrev pub FinishesLine : List ℕ → Lines → Line → List ℕ → Lines → Type 0
FinishesLine out p line out' r =
    (st mid : List ℕ) (ls : List RenderLine) (l : List Piece) → Emitted st ls [] [] mid p → length out ≡ length mid → Held mid l out line
    → Emitted st (ls ++ (text l ∷ [])) [] [] out' r

-- `add_line` of a text line
abbrev pub AddsTextLine : List ℕ → Lines → Line → RenderOptions → List ℕ → Lines → Type 0
AddsTextLine out p line s out' r =
    (st mid : List ℕ) (ls : List RenderLine) (l : List Piece) → Emitted st ls [] [] mid p → length out ≡ length mid → Held mid l out line
    → Emitted st (ls ++ (padded s (text l) ∷ [])) [] [] out' r

-- a border without holes as it stands
abbrev pub PutsBorder : List ℕ → Lines → ℕ → List ℕ → List ℕ → Lines → Type 0
PutsBorder out p a segs out' r =
    (st : List ℕ) (ls : List RenderLine) → Emitted st ls [] [] out p → Emitted st (ls ++ (plain_border a segs ∷ [])) [] [] out' r

-- `add_line` of a border without holes
abbrev pub AddsBorder : List ℕ → Lines → RenderOptions → ℕ → List ℕ → List ℕ → Lines → Type 0
AddsBorder out p s a segs out' r =
    (st : List ℕ) (ls : List RenderLine) → Emitted st ls [] [] out p → Emitted st (ls ++ (padded s (plain_border a segs) ∷ [])) [] [] out' r

-- a line copied, whose content is bytes
abbrev pub CopiesLine : List ℕ → Lines → Raw → List ℕ → Lines → Type 0
CopiesLine out p field out' r =
    (l : RenderLine) → read_line field ≡ some l → OfBytes field
    → (st : List ℕ) (ls : List RenderLine) → Emitted st ls [] [] out p → Emitted st (ls ++ (l ∷ [])) [] [] out' r

-- lines copied, whose fields stand in a list
abbrev pub CopiesFields : List ℕ → Lines → List Raw → List ℕ → Lines → Type 0
CopiesFields out p fields out' r =
    (new : List RenderLine) → read_all read_line fields ≡ some new
    → (st : List ℕ) (ls : List RenderLine) → Emitted st ls [] [] out p → Emitted st (ls ++ new) [] [] out' r

-- lines copied
abbrev pub CopiesLines : List ℕ → Lines → List ℕ → List ℕ → Lines → Type 0
CopiesLines out p body out' r = CopiesFields out p (raws body) out' r

-- F fields and then V fields, read from bytes
pub record TailReads (fields : List ℕ) (ns : List (List ℕ)) (vs : List Hanging) : Type 0 where
  pub seam : ℕ
  pub names : read_all read_name (raws (take seam fields)) ≡ some ns
  pub hung : read_all read_hanging (raws (drop seam fields)) ≡ some vs

-- F and V fields copied behind the lines
abbrev pub HandsOn : List ℕ → Lines → List ℕ → List ℕ → Lines → Type 0
HandsOn out p fields out' r =
    (ns : List (List ℕ)) (vs : List Hanging) → TailReads fields ns vs
    → (st : List ℕ) (ls : List RenderLine) → Emitted st ls [] [] out p → Emitted st ls ns vs out' r

-- a new line that begins with the names that wait
abbrev pub BeginsLine : List ℕ → List ℕ → List ℕ → Line → Type 0
BeginsLine out names out' r =
    (ns : List (List ℕ)) → read_all read_name (raws names) ≡ some ns → Held out (map fragment ns) out' r

-- the end of a call
abbrev pub Closes : Lines → List ℕ → Result ℕ Refusal → List ℕ → Type 0
Closes p store r store' =
    (st : List ℕ) (ls : List RenderLine) (ns : List (List ℕ)) (vs : List Hanging) → Emitted st ls ns vs store p
    → rendered r store' ≡ give (finished (sheet_of ls ns vs)) st
