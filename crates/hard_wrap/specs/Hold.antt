-- What the open line and the lines so far hold of the flat block, and the step that each function makes there.
-- Assumes nothing: these are definitions.
use Rattle.std.specs.Prelude.{◌≡◌, List, ◌++◌, map, ℕ, ◌+◌, ◌-◌, ◌*◌, ◌^◌, ◌<◌, ◌≤◌, min, length, replicate, Result, IfOk, MatchResult, if◌then◌else◌}
use Rattle.std.proofs.Math.Option.{none}
use Rattle.std.proofs.lemmas.List.Edits.{sets}
use Rattle.characters.specs.Columns.{str_width}
use Rattle.characters.specs.Utf8.{text_bytes}
use Rattle.characters.proofs.RoundTrip.{Scalars}
use Rattle.fields.specs.Spans.{lines_bytes}
use Rattle.fields.specs.declared.job.Setup.{Setup}
use Rattle.block.specs.Tag.{Tag}
use Rattle.block.specs.Result.{Result as FlatResult, good, too_narrow}
use Rattle.block.specs.Flat.{Line, Block, columns, with_line, flat_force_flush_line, flat_hard_wrap, flat_sheet_line}
use Rattle.lines.specs.Items.{Item, item}
use Rattle.lines.specs.Bridge.{num, enc, Valid, text, Cut}
use Rattle.hard_wrap.specs.Walk.{Split}
use Rattle.hard_wrap.specs.declared.line.Frame.{Frame}
use Rattle.hard_wrap.specs.declared.line.OpenLine.{OpenLine}
use Rattle.hard_wrap.specs.declared.piece.Step.{Step}
use Rattle.hard_wrap.specs.declared.error.TooNarrow.{TooNarrow}

-- the W field that a frame was made of
abbrev pub setup : Frame → Setup
setup f = record { width = f.width; pad = f.pad; overflow = f.overflow; annotation = f.default_tag }

-- the closed lines stand in the store d₀ from the place base on
pub record Holds (d₀ : List ℕ) (base : ℕ) (b : Block) (o : OpenLine) : Type 0 where
  pub line : o.entries.items ≡ enc b.line
  pub valid : Valid b.line
  pub cols : o.cols ≡ columns b.line
  pub store : o.text.out.now ≡ sets d₀ base (lines_bytes (map flat_sheet_line b.text))
  pub place : o.text.place ≡ base + length (lines_bytes (map flat_sheet_line b.text))
  pub lines : o.text.lines ≡ length b.text

-- ---- numbers

-- what no step changes: the frame, the buffers' room, and which store is written
pub record Stays (o r : OpenLine) : Type 0 where
  pub frame : r.frame ≡ o.frame
  pub room : r.entries.room ≡ o.entries.room
  pub store : r.text.out.ghost_name ≡ o.text.out.ghost_name

-- room for m bytes more on the line, and for k lines in the store; no line is without bytes there
pub record Room (o : OpenLine) (m k : ℕ) : Type 0 where
  pub bytes : length o.entries.items + m + o.frame.width ≤ o.entries.room
  pub long : length o.entries.items + m + o.frame.width < 13107
  pub place : o.text.place + 65538 * k < 2 ^ 62
  pub lines : o.text.lines ≤ o.text.place
  pub cols : o.cols < 2 ^ 40
  pub small : o.frame.width < 256
  pub default : o.frame.default_tag < 256

-- after m bytes of so many columns on the line
pub record Longer (o : OpenLine) (m used : ℕ) (r : OpenLine) : Type 0 where
  pub n : length r.entries.items ≡ length o.entries.items + m
  pub cols : r.cols ≡ o.cols + used
  pub place : r.text.place ≡ o.text.place
  pub lines : r.text.lines ≡ o.text.lines

-- after a line's end
pub record Emptied (o r : OpenLine) : Type 0 where
  pub n : length r.entries.items ≡ 0
  pub cols : r.cols ≡ 0
  pub place : r.text.place ≤ o.text.place + 65538
  pub lines : r.text.lines ≤ r.text.place

-- after a line of a piece with m bytes left: it goes forward in the piece, or closes a line that had columns
pub record Moved (o : OpenLine) (m : ℕ) (x : Step) (r : OpenLine) : Type 0 where
  pub emptied : Emptied o r
  pub inside : x.split ≤ m
  pub forward : 0 < x.split + o.cols
  pub small : x.used < 512

-- the numbers after `wrap_line`
abbrev pub Forward : OpenLine → ℕ → Result Step TooNarrow → OpenLine → Type 0
Forward o m x r = IfOk x (λ x. Moved o m x r)

-- after m bytes of a word: each byte may close two lines, and a line with columns one more
pub record WordGrown (o : OpenLine) (m : ℕ) (r : OpenLine) : Type 0 where
  pub n : length r.entries.items ≤ length o.entries.items + m
  pub cols : r.cols ≤ o.frame.width
  pub place : r.text.place + 65538 * min 1 r.cols ≤ o.text.place + 65538 * (2 * m + min 1 o.cols)
  pub lines : r.text.lines ≤ r.text.place

-- the numbers after `wrap_piece` and `hard_wrap`
abbrev pub Grows : OpenLine → ℕ → Result Unit TooNarrow → OpenLine → Type 0
Grows o m x r = IfOk x (λ _. WordGrown o m r)

-- ---- steps

-- the items of a line with the spaces that pad it
unfoldable pub padded : OpenLine → List Item
padded o =
    if o.frame.pad then o.entries.items ++ replicate (o.frame.width - o.cols) (item 0x20 o.frame.default_tag) else o.entries.items

-- the line is padded
pub record Padded (o r : OpenLine) : Type 0 where
  pub items : r.entries.items ≡ padded o
  pub n : length r.entries.items ≤ length o.entries.items + o.frame.width
  pub text : r.text ≡ o.text

-- text goes on the line
abbrev pub PutsText : OpenLine → List ℕ → ℕ → ℕ → OpenLine → Type 0
PutsText o part used tag r =
    (d₀ : List ℕ) (base : ℕ) (b : Block) (t : Tag) (cs : List ℕ) → Holds d₀ base b o → tag ≡ num t → t.ann < 256 → Scalars cs → part ≡ text_bytes cs → used ≡ str_width cs
    → Holds d₀ base (with_line (b.line ++ text t cs) b) r

-- a line is closed
abbrev pub ForceFlushes : OpenLine → OpenLine → Type 0
ForceFlushes o r =
    (d₀ : List ℕ) (base : ℕ) (b : Block) → Holds d₀ base b o → Holds d₀ base (flat_force_flush_line (setup o.frame) b) r

-- a part of a piece goes on the line, and that is closed
abbrev pub ClosesWith : OpenLine → List ℕ → ℕ → ℕ → OpenLine → Type 0
ClosesWith o part used tag r =
    (d₀ : List ℕ) (base : ℕ) (b : Block) (t : Tag) (cs : List ℕ) → Holds d₀ base b o → tag ≡ num t → t.ann < 256 → Scalars cs → part ≡ text_bytes cs → used ≡ str_width cs
    → Holds d₀ base (flat_force_flush_line (setup o.frame) (with_line (b.line ++ text t cs) b)) r

-- one line of a piece that does not fit
pub record Stepped (s : Setup) (d₀ : List ℕ) (base : ℕ) (b : Block) (t : Tag) (cs : List ℕ) (x : Step) (r : OpenLine) : Type 0 where
  pub p : List ℕ
  pub q : List ℕ
  pub next : Block
  pub whole : cs ≡ p ++ q
  pub place : x.split ≡ length (text_bytes p)
  pub cols : x.used ≡ str_width p
  pub holds : Holds d₀ base next r
  pub same : (w : Line) → flat_hard_wrap s (text t cs ++ w) none b ≡ flat_hard_wrap s (text t q ++ w) none next

-- what `wrap_line` answers
abbrev pub StepIs : Setup → List ℕ → ℕ → Block → Tag → List ℕ → Result Step TooNarrow → OpenLine → Type 0
StepIs s d₀ base b t cs x r =
    MatchResult x (λ x. Stepped s d₀ base b t cs x r) (λ _. (w : Line) → flat_hard_wrap s (text t cs ++ w) none b ≡ too_narrow)

-- the step that `wrap_line` makes at the place where the walk over the characters stopped, where the rest of the piece does not fit
abbrev pub WrapsLine : OpenLine → List ℕ → ℕ → ℕ → ℕ → Result Step TooNarrow → OpenLine → Type 0
WrapsLine o rest split used tag x r =
    (d₀ : List ℕ) (base : ℕ) (b : Block) (t : Tag) (cs : List ℕ) → Holds d₀ base b o → tag ≡ num t → t.ann < 256 → Scalars cs → rest ≡ text_bytes cs → o.frame.width < o.cols + str_width cs
    → Split (o.frame.width - o.cols) cs split used → StepIs (setup o.frame) d₀ base b t cs x r

-- a whole piece
pub record Pieced (s : Setup) (d₀ : List ℕ) (base : ℕ) (b : Block) (t : Tag) (cs : List ℕ) (r : OpenLine) : Type 0 where
  pub next : Block
  pub holds : Holds d₀ base next r
  pub same : (w : Line) → Cut t w → flat_hard_wrap s (text t cs ++ w) none b ≡ flat_hard_wrap s w none next

-- what `wrap_piece` answers
abbrev pub PieceIs : Setup → List ℕ → ℕ → Block → Tag → List ℕ → Result Unit TooNarrow → OpenLine → Type 0
PieceIs s d₀ base b t cs x r =
    MatchResult x (λ _. Pieced s d₀ base b t cs r) (λ _. (w : Line) → Cut t w → flat_hard_wrap s (text t cs ++ w) none b ≡ too_narrow)

-- the step that `wrap_piece` makes
abbrev pub Pieces : OpenLine → List ℕ → ℕ → Result Unit TooNarrow → OpenLine → Type 0
Pieces o piece tag x r =
    (d₀ : List ℕ) (base : ℕ) (b : Block) (t : Tag) (cs : List ℕ) → Holds d₀ base b o → tag ≡ num t → t.ann < 256 → Scalars cs → piece ≡ text_bytes cs
    → PieceIs (setup o.frame) d₀ base b t cs x r

-- a whole word
pub record Worded (to : FlatResult Block) (d₀ : List ℕ) (base : ℕ) (r : OpenLine) : Type 0 where
  pub next : Block
  pub is : to ≡ good next
  pub holds : Holds d₀ base next r

-- what `hard_wrap` answers
abbrev pub WordIs : FlatResult Block → List ℕ → ℕ → Result Unit TooNarrow → OpenLine → Type 0
WordIs to d₀ base x r = MatchResult x (λ _. Worded to d₀ base r) (λ _. to ≡ too_narrow)

-- the step that `hard_wrap` makes of a word's items
abbrev pub Wraps : OpenLine → List Item → Result Unit TooNarrow → OpenLine → Type 0
Wraps o items x r =
    (d₀ : List ℕ) (base : ℕ) (b : Block) (w : Line) → Holds d₀ base b o → Valid w → items ≡ enc w
    → WordIs (flat_hard_wrap (setup o.frame) w none b) d₀ base x r
