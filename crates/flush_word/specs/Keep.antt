-- What the block of the code holds of the flat block, the numbers that keep it in bounds, and the step of each function.
-- Assumes nothing: these are definitions.
use Rattle.std.specs.Prelude.{◌≡◌, ◌⊎◌, Bool, true, false, List, [], ℕ, ◌+◌, ◌*◌, ◌<◌, ◌≤◌, min, length, drop, Result, IfOk, MatchResult}
use Rattle.std.proofs.Math.Option.{Option, none, some}
use Rattle.fields.specs.declared.job.Setup.{Setup}
use Rattle.fields.specs.Job.{pre}
use Rattle.block.specs.Tag.{Tag}
use Rattle.block.specs.Result.{Result as FlatResult, good, too_narrow}
use Rattle.block.specs.Flat.{Line, Block, columns, has_text, with_wrapped, flat_flush_line, flat_at_wrap, put_word, drop_blanks, carry_on, starts_pre, wrap_word, flat_flush_word}
use Rattle.block.specs.TrimsLeaveText.{TrimsLeaveText}
use Rattle.lines.specs.Items.{Item}
use Rattle.lines.specs.Bridge.{num, enc, Valid}
use Rattle.lines.specs.declared.line.TaggedLine.{TaggedLine}
use Rattle.lines.specs.declared.text.ClosedLines.{ClosedLines}
use Rattle.hard_wrap.specs.Hold.{setup, Holds, Stays}
use Rattle.hard_wrap.specs.declared.error.TooNarrow.{TooNarrow}
use Rattle.hard_wrap.specs.declared.line.Frame.{Frame}
use Rattle.flush_word.specs.declared.state.Blanks.{Blanks}
use Rattle.flush_word.specs.declared.state.WrappedBlock.{WrappedBlock}

-- `new`
abbrev pub new : Frame → TaggedLine → TaggedLine → ClosedLines → WrappedBlock
new frame line word text =
    record {
      line = record { frame = frame; entries = line; cols = 0; text = text };
      word = record { entries = word; cols = 0; has_text = false };
      blanks = record { count = 0; tag = 0 };
      wrapped = false;
      used = 0;
    }

-- ---- what is held

-- pending blanks, and the tag that they have where there are any
abbrev pub Pends : Blanks → Option Tag → Type 0
Pends p none = p.count ≡ 0
Pends p (some t) = (0 < p.count) × (p.tag ≡ num t) × (t.ann < 256)

pub record Keeps (d₀ : List ℕ) (base : ℕ) (b : Block) (st : WrappedBlock) : Type 0 where
  pub line : Holds d₀ base b st.line
  pub word : st.word.entries.items ≡ enc b.word
  pub valid : Valid b.word
  pub cols : st.word.cols ≡ columns b.word
  pub text : st.word.has_text ≡ has_text b.word
  pub count : st.blanks.count ≡ b.wslen
  pub pends : Pends st.blanks b.spacetag
  pub wrapped : st.wrapped ≡ b.pre_wrapped
  pub trims : TrimsLeaveText b

-- ---- numbers

-- what no step changes: the frame, the buffers' room, and which store is written
pub record BlockStays (o r : WrappedBlock) : Type 0 where
  pub line : Stays o.line r.line
  pub word : r.word.entries.room ≡ o.word.entries.room

-- the buffers are as long as 4,096 units and the width ask
pub record BuffersLongEnough (st : WrappedBlock) : Type 0 where
  pub positive : 0 < st.line.frame.width
  pub small : st.line.frame.width < 256
  pub default : st.line.frame.default_tag < 256
  pub line : 4608 ≤ st.line.entries.room
  pub word : 4096 ≤ st.word.entries.room

-- Each entry of the word, each pending blank and each entry of the line that no tab wrote is one of the units that are behind. A line
-- is closed for each entry of the line at most once, for a blank once and for a byte of the word twice.
pub record CountsWithinUnits (st : WrappedBlock) : Type 0 where
  pub used : st.used ≤ 4096
  pub word : length st.word.entries.items + st.blanks.count ≤ st.used
  pub line : length st.line.entries.items + length st.word.entries.items + st.blanks.count ≤ st.used + st.line.cols
  pub cols : st.line.cols ≤ st.line.frame.width
  pub wide : st.word.cols ≤ 2 * length st.word.entries.items
  pub text : st.word.has_text ≡ true → 0 < length st.word.entries.items
  pub place : st.line.text.place + 65538 * (4 * length st.word.entries.items + 2 * st.blanks.count + min 1 (length st.line.entries.items)) ≤ 65538 * (16 * st.used + 1)
  pub lines : st.line.text.lines ≤ st.line.text.place

-- ---- steps

-- the numbers once the blanks are dropped, written or shortened
pub record Dropping (o r : WrappedBlock) : Type 0 where
  pub n : length r.line.entries.items ≤ length o.line.entries.items + o.blanks.count
  pub cols : r.line.cols ≤ o.line.frame.width
  pub count : r.blanks.count ≤ o.blanks.count
  pub closes : 2 * r.blanks.count + min 1 (length r.line.entries.items) ≤ 2 * o.blanks.count + min 1 (length o.line.entries.items)
  pub text : r.line.text ≡ o.line.text
  pub word : r.word ≡ o.word
  pub used : r.used ≡ o.used

-- blanks that are left, with their tag, which is that of no blanks where there are none
abbrev pub BlanksLeft : Blanks → ℕ → Option Tag → Type 0
BlanksLeft p n none = (p.count ≡ 0) × (p.tag ≡ 0) × (n ≡ 0)
BlanksLeft p n (some t) = (p.count ≡ n) × (p.tag ≡ num t) × (t.ann < 256)

pub record Dropped (d₀ : List ℕ) (base : ℕ) (b : Block) (r : WrappedBlock) : Type 0 where
  pub line : Holds d₀ base b r.line
  pub left : BlanksLeft r.blanks b.wslen b.spacetag

-- Pre: what exceeds the rest of the line is carried on, or the blanks are written
abbrev pub KeepsPre : WrappedBlock → WrappedBlock → Type 0
KeepsPre o r =
    (d₀ : List ℕ) (base : ℕ) (b : Block) (t : Tag) → Keeps d₀ base b o → b.spacetag ≡ some t
    → Dropped d₀ base (flat_at_wrap (setup o.line.frame) t pre b) r

-- `match self.spacetag`, but for the word's front
abbrev pub Drops : WrappedBlock → WrappedBlock → Type 0
Drops o r =
    (d₀ : List ℕ) (base : ℕ) (b : Block) → Keeps d₀ base b o → Dropped d₀ base (drop_blanks (setup o.line.frame) b.spacetag b) r

-- the numbers of the line that a word is wrapped onto
pub record Opened (o r : WrappedBlock) : Type 0 where
  pub n : length r.line.entries.items ≤ o.blanks.count
  pub cols : r.line.cols ≤ o.line.frame.width
  pub place : r.line.text.place ≤ o.line.text.place + 65538 * (2 * o.blanks.count + min 1 (length o.line.entries.items))
  pub lines : r.line.text.lines ≤ r.line.text.place
  pub word : r.word ≡ o.word
  pub used : r.used ≡ o.used

-- the blanks dealt with, a line with text closed, and what is left of the blanks written
abbrev pub OpensLine : WrappedBlock → WrappedBlock → Type 0
OpensLine o r =
    (d₀ : List ℕ) (base : ℕ) (b : Block) (p : Bool) → Keeps d₀ base b o
    → Holds d₀ base (carry_on (setup o.line.frame) (with_wrapped p (flat_flush_line (setup o.line.frame) (drop_blanks (setup o.line.frame) b.spacetag b)))) r.line

-- where the word starts, once PreWrap has trimmed its front
abbrev pub StartsAt : Blanks → List Item → ℕ → Type 0
StartsAt p items r =
    (s : Setup) (b : Block) → Pends p b.spacetag → Valid b.word → items ≡ enc b.word → drop r items ≡ enc (drop_blanks s b.spacetag b).word

-- "Got enough space"
abbrev pub PutsWord : WrappedBlock → WrappedBlock → Type 0
PutsWord o r =
    (d₀ : List ℕ) (base : ℕ) (b : Block) → Keeps d₀ base b o → has_text b.word ≡ true → Keeps d₀ base (put_word (with_wrapped false b)) r

-- what a result of the flat block is in the code: TooNarrow, or a block that keeps the next one
pub record NextBlock (to : FlatResult Block) (d₀ : List ℕ) (base : ℕ) (r : WrappedBlock) : Type 0 where
  pub block : Block
  pub is : to ≡ good block
  pub keeps : Keeps d₀ base block r

abbrev pub ResultIs : FlatResult Block → List ℕ → ℕ → Result Unit TooNarrow → WrappedBlock → Type 0
ResultIs to d₀ base x r = MatchResult x (λ _. NextBlock to d₀ base r) (λ _. to ≡ too_narrow)

-- the numbers after a flush
abbrev pub StaysWithinUnits : ℕ → Result Unit TooNarrow → WrappedBlock → Type 0
StaysWithinUnits used x r = IfOk x (λ _. CountsWithinUnits r × (r.used ≡ used))

-- the word as it was, or after an Ok one of no entries
abbrev pub WordStands : WrappedBlock → Result Unit TooNarrow → WrappedBlock → Type 0
WordStands o x r = MatchResult x (λ _. (r.word ≡ o.word) ⊎ (r.word.entries.items ≡ [])) (λ _. r.word ≡ o.word)

-- "Not enough space"
abbrev pub WrapsWord : WrappedBlock → Result Unit TooNarrow → WrappedBlock → Type 0
WrapsWord o x r =
    (d₀ : List ℕ) (base : ℕ) (b : Block) → Keeps d₀ base b o → has_text b.word ≡ true → ResultIs (wrap_word (setup o.line.frame) b) d₀ base x r

-- `flush_word`
abbrev pub FlushesWord : WrappedBlock → Result Unit TooNarrow → WrappedBlock → Type 0
FlushesWord o x r =
    (d₀ : List ℕ) (base : ℕ) (b : Block) → Keeps d₀ base b o → ResultIs (flat_flush_word (setup o.line.frame) b) d₀ base x r

-- whether a word's first text is of mode Pre
abbrev pub StartsPre : List Item → Bool → Type 0
StartsPre items r = (w : Line) → Valid w → items ≡ enc w → r ≡ starts_pre w
