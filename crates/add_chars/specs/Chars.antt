-- The steps of single characters over the block: LF, tab, a character of a word, blanks.
-- Assumes nothing: these are definitions.
use Rattle.std.specs.Prelude.{◌≡◌, Bool, false, ◌&&◌, List, ◌++◌, ℕ, suc, ◌+◌, ◌-◌, ◌*◌, ◌%◌, ◌^◌, ◌<◌, ◌≤◌, eqb, length}
use Rattle.std.proofs.Math.Option.{some}
use Rattle.characters.specs.Columns.{width_of, str_width}
use Rattle.characters.specs.Utf8.{utf8, text_bytes, Scalar}
use Rattle.characters.proofs.RoundTrip.{Scalars}
use Rattle.fields.specs.declared.job.Setup.{Setup}
use Rattle.block.specs.Tag.{Tag}
use Rattle.block.specs.Flat.{Block, flat_push_char, with_word, with_wrapped, newline, flat_tab_loop, tab, keep_blank, collapse, flat_add_element}
use Rattle.block.specs.TrimsLeaveText.{TrimsLeaveText, TextHasNonSpace}
use Rattle.lines.specs.Bridge.{num, text}
use Rattle.hard_wrap.specs.Hold.{setup, Holds}
use Rattle.hard_wrap.specs.declared.line.OpenLine.{OpenLine}
use Rattle.flush_word.specs.Keep.{Keeps}
use Rattle.flush_word.specs.declared.state.WrappedBlock.{WrappedBlock}
use Rattle.add_chars.specs.declared.stops.TabAt.{TabAt}

-- ---- room

-- the word's buffers are as long as 4,096 units ask
abbrev pub WordLongEnough : WrappedBlock → Type 0
WordLongEnough o = 4096 ≤ o.word.entries.room

-- the line's buffers are as long as 4,096 units and the width ask
pub record LineLongEnough (o : OpenLine) : Type 0 where
  pub positive : 0 < o.frame.width
  pub small : o.frame.width < 256
  pub default : o.frame.default_tag < 256
  pub room : 4608 ≤ o.entries.room

-- ---- LF

abbrev pub Newlines : WrappedBlock → WrappedBlock → Type 0
Newlines o r =
    (d₀ : List ℕ) (base : ℕ) (b : Block) → Keeps d₀ base b o → Keeps d₀ base (newline (setup o.line.frame) b) r

-- ---- a tab

-- room for the spaces of a tab, which are columns, and for the lines that k turns may close
pub record TabFits (o : OpenLine) (c : TabAt) (k : ℕ) : Type 0 where
  pub positive : 0 < o.frame.width
  pub small : o.frame.width < 256
  pub default : o.frame.default_tag < 256
  pub n : length o.entries.items ≤ 4096 + o.cols
  pub cols : o.cols ≤ o.frame.width
  pub past : o.cols ≤ c.pos
  pub far : c.pos < 2 ^ 40
  pub place : o.text.place + 65538 * k < 2 ^ 61
  pub lines : o.text.lines ≤ o.text.place
  pub room : 4608 ≤ o.entries.room

-- each space is an entry and a column; a turn closes one line at most
pub record TabMoved (o r : OpenLine) (c : TabAt) : Type 0 where
  pub n : length r.entries.items ≤ r.cols + (length o.entries.items - o.cols)
  pub cols : r.cols ≤ o.frame.width
  pub past : r.cols ≤ c.pos
  pub far : c.pos ≤ o.frame.width
  pub place : r.text.place ≤ o.text.place + 65538
  pub lines : r.text.lines ≤ r.text.place

-- one turn of the flat loop
pub record Turned (s : Setup) (d₀ : List ℕ) (base : ℕ) (b : Block) (t : Tag) (c : TabAt) (r : OpenLine) (c' : TabAt) : Type 0 where
  pub next : Block
  pub holds : Holds d₀ base next r
  pub trims : TrimsLeaveText next
  pub same : (fuel : ℕ) → (eqb (c.pos % 8) 0 && c.one) ≡ false
      → flat_tab_loop (suc fuel) s t c.pos c.one b ≡ flat_tab_loop fuel s t c'.pos c'.one next

abbrev pub Turns : OpenLine → TabAt → ℕ → OpenLine → TabAt → Type 0
Turns o c tag r c' =
    (d₀ : List ℕ) (base : ℕ) (b : Block) (t : Tag) → Holds d₀ base b o → TrimsLeaveText b → tag ≡ num t → t.ann < 256
    → Turned (setup o.frame) d₀ base b t c r c'

-- after all turns
pub record Tabbed (o r : OpenLine) : Type 0 where
  pub n : length r.entries.items ≤ r.cols + (length o.entries.items - o.cols)
  pub cols : r.cols ≤ o.frame.width
  pub place : r.text.place ≤ o.text.place + 65538 * 10
  pub lines : r.text.lines ≤ r.text.place

abbrev pub Tabs : OpenLine → TabAt → ℕ → OpenLine → Type 0
Tabs o c tag r =
    (d₀ : List ℕ) (base : ℕ) (b : Block) (t : Tag) → Holds d₀ base b o → TrimsLeaveText b → tag ≡ num t → t.ann < 256
    → Holds d₀ base (flat_tab_loop 10 (setup o.frame) t c.pos c.one b) r

abbrev pub Tabbing : WrappedBlock → ℕ → WrappedBlock → Type 0
Tabbing o tag r =
    (d₀ : List ℕ) (base : ℕ) (b : Block) (t : Tag) → Keeps d₀ base b o → tag ≡ num t → t.ann < 256
    → Keeps d₀ base (tab (setup o.line.frame) t b) r

-- ---- a character of a word, and blanks

-- characters of m bytes, which are among the units left, have no more columns than bytes
pub record AmongUnits (o : WrappedBlock) (m cols : ℕ) : Type 0 where
  pub some : 0 < m
  pub bytes : cols ≤ m
  pub units : o.used + m ≤ 4096

-- characters of one tag
abbrev pub PushesChars : WrappedBlock → List ℕ → ℕ → ℕ → Bool → WrappedBlock → Type 0
PushesChars o part n tag wrapped r =
    (d₀ : List ℕ) (base : ℕ) (b : Block) (cs : List ℕ) (t : Tag) → Keeps d₀ base b o
    → Scalars cs → part ≡ text_bytes cs → n ≡ str_width cs → tag ≡ num t → t.ann < 256 → TextHasNonSpace (b.word ++ text t cs)
    → Keeps d₀ base (with_word (b.word ++ text t cs) (with_wrapped wrapped b)) r

-- one character
abbrev pub PushesWord : WrappedBlock → List ℕ → ℕ → ℕ → WrappedBlock → Type 0
PushesWord o part n tag r =
    (d₀ : List ℕ) (base : ℕ) (b : Block) (c : ℕ) (t : Tag) → Keeps d₀ base b o
    → Scalar c → part ≡ utf8 c → width_of c ≡ some n → tag ≡ num t → t.ann < 256 → TextHasNonSpace (flat_push_char b.word c t)
    → Keeps d₀ base (with_word (flat_push_char b.word c t) b) r

-- a blank that is kept takes a column
abbrev pub KeepsBlank : WrappedBlock → List ℕ → ℕ → ℕ → WrappedBlock → Type 0
KeepsBlank o part n tag r =
    (d₀ : List ℕ) (base : ℕ) (b : Block) (c : ℕ) (t : Tag) → Keeps d₀ base b o
    → Scalar c → part ≡ utf8 c → width_of c ≡ some n → 0 < n → tag ≡ num t → t.ann < 256
    → Keeps d₀ base (keep_blank (some n) c t b) r

abbrev pub Collapses : WrappedBlock → ℕ → WrappedBlock → Type 0
Collapses o tag r =
    (d₀ : List ℕ) (base : ℕ) (b : Block) (t : Tag) → Keeps d₀ base b o → tag ≡ num t → t.ann < 256 → Keeps d₀ base (collapse t b) r

-- `add_element`
abbrev pub AddsElement : WrappedBlock → List ℕ → WrappedBlock → Type 0
AddsElement o name r =
    (d₀ : List ℕ) (base : ℕ) (b : Block) → Keeps d₀ base b o → Keeps d₀ base (flat_add_element name b) r
