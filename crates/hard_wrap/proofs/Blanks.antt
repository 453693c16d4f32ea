-- The laws of the steps at the line's end: a line that is closed where it has text, and blanks.
-- Assumes nothing.
use mathlib.Core.Path.{◌≡◌, refl, sym, ap, ◌∙◌}
use mathlib.Core.Logic.{inl}
use mathlib.Core.Bool.{Bool, true, false}
use mathlib.Core.Option.{some}
use mathlib.Core.List.{List, [], ◌∷◌, ◌++◌}
use Prim.Native.Nat.{ℕ, zero, suc, ◌+◌, ◌<◌, ◌≤◌}
use native.Mathlib.Numerals.{add-one}
use native.Mathlib.Omega.{arith}
use borrow.Author.Tests.{le-leb, lt-leb}
use lib.ListN.{length}
use Rattle.characters.specs.Columns.{columns_of, width_of, cols, str_width}
use Rattle.characters.specs.Utf8.{utf8, text_bytes}
use Rattle.fields.specs.declared.job.Setup.{Setup}
use Rattle.block.specs.Tag.{Tag}
use Rattle.block.specs.Flat.{Line, char, name, Block, has_text, columns, flat_push_char, on_line, flat_flush_line, flat_force_flush_line, write_blank, write_blanks}
use Rattle.lines.specs.Items.{Item, item, Entries}
use Rattle.lines.specs.Bridge.{num, tagged, enc}
use Rattle.lines.proofs.Encoded.{enc_none}
use Rattle.hard_wrap.specs.Hold.{setup, Holds, ForceFlushes}
use Rattle.hard_wrap.specs.Steps.{Writes}
use Rattle.hard_wrap.specs.declared.line.OpenLine.{OpenLine}
use Rattle.hard_wrap.proofs.Closing.{puts}

-- ---- a line that is closed where it has text

no_items : (l : List Item) → length l ≡ 0 → l ≡ []
no_items [] e = refl
no_items (x ∷ l) e = absurd (omega (arith, e))

-- Nothing stands on the line, and nothing is closed.
pub flushes_none : (o : OpenLine) (d₀ : List ℕ) (base : ℕ) (b : Block) → Holds d₀ base b o → length o.entries.items ≡ 0
    → Holds d₀ base (flat_flush_line (setup o.frame) b) (record { frame = o.frame; entries = o.entries; cols = 0; text = o.text })
unfolding flat_flush_line has_text columns
flushes_none o d₀ base b g e =
    let l : b.line ≡ [] = enc_none b.line (sym g.line ∙ no_items o.entries.items e) in
    let n : flat_flush_line (setup o.frame) b ≡ b = rw l in
    rw n (record { line = g.line; valid = g.valid; cols = rw l; store = g.store; place = g.place; lines = g.lines })

-- A line with text is closed.
flushes_text : (s : Setup) (b : Block) → has_text b.line ≡ true → flat_flush_line s b ≡ flat_force_flush_line s b
unfolding flat_flush_line
flushes_text s b e = rw e

-- A line with entries has text.
pub flushes_some : (o r : OpenLine) (d₀ : List ℕ) (base : ℕ) (b : Block) → Holds d₀ base b o → (length o.entries.items ≡ 0 → ⊥) → (has_text b.line ≡ false → b.line ≡ [])
    → ForceFlushes o r → Holds d₀ base (flat_flush_line (setup o.frame) b) r
unfolding enc
flushes_some o r d₀ base b g z h x = rw (flushes_text (setup o.frame) b (go (has_text b.line) refl)) (x d₀ base b g)
  where
    go : (e : Bool) → has_text b.line ≡ e → e ≡ true
    go true e = refl
    go false e = absurd (z (ap length (g.line ∙ ap enc (h e))))

-- ---- blanks

text_snoc : (l : Line) (c : ℕ) (t : Tag) → has_text (l ++ (char c t ∷ [])) ≡ true
unfolding has_text
text_snoc [] c t = refl
text_snoc (char d u ∷ l) c t = refl
text_snoc (name n ∷ l) c t = text_snoc l c t

blank_bytes : 32 ∷ [] ≡ text_bytes (0x20 ∷ [])
unfolding text_bytes utf8
blank_bytes = refl

blank_width : 1 ≡ str_width (0x20 ∷ [])
unfolding str_width cols width_of columns_of
blank_width = refl

tagged_one : (b t : ℕ) → item b t ∷ [] ≡ tagged t (b ∷ [])
unfolding tagged
tagged_one b t = refl

module _ (o : OpenLine) (e : Entries) (tag : ℕ) (i : e.items ≡ o.entries.items ++ (item 0x20 tag ∷ [])) where
  -- the blank is on the line
  abbrev Next : OpenLine
  Next = record { frame = o.frame; entries = e; cols = o.cols + 1; text = o.text }

  module _ (d₀ : List ℕ) (base : ℕ) (b : Block) (t : Tag) (g : Holds d₀ base b o) (ta : tag ≡ num t) (ann : t.ann < 256) where
    pub blank_on : Holds d₀ base (on_line 0x20 t b) Next
    unfolding flat_push_char
    blank_on =
        puts o e d₀ (32 ∷ []) base tag 1 b t (0x20 ∷ []) (i ∙ ap (λ (l : List Item). o.entries.items ++ l) (tagged_one 32 tag)) g ta ann
        ((inl (omega arith), omega arith), tt) blank_bytes blank_width

    full_is : o.frame.width ≤ o.cols + 1 → flat_force_flush_line (setup o.frame) (on_line 0x20 t b) ≡ write_blanks (setup o.frame) 1 (some t) b
    unfolding write_blanks write_blank flat_push_char
    full_is h =
        let c = blank_on.cols in
        sym (rw (le-leb o.frame.width (columns (on_line 0x20 t b).line) (omega arith)) (flushes_text (setup o.frame) (on_line 0x20 t b) (text_snoc b.line 0x20 t)))

    open_is : o.cols + 1 < o.frame.width → on_line 0x20 t b ≡ write_blanks (setup o.frame) 1 (some t) b
    unfolding write_blanks write_blank
    open_is h =
        let c = blank_on.cols in
        sym (rw (lt-leb o.frame.width (columns (on_line 0x20 t b).line) (omega arith)))

  -- The line is full, and is closed.
  pub blank_full : (r : OpenLine) → o.frame.width ≤ o.cols + 1 → ForceFlushes Next r → Writes o 1 tag r
  blank_full r h x = λ d₀ base b t g ta ann. rw (← full_is d₀ base b t g ta ann h) (x d₀ base (on_line 0x20 t b) (blank_on d₀ base b t g ta ann))

  -- The line has columns left.
  pub blank_open : o.cols + 1 < o.frame.width → Writes o 1 tag Next
  blank_open h = λ d₀ base b t g ta ann. rw (← open_is d₀ base b t g ta ann h) (blank_on d₀ base b t g ta ann)

blanks_more : (s : Setup) (i : ℕ) (t : Tag) (b : Block) → write_blanks s (suc i) (some t) b ≡ write_blanks s 1 (some t) (write_blanks s i (some t) b)
unfolding write_blanks
blanks_more s zero t b = refl
blanks_more s (suc i) t b = blanks_more s i t (write_blank s t b)

-- No blank yet.
pub writes_none : (o : OpenLine) (tag : ℕ) → Writes o 0 tag o
unfolding write_blanks
writes_none o tag = λ d₀ base b t g ta ann. g

-- One blank more.
pub writes_more : (o p r : OpenLine) (i tag : ℕ) → p.frame ≡ o.frame → Writes o i tag p → Writes p 1 tag r → Writes o (i + 1) tag r
writes_more o p r i tag f x y =
    λ d₀ base b t g ta ann.
    let z : Holds d₀ base (write_blanks (setup p.frame) 1 (some t) (write_blanks (setup o.frame) i (some t) b)) r = y d₀ base (write_blanks (setup o.frame) i (some t) b) t (x d₀ base b t g ta ann) ta ann in
    rw (add-one i, blanks_more (setup o.frame) i t b) (rw f at z)
