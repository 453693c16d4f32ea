-- What the steps at the line's end do to the flat block: `flush_line`, and the blanks that `flush_word` writes.
-- Assumes nothing: these are definitions.
use Rattle.std.specs.Prelude.{◌≡◌, false, List, [], ℕ, ◌+◌, ◌*◌, ◌<◌, ◌≤◌, min, length}
use Rattle.std.proofs.Math.Option.{some}
use Rattle.block.specs.Tag.{Tag}
use Rattle.block.specs.Flat.{Block, has_text, flat_flush_line, write_blanks}
use Rattle.lines.specs.Bridge.{num}
use Rattle.hard_wrap.specs.Hold.{setup, Holds}
use Rattle.hard_wrap.specs.declared.line.OpenLine.{OpenLine}

-- the numbers after a line with text is closed
pub record LineFlushed (o r : OpenLine) : Type 0 where
  pub n : length r.entries.items ≡ 0
  pub cols : r.cols ≡ 0
  pub place : r.text.place ≤ o.text.place + 65538 * min 1 (length o.entries.items)
  pub lines : r.text.lines ≤ r.text.place

-- a line that has entries has text
abbrev pub Flushes : OpenLine → OpenLine → Type 0
Flushes o r =
    (d₀ : List ℕ) (base : ℕ) (b : Block) → Holds d₀ base b o → (has_text b.line ≡ false → b.line ≡ [])
    → Holds d₀ base (flat_flush_line (setup o.frame) b) r

-- the numbers after k blanks
pub record Blanked (o : OpenLine) (k : ℕ) (r : OpenLine) : Type 0 where
  pub n : length r.entries.items ≤ length o.entries.items + k
  pub cols : r.cols ≤ o.frame.width
  pub place : r.text.place ≤ o.text.place + 65538 * k
  pub lines : r.text.lines ≤ r.text.place

-- k blanks of one tag are written
abbrev pub Writes : OpenLine → ℕ → ℕ → OpenLine → Type 0
Writes o k tag r =
    (d₀ : List ℕ) (base : ℕ) (b : Block) (t : Tag) → Holds d₀ base b o → tag ≡ num t → t.ann < 256
    → Holds d₀ base (write_blanks (setup o.frame) k (some t) b) r
