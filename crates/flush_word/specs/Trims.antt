-- White space taken off a word's front and a line's end, in their items as in the flat lines that they hold.
-- Assumes nothing: these are definitions.
use Rattle.std.specs.Prelude.{◌≡◌, List, ◌++◌, ℕ, ◌+◌, ◌-◌, ◌≤◌, length, drop, take, if◌then◌else◌}
use Rattle.characters.specs.Utf8.{utf8, Scalar}
use Rattle.characters.specs.Whitespace.{is_whitespace}
use Rattle.block.specs.Flat.{Line, Block, columns, trim_front, trim_back, with_line}
use Rattle.lines.specs.Items.{Item}
use Rattle.lines.specs.Bridge.{enc, Valid}
use Rattle.hard_wrap.specs.Hold.{Holds}
use Rattle.hard_wrap.specs.declared.line.OpenLine.{OpenLine}

-- the bytes of the first character, if it is white space
abbrev pub White : List ℕ → ℕ → Type 0
White part r = (c : ℕ) (rest : List ℕ) → Scalar c → part ≡ utf8 c ++ rest → r ≡ (if is_whitespace c then length (utf8 c) else 0)

-- the word without its first r items
abbrev pub TrimsFront : List Item → ℕ → Type 0
TrimsFront items r = (w : Line) → Valid w → items ≡ enc w → drop r items ≡ enc (trim_front w)

-- the first r items of a line: each item gone was a column
abbrev pub TrimsBack : List Item → ℕ → Type 0
TrimsBack items r =
    (l : Line) → Valid l → items ≡ enc l → (take r items ≡ enc (trim_back l)) × (columns l ≡ columns (trim_back l) + (length items - r))

-- the numbers of the line without the spaces at its end
pub record Trimmed (o r : OpenLine) : Type 0 where
  pub n : length r.entries.items ≤ length o.entries.items
  pub cols : r.cols ≡ o.cols - (length o.entries.items - length r.entries.items)
  pub text : r.text ≡ o.text

-- PreWrap: the line without the spaces at its end
abbrev pub TrimsLine : OpenLine → OpenLine → Type 0
TrimsLine o r =
    (d₀ : List ℕ) (base : ℕ) (b : Block) → Holds d₀ base b o → Holds d₀ base (with_line (trim_back b.line) b) r
