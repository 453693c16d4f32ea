-- What the walk over a text's bytes finds, for all characters that the bytes may be the UTF-8 of.
-- Assumes nothing: these are definitions.
use Rattle.std.specs.Prelude.{◌≡◌, List, ◌++◌, ℕ, ◌-◌, length, drop}
use Rattle.characters.specs.Utf8.{Scalar, utf8, text_bytes}
use Rattle.characters.specs.Columns.{cols, str_width}
use Rattle.characters.proofs.RoundTrip.{Scalars}
use Rattle.lines.specs.Bridge.{Stops}

-- the bytes and the columns of the first character
abbrev pub Shows : List ℕ → ℕ → ℕ → Type 0
Shows part len k = (c : ℕ) (rest : List ℕ) → Scalar c → part ≡ utf8 c ++ rest → (len ≡ length (utf8 c)) × (k ≡ cols c)

-- a text in two: what is passed, and what is left
pub record Going (part cs : List ℕ) (i used : ℕ) : Type 0 where
  pub p : List ℕ
  pub q : List ℕ
  pub whole : cs ≡ p ++ q
  pub rest : drop i part ≡ text_bytes q
  pub at : i ≡ length (text_bytes p)
  pub cols : used ≡ str_width p

-- a text in two: what fits so many columns, and what starts with a character that does not
pub record Split (left : ℕ) (cs : List ℕ) (at used : ℕ) : Type 0 where
  pub p : List ℕ
  pub q : List ℕ
  pub whole : cs ≡ p ++ q
  pub place : at ≡ length (text_bytes p)
  pub cols : used ≡ str_width p
  pub stop : Stops (left - used) q

-- what `width_of` finds
abbrev pub Widths : List ℕ → ℕ → Type 0
Widths part r = (cs : List ℕ) → Scalars cs → part ≡ text_bytes cs → r ≡ str_width cs
