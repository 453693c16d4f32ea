-- The columns of a sheet's texts, pieces and lines, where a text is its bytes: `width` of `TaggedString`, `TaggedLineElement` and
-- `TaggedLine` (document 01, "Columns of a character", "Pieces of a line").
-- Assumes nothing: these are definitions.
use Rattle.std.proofs.Math.Option.{Option, none, some}
use Rattle.std.specs.Prelude.{List, [], ◌∷◌, ℕ, ◌+◌}
use Rattle.characters.specs.Columns.{str_width}
use Rattle.characters.specs.Utf8.{chars}
use Rattle.fields.specs.Sheet.{Piece, str, fragment}

-- the columns of a text that is well-formed
abbrev pub width_or : Option (List ℕ) → ℕ
width_or none = 0
width_or (some cs) = str_width cs

-- `TaggedString::width`
unfoldable pub text_width : List ℕ → ℕ
text_width t = width_or (chars t)

-- `TaggedLineElement::width`
abbrev pub piece_width : Piece → ℕ
piece_width (str a t) = text_width t
piece_width (fragment n) = 0

-- `TaggedLine::width`
unfoldable pub width : List Piece → ℕ
width [] = 0
width (p ∷ ps) = piece_width p + width ps
