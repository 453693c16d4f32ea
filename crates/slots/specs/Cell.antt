-- What a field of a call's cells is read as.
-- Assumes nothing: these are definitions.
use Rattle.std.specs.Prelude.{◌≡◌, true, MatchOption, Option}
use Rattle.std.proofs.Math.Option.{some}
use Rattle.fields.specs.List.{whole_of}
use Rattle.fields.specs.declared.raw.Field.{Field}
use Rattle.fields.specs.Spans.{Cell as FlatCell, is_span, read_cell}
use Rattle.fields.specs.Places.{LinesIn}
use Rattle.slots.specs.declared.cell.Cell.{Cell}

-- a cell of a row
pub record CellIs (c : Cell) (x : FlatCell) : Type 0 where
  pub width_is : x.width ≡ c.width
  pub span_is : x.span ≡ c.span
  pub spans : is_span c.span ≡ true
  pub lines_in : LinesIn c.lines.now x.lines

-- `of`: the cell that the definitions read, where they read one
abbrev pub ReadsCell : Field → Option Cell → Type 0
ReadsCell f r = (x : FlatCell) → read_cell (whole_of f) ≡ some x → MatchOption r ⊥ (λ c. CellIs c x)
