-- What a V field of a sheet is read as.
-- Assumes nothing: these are definitions.
use Rattle.std.specs.Prelude.{◌≡◌, true, MatchOption, Option}
use Rattle.std.proofs.Math.Option.{some}
use Rattle.fields.specs.List.{whole_of}
use Rattle.fields.specs.declared.raw.Field.{Field}
use Rattle.fields.specs.Spans.{Hanging, is_span, read_hanging}
use Rattle.fields.specs.Places.{LinesIn}
use Rattle.slots.specs.declared.hanging.HangingCell.{HangingCell}

-- a cell that hangs from a sheet
pub record HangingIs (c : HangingCell) (x : Hanging) : Type 0 where
  pub pos_is : x.pos ≡ c.pos
  pub width_is : x.width ≡ c.width
  pub rows_is : x.rows ≡ c.rows
  pub spans : is_span c.rows ≡ true
  pub lines_in : LinesIn c.lines.now x.lines

-- `of`: the hanging cell that the definitions read, where they read one
abbrev pub ReadsHanging : Field → Option HangingCell → Type 0
ReadsHanging f r = (x : Hanging) → read_hanging (whole_of f) ≡ some x → MatchOption r ⊥ (λ c. HangingIs c x)
