-- The parts of an old sheet.
-- Assumes nothing: these are definitions.
use Rattle.std.specs.Prelude.{◌≡◌, Bool, List, ℕ, length}
use Rattle.std.proofs.Math.Option.{some}
use Rattle.fields.specs.Field.{raws, read_all}
use Rattle.fields.specs.Spans.{Sheet, read_name, read_sheet, overhang_bytes}
use Rattle.fields.specs.Places.{OverhangIn}
use Rattle.append_columns.specs.declared.sheet.OldSheet.{OldSheet}
use Rattle.append_columns.specs.Last.{OldLines, there}

-- the lines, the names that wait and the cells that hang of a sheet, and that these have as many bytes as they are written in
pub record OldIs (old : OldSheet) (t : Sheet) : Type 0 where
  pub lines : OldLines old.last old.lines.now t.lines
  pub names : read_all read_name (raws old.names.now) ≡ some t.names
  pub hanging : OverhangIn old.hanging.now t.overhang
  pub size : length (overhang_bytes t.overhang) ≡ length old.hanging.now

-- `of`
abbrev pub Splits : List ℕ → OldSheet → Type 0
Splits sheet old = (t : Sheet) → read_sheet sheet ≡ some t → OldIs old t

-- `joined`
abbrev pub joined : OldSheet → Bool
joined old = there old.last
