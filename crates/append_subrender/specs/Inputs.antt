-- The parts of a sheet that passed.
-- Assumes nothing: these are definitions.
use Rattle.std.specs.Prelude.{◌≡◌, List, ℕ, ◌≤◌, length, drop}
use Rattle.std.proofs.Math.Option.{some}
use Rattle.fields.specs.Field.{raws, read_all}
use Rattle.fields.specs.Spans.{Sheet, read_sheet, read_line, read_name}
use Rattle.extend_lines.specs.Emitted.{TailReads}

-- a sheet's lines, the names that wait on it, and from each place in the names on what stands behind the lines
pub record SplitInto (t : Sheet) (lines names behind : List ℕ) : Type 0 where
  pub lines_read : read_all read_line (raws lines) ≡ some t.lines
  pub names_read : read_all read_name (raws names) ≡ some t.names
  pub tail_read : (from : ℕ) (ns : List (List ℕ)) → from ≤ length names → read_all read_name (raws (drop from names)) ≡ some ns → TailReads (drop from behind) ns t.overhang

-- `split_sheet`
abbrev pub Splits : List ℕ → List ℕ → List ℕ → List ℕ → Type 0
Splits sheet lines names behind = (t : Sheet) → read_sheet sheet ≡ some t → SplitInto t lines names behind
