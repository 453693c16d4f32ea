-- Lines, names, cells, hanging cells and holes in bytes of an input that was read.
-- Assumes nothing: these are definitions.
use Rattle.std.specs.Prelude.{◌≡◌, List, ℕ}
use Rattle.std.proofs.Math.Option.{some}
use Rattle.fields.specs.Field.{raws, read_all}
use Rattle.fields.specs.Spans.{Hole, RenderLine, Hanging, Cell, raw_holes, read_holes, read_line, read_name, read_hanging, read_cell}

-- bytes that are lines, one after the other
pub record LinesIn (bytes : List ℕ) (ls : List RenderLine) : Type 0 where
  pub reads : read_all read_line (raws bytes) ≡ some ls

-- bytes that are F fields
pub record NamesIn (bytes : List ℕ) (ns : List (List ℕ)) : Type 0 where
  pub reads : read_all read_name (raws bytes) ≡ some ns

-- bytes that are C and K fields
pub record CellsIn (bytes : List ℕ) (cs : List Cell) : Type 0 where
  pub reads : read_all read_cell (raws bytes) ≡ some cs

-- bytes that are V fields
pub record OverhangIn (bytes : List ℕ) (vs : List Hanging) : Type 0 where
  pub reads : read_all read_hanging (raws bytes) ≡ some vs

-- bytes that are the holes of a G field
pub record HolesIn (bytes : List ℕ) (hs : List Hole) : Type 0 where
  pub reads : read_holes (raw_holes bytes) ≡ some hs
