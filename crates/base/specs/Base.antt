-- Document 01's sheets and cells among those of requests 2.1 and 2.2, inputs that have none of the requests' fields, and how request 2.1
-- read a sheet.
-- Assumes nothing: these are definitions.
use Rattle.std.specs.Prelude.{Bool, true, not, ◌&&◌, List, [], ◌∷◌, map, ℕ, eqb, drop, if◌then◌else◌}
use Rattle.std.proofs.Math.Option.{Option, none, some}
use Rattle.fields.specs.Field.{Raw, whole, broken, raws, read_all, all}
use Rattle.base.specs.Sheet.{RenderLine as BaseLine, text as base-text, border as base-border, Cell as BaseCell}
use Rattle.fields.specs.Answer.{Verdict, refused, sheet}
use Rattle.fields.specs.Spans.{RenderLine, text, border, Sheet, sheet_of, Cell, cell, read_line, read_hanging, before_hanging, from_hanging, parts, counted}
use Rattle.base.specs.Answer.{Verdict as BaseVerdict, refused as base-refused, sheet as base-sheet}

-- a line without holes
abbrev pub as_line : BaseLine → RenderLine
as_line (base-text ps) = text ps
as_line (base-border a segs) = border a segs []

-- a sheet on which no name waits and from which nothing hangs
abbrev pub as_sheet : List BaseLine → Sheet
as_sheet ls = sheet_of (map as_line ls) [] []

-- a cell of one row
abbrev pub as_cell : BaseCell → Cell
as_cell c = cell c.width 1 (map as_line c.lines)

-- what a call comes to
abbrev pub as_verdict : BaseVerdict → Verdict
as_verdict (base-refused n) = refused n
as_verdict (base-sheet ls) = sheet (as_sheet ls)

-- ---- inputs without the fields of requests 2.1 and 2.2

-- no G field
abbrev pub not_holed : Raw → Bool
not_holed broken = true
not_holed (whole l content) = not (eqb l 0x47)

-- no V field
abbrev pub not_hanging : Raw → Bool
not_hanging broken = true
not_hanging (whole l content) = not (eqb l 0x56)

-- no F field
abbrev pub not_name : Raw → Bool
not_name broken = true
not_name (whole l content) = not (eqb l 0x46)

-- a sheet without G, V and F fields of its own, good or broken; a line may have names
abbrev pub base_sheet : List ℕ → Bool
base_sheet bs = all not_holed (raws bs) && all not_hanging (raws bs) && all not_name (raws bs)

-- no K field, and no G among a cell's lines
abbrev pub base_cell : Raw → Bool
base_cell broken = true
base_cell (whole l content) = not (eqb l 0x4B) && all not_holed (raws (drop 1 content))

-- cells without K and G fields, good or broken
abbrev pub base_cells : List ℕ → Bool
base_cells bs = all base_cell (raws bs)

-- ---- request 2.1's sheets

-- the H field first, then lines, then V fields; no name waits
unfoldable pub read_unwaited : List Raw → Option Sheet
read_unwaited [] = none
read_unwaited (broken ∷ rs) = none
read_unwaited (whole l content ∷ rs) =
    if eqb l 0x48 then counted content (parts (read_all read_line (before_hanging rs)) (some []) (read_all read_hanging (from_hanging rs))) else none
