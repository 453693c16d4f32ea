-- Refusals 1 to 3 of a sheet and of a list of cells, with the fields of requests 2.1 and 2.2; and over fields as they stand, as code walks
-- them: each field is judged by itself and the smallest number is given. That they are the same is proved (rows/proofs/Refusing).
-- Assumes nothing: these are definitions.
use Rattle.std.specs.Prelude.{not, List, [], ◌∷◌, ℕ, eqb, if◌then◌else◌}
use Rattle.fields.specs.Field.{Raw, all}
use Rattle.fields.specs.First.{unless, first_of, first_over, refusal_of}
use Rattle.fields.specs.Walk.{name_refusal}
use Rattle.fields.specs.Spans.{Hole, Hanging, Cell, RawHole, read_hole, ends_within, read_line, read_hanging, read_sheet, read_cell, read_cells, read_plain_cell, read_plain_cells, wide_hanging, wide, readable_hole, readable_line, readable_hanging, readable_sheet, readable_cell}

-- a hole of a border of n segments: past its end is 1
abbrev pub judged_hole : ℕ → Hole → ℕ
judged_hole n h = if ends_within n h then unless (readable_hole h) else 1

-- 1 or 3 of it
unfoldable pub hole_refusal : ℕ → RawHole → ℕ
hole_refusal n r = refusal_of (judged_hole n) (read_hole r)

-- of all holes
unfoldable pub holes_refusal : ℕ → List RawHole → ℕ
holes_refusal n [] = 0
holes_refusal n (r ∷ rs) = first_of (hole_refusal n r) (holes_refusal n rs)

-- 1 or 3 of a line
unfoldable pub line_refusal : Raw → ℕ
line_refusal r = refusal_of (λ l. unless (readable_line l)) (read_line r)

-- of lines
unfoldable pub lines_refusal : List Raw → ℕ
lines_refusal rs = first_over line_refusal rs

-- of the F fields after the last line
unfoldable pub names_refusal : List Raw → ℕ
names_refusal rs = first_over name_refusal rs

-- a cell that hangs: a width of 0 is 2
abbrev pub judged_hanging : Hanging → ℕ
judged_hanging v = if eqb v.width 0 then 2 else unless (readable_hanging v)

-- 1, 2 or 3 of it
unfoldable pub hanging_refusal : Raw → ℕ
hanging_refusal r = refusal_of judged_hanging (read_hanging r)

-- of the V fields
unfoldable pub overhang_refusal : List Raw → ℕ
overhang_refusal rs = first_over hanging_refusal rs

-- a sheet by itself: 1, 2, 3
unfoldable pub sheet_refusal : List ℕ → ℕ
sheet_refusal bs = refusal_of (λ t. if not (all wide_hanging t.overhang) then 2 else if readable_sheet t then 0 else 3) (read_sheet bs)

-- a cell: a width of 0 is 2
abbrev pub judged_cell : Cell → ℕ
judged_cell c = if eqb c.width 0 then 2 else unless (readable_cell c)

-- 1, 2 or 3 of a C or K field
unfoldable pub cell_refusal : Raw → ℕ
cell_refusal r = refusal_of judged_cell (read_cell r)

-- of a C field
unfoldable pub plain_cell_refusal : Raw → ℕ
plain_cell_refusal r = refusal_of judged_cell (read_plain_cell r)

-- a list of cells, C and K: 1, 2, 3
unfoldable pub cells_refusal : List ℕ → ℕ
cells_refusal bs =
    refusal_of (λ cs. if not (all wide cs) then 2 else if all readable_cell cs then 0 else 3) (read_cells bs)

-- a list of C cells: 1, 2, 3
unfoldable pub plain_cells_refusal : List ℕ → ℕ
plain_cells_refusal bs =
    refusal_of (λ cs. if not (all wide cs) then 2 else if all readable_cell cs then 0 else 3) (read_plain_cells bs)
