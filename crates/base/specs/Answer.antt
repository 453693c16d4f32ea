-- The refusals and the whole calls on a sheet, from bytes to bytes (document 01, "What is refused").
-- Assumes nothing: these are definitions.
use Rattle.std.specs.Prelude.{Bool, false, not, ◌&&◌, ◌||◌, List, ℕ, leb, ltb, eqb, length, replicate, if◌then◌else◌}
use Rattle.std.proofs.Math.Option.{Option, none, some}
use Rattle.fields.specs.Field.{all}
use Rattle.fields.specs.Text.{readable_text}
use Rattle.fields.specs.Sheet.{read_prefixes}
use Rattle.base.specs.Sheet.{RenderLine, Cell, read_sheet, read_cells, readable_lines, readable_cell, content, sheet_bytes}
use Rattle.fields.specs.Answer.{Answer, in_store}
use Rattle.base.specs.SubRenderer.{append_subrender, append_columns_with_borders, no_border_above, append_vert_row}
use Rattle.rows.specs.declared.RenderOptions.{RenderOptions}

-- what a call comes to, apart from the store: a refusal's number, or the lines of a sheet
pub data Verdict : Type 0 where
  refused : ℕ → Verdict
  sheet : List RenderLine → Verdict

-- a refusal zeroes the whole store
unfoldable pub give : Verdict → List ℕ → Answer
give (refused n) store = record { number = n; length = 0; store = replicate (length store) 0 }
give (sheet ls) store = in_store (sheet_bytes ls) store

-- refusal 7 is not given to a line
abbrev pub fits : RenderLine → Bool
fits l = leb (length (content l)) 65535

-- refusals 7 and 9
unfoldable pub finished : List RenderLine → Verdict
finished ls =
    if not (all fits ls) then refused 7
    else if ltb 65535 (length ls) then refused 9
    else sheet ls

-- ---- `append_subrender`

-- 1, 2 and 3 over the whole input, then 7 and 9
unfoldable pub subrender_verdict : RenderOptions → Option (List RenderLine) → Option (List RenderLine) → Option (List (List ℕ)) → Bool → Verdict
subrender_verdict s none guest ps rep = refused 1
subrender_verdict s (some old) none ps rep = refused 1
subrender_verdict s (some old) (some guest) none rep = refused 1
subrender_verdict s (some old) (some guest) (some ps) rep =
    if eqb s.width 0 then refused 2
    else if not (readable_lines old && readable_lines guest && all (readable_text false) ps) then refused 3
    else finished (append_subrender s old guest rep ps)

-- ---- the calls over cells

-- a width that is not 0
abbrev pub has_width : Cell → Bool
has_width c = ltb 0 c.width

-- refusal 2
abbrev pub no_width : RenderOptions → List Cell → Bool
no_width s cs = eqb s.width 0 || not (all has_width cs)

-- 1, 2 and 3 over the whole input, then 6, 7 and 9
unfoldable pub columns_verdict : RenderOptions → Option (List RenderLine) → Option (List Cell) → Bool → Verdict
columns_verdict s none cs collapse = refused 1
columns_verdict s (some old) none collapse = refused 1
columns_verdict s (some old) (some cs) collapse =
    if no_width s cs then refused 2
    else if not (readable_lines old && all readable_cell cs) then refused 3
    else if no_border_above old cs collapse then refused 6
    else finished (append_columns_with_borders s old cs collapse)

-- 1, 2 and 3 over the whole input, then 7 and 9
unfoldable pub vert_row_verdict : RenderOptions → Option (List RenderLine) → Option (List Cell) → Verdict
vert_row_verdict s none cs = refused 1
vert_row_verdict s (some old) none = refused 1
vert_row_verdict s (some old) (some cs) =
    if no_width s cs then refused 2
    else if not (readable_lines old && all readable_cell cs) then refused 3
    else finished (append_vert_row s old cs)

-- ---- the answers: number, length and store

-- `append_subrender`: sheet, guest, prefixes, whether the last prefix repeats, and the store
unfoldable pub subrender_answer : RenderOptions → List ℕ → List ℕ → List ℕ → Bool → List ℕ → Answer
subrender_answer s old guest ps rep store = give (subrender_verdict s (read_sheet old) (read_sheet guest) (read_prefixes ps) rep) store

-- `append_columns_with_borders`: sheet, cells, whether to collapse, and the store
unfoldable pub columns_answer : RenderOptions → List ℕ → List ℕ → Bool → List ℕ → Answer
columns_answer s old cs collapse store = give (columns_verdict s (read_sheet old) (read_cells cs) collapse) store

-- `append_vert_row`: sheet, cells, and the store
unfoldable pub vert_row_answer : RenderOptions → List ℕ → List ℕ → List ℕ → Answer
vert_row_answer s old cs store = give (vert_row_verdict s (read_sheet old) (read_cells cs)) store
