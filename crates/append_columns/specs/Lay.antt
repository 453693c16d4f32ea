-- The row: what is asked of it before anything is written, and all that is written.
-- Assumes nothing: these are definitions.
use Rattle.std.specs.Prelude.{◌≡◌, Bool, true, false, not, ◌&&◌, List, [], map, ℕ, ◌+◌, ◌^◌, ◌≤◌, eqb, length, if◌then◌else◌, Result, Ok, Err}
use Rattle.std.proofs.Math.Option.{some}
use Rattle.fields.specs.Field.{raws, read_all, all}
use Rattle.fields.specs.Answer.{rendered, refused, give}
use Rattle.fields.specs.Refusal.{number, needed}
use Rattle.fields.specs.declared.refusal.Refusal.{Refusal}
use Rattle.rows.specs.Columns.{total_width, Slot, cell_slots, total_from, slot_widths, row_slots, column_of, border_below, row_misfit, columns_misfit, flat_columns, any_top}
use Rattle.rows.specs.declared.RenderOptions.{RenderOptions}
use Rattle.fields.specs.Spans.{RenderLine, Hanging, Sheet, Cell, read_name, wide, wide_hanging, readable_cell, readable_hanging}
use Rattle.fields.specs.Places.{CellsIn}
use Rattle.rows.specs.Answer.{finished}
use Rattle.seats.specs.Row.{RowIs}
use Rattle.seats.specs.Survey.{SurveyIs}
use Rattle.seats.specs.declared.row.Row.{Row}
use Rattle.seats.specs.declared.survey.Surveyed.{Surveyed}
use Rattle.row_fit.specs.Row.{any_hole}
use Rattle.extend_lines.specs.Emitted.{Emitted, all_fit}
use Rattle.extend_lines.specs.declared.line.Lines.{Lines}
use Rattle.append_columns.specs.declared.sheet.OldSheet.{OldSheet}
use Rattle.append_columns.specs.Sheet.{OldIs, joined}
use Rattle.append_columns.specs.Below.{holes_below}

-- ---- what is asked

-- refusal 6, then 10, or 0
abbrev pub row_refusal : RenderOptions → Bool → Bool → ℕ → List Slot → ℕ
row_refusal o joined collapse total xs =
    if collapse && any_top xs && not joined then 6
    else if row_misfit o total (map (column_of collapse) xs) (border_below joined total xs (map (column_of collapse) xs)) then 10
    else 0

-- the refusal, which has no length, and where there is none whether the border below has holes
abbrev pub RowAsked : RenderOptions → Bool → Bool → ℕ → ℕ → List Slot → Result Bool Refusal → Type 0
RowAsked o joined collapse total height xs (Ok holes) = (0 ≡ row_refusal o joined collapse total xs) × (holes ≡ any_hole (holes_below o collapse height xs))
RowAsked o joined collapse total height xs (Err e) = (number e ≡ row_refusal o joined collapse total xs) × (needed e ≡ 0)

-- `ask`
abbrev pub Asks : Row → Bool → Bool → Surveyed → Result Bool Refusal → Type 0
Asks row joined collapse s r =
    (o : RenderOptions) (xs : List Slot) (full : ℕ) → RowIs row xs full → SurveyIs collapse s xs full → RowAsked o joined collapse s.total s.height xs r

-- ---- the names that wait

-- those that wait on below a row: all where it has no line, else none
abbrev pub waiting_on : ℕ → List (List ℕ) → List (List ℕ)
waiting_on height ns = if eqb height 0 then ns else []

-- they stand behind the lines, and the place behind them is low, unless a line is too long
pub record NamesHanded (names : List ℕ) (height : ℕ) (ns : List (List ℕ)) (st : List ℕ) (ls : List RenderLine) (out : List ℕ) (r : Lines) : Type 0 where
  pub emitted : Emitted st ls (waiting_on height ns) [] out r
  pub low : all_fit ls [] ≡ true → r.at ≤ 2 ^ 44 + length names

-- `hand_names`
abbrev pub HandsNames : List ℕ → Lines → List ℕ → ℕ → List ℕ → Lines → Type 0
HandsNames out p names height out' r =
    (ns : List (List ℕ)) → read_all read_name (raws names) ≡ some ns → (st : List ℕ) (ls : List RenderLine) → Emitted st ls [] [] out p
    → NamesHanded names height ns st ls out' r

-- ---- what is written

-- the row's width, one too high
abbrev pub full_total : List Hanging → List Cell → ℕ
full_total vs cs = total_from (cell_slots 0 cs) vs 0 (total_width (slot_widths (cell_slots 0 cs)))

-- a sheet and cells that passed refusals 1 to 3
pub record InputsAre (old : OldSheet) (cells : List ℕ) (t : Sheet) (cs : List Cell) : Type 0 where
  pub old_is : OldIs old t
  pub hung_readable : all readable_hanging t.overhang ≡ true
  pub hung_wide : all wide_hanging t.overhang ≡ true
  pub cells_are : CellsIn cells cs
  pub few : length cs ≤ 16
  pub cells_readable : all readable_cell cs ≡ true
  pub cells_wide : all wide cs ≡ true

-- the row of the cells and of those that hang, kept and asked
pub record RowGoes (o : RenderOptions) (joined collapse : Bool) (row : Row) (s : Surveyed) (holes : Bool) (xs : List Slot) (full : ℕ) : Type 0 where
  pub is : RowIs row xs full
  pub surveyed : SurveyIs collapse s xs full
  pub fits : row_misfit o s.total (map (column_of collapse) xs) (border_below joined s.total xs (map (column_of collapse) xs)) ≡ false
  pub holed : holes ≡ any_hole (holes_below o collapse s.height xs)

-- `add_all`
abbrev pub AddsAll : RenderOptions → OldSheet → Row → Bool → Surveyed → Bool → List ℕ → Result ℕ Refusal → List ℕ → Type 0
AddsAll o old row collapse s holes store r store' =
    (cells : List ℕ) (t : Sheet) (cs : List Cell) → InputsAre old cells t cs
    → RowGoes o (joined old) collapse row s holes (row_slots t.overhang cs) (full_total t.overhang cs)
    → rendered r store' ≡ give (finished (flat_columns o t cs collapse)) store

-- `lay`: the call past refusals 1 to 3
abbrev pub Lays : RenderOptions → OldSheet → List ℕ → Bool → List ℕ → Result ℕ Refusal → List ℕ → Type 0
Lays o old cells collapse store r store' =
    (t : Sheet) (cs : List Cell) → InputsAre old cells t cs
    → rendered r store'
    ≡ give
    (if collapse && any_top (row_slots t.overhang cs) && not (joined old) then refused 6
    else if columns_misfit o t cs collapse then refused 10
    else finished (flat_columns o t cs collapse))
    store
