-- The border below the row, with the holes that the seats which hang on make in it.
-- Assumes nothing: these are definitions.
use Rattle.std.specs.Prelude.{◌≡◌, Bool, true, false, List, [], ◌∷◌, ◌++◌, map, ℕ, ◌+◌, ◌-◌, ◌*◌, ◌≤◌, length}
use Rattle.fields.proofs.Back.{Every}
use Rattle.rows.specs.declared.RenderOptions.{RenderOptions}
use Rattle.fields.specs.Spans.{Hole, RenderLine, border, holes_bytes}
use Rattle.rows.specs.SubRenderer.{padded, if_drawn}
use Rattle.rows.specs.Columns.{Slot, column_of, holes_of, any_past, cut_all, border_below}
use Rattle.long_borders.specs.declared.border.BorderHoriz.{BorderHoriz}
use Rattle.long_borders.specs.Keeps.{Keeps}
use Rattle.seats.specs.declared.row.Row.{Row}
use Rattle.seats.specs.declared.survey.Surveyed.{Surveyed}
use Rattle.seats.specs.Row.{RowIs}
use Rattle.row_fit.specs.Row.{any_hole}
use Rattle.row_holes.specs.Row.{WideSeat, ShortSeat}
use Rattle.extend_lines.specs.Emitted.{Emitted}
use Rattle.extend_lines.specs.declared.line.Lines.{Lines}

-- the holes in the border below a row of seats, so many lines down
abbrev pub holes_below : RenderOptions → Bool → ℕ → List Slot → List Hole
holes_below s collapse height xs = holes_of s height 0 (map (column_of collapse) xs)

-- at most one line more
pub record NextOrSame (p r : Lines) : Type 0 where
  pub count : r.count ≤ p.count + 1
  pub on : p.count ≤ r.count
  pub at : r.at ≤ p.at + (r.count - p.count) * 8388608

-- `put_holed`: a border of segments that are the cut ones wherever a field holds the holes
abbrev pub PutsHoled : List ℕ → Lines → ℕ → List ℕ → Row → Bool → ℕ → List ℕ → Lines → Type 0
PutsHoled out p a segs row collapse height out' r =
    (s : RenderOptions) → s.annotation ≡ a → (xs : List Slot) (total : ℕ) → RowIs row xs total → Every WideSeat xs
    → any_hole (holes_below s collapse height xs) ≡ true
    → (cut : List ℕ) → (length (holes_bytes (holes_below s collapse height xs)) ≤ 65535 → segs ≡ cut) → any_past (length cut) (holes_below s collapse height xs) ≡ false
    → (st : List ℕ) (ls : List RenderLine) → Emitted st ls [] [] out p
    → Emitted st (ls ++ (border a cut (holes_below s collapse height xs) ∷ [])) [] [] out' r

-- `add_drawn`: with pad a text, of segments that are the cut ones wherever each line is short enough to be laid
abbrev pub DrawsHoled : List ℕ → Lines → RenderOptions → List ℕ → Row → Bool → ℕ → List ℕ → Lines → Type 0
DrawsHoled out p s segs row collapse height out' r =
    s.pad ≡ true → (xs : List Slot) (total : ℕ) → RowIs row xs total → Every WideSeat xs
    → any_past (length segs) (holes_below s collapse height xs) ≡ false → (cut : List ℕ) → (Every (ShortSeat s collapse height 65538) xs → segs ≡ cut)
    → (st : List ℕ) (ls : List RenderLine) → Emitted st ls [] [] out p
    → Emitted st (ls ++ (padded s (border s.annotation cut (holes_below s collapse height xs)) ∷ [])) [] [] out' r

-- `add_holed`: the border cut for its holes
abbrev pub AddsHoled : List ℕ → Lines → RenderOptions → BorderHoriz → Row → Bool → ℕ → List ℕ → Lines → Type 0
AddsHoled out p s buffer row collapse height out' r =
    (xs : List Slot) (total : ℕ) → RowIs row xs total → Every WideSeat xs → any_hole (holes_below s collapse height xs) ≡ true
    → (b : List ℕ) → Keeps buffer b → any_past (length b) (holes_below s collapse height xs) ≡ false
    → (st : List ℕ) (ls : List RenderLine) → Emitted st ls [] [] out p
    → Emitted st (ls ++ (padded s (border s.annotation (cut_all b (holes_below s collapse height xs)) (holes_below s collapse height xs)) ∷ [])) [] [] out' r

-- the row below which the border stands: each seat that hangs on has a column, and no hole ends past the border
pub record RowBelow (s : RenderOptions) (row : Row) (joined collapse : Bool) (total height : ℕ) (holes : Bool) (xs : List Slot) : Type 0 where
  pub full : ℕ
  pub is : RowIs row xs full
  pub wide : Every WideSeat xs
  pub holed : holes ≡ any_hole (holes_below s collapse height xs)
  pub within : any_past (length (border_below joined total xs (map (column_of collapse) xs))) (holes_below s collapse height xs) ≡ false

-- `add_below`: the border below the row, if borders are drawn
abbrev pub AddsBelow : List ℕ → Lines → RenderOptions → Row → Bool → Bool → Surveyed → Bool → List ℕ → Lines → Type 0
AddsBelow out p s row joined collapse survey holes out' r =
    (xs : List Slot) → RowBelow s row joined collapse survey.total survey.height holes xs
    → (st : List ℕ) (ls : List RenderLine) → Emitted st ls [] [] out p
    → Emitted st
    (ls
    ++ map (padded s)
    (if_drawn s
    (border s.annotation (cut_all (border_below joined survey.total xs (map (column_of collapse) xs)) (holes_below s collapse survey.height xs))
    (holes_below s collapse survey.height xs))))
    [] [] out' r
