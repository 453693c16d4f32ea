-- Refusal 10 of a row of seats.
-- Assumes nothing: these are definitions.
use Rattle.std.specs.Prelude.{Result, Ok, Err, ◌≡◌, Bool, true, false, List, [], ◌∷◌, map, ℕ}
use Rattle.fields.specs.declared.refusal.Refusal.{Refusal}
use Rattle.fields.specs.declared.refusal.Refusal.TheVariants.{OverhangMisfit}
use Rattle.rows.specs.declared.RenderOptions.{RenderOptions}
use Rattle.rows.specs.Columns.{Slot, Column, column_of, columns_height, border_below, row_misfit, holes_of}
use Rattle.seats.specs.declared.row.Row.{Row}
use Rattle.seats.specs.Row.{RowIs}

-- whether there are holes
abbrev pub any_hole : {A : Type 0} → List A → Bool
any_hole [] = false
any_hole (h ∷ hs) = true

-- `row_has_holes`
abbrev pub FindsHoles : Row → Bool → ℕ → Bool → Type 0
FindsHoles row collapse height r =
    (o : RenderOptions) (xs : List Slot) (full : ℕ) → RowIs row xs full → r ≡ any_hole (holes_of o height 0 (map (column_of collapse) xs))

-- the refusal of some columns over a border, or whether the border has holes
abbrev pub ColumnsFit : RenderOptions → ℕ → ℕ → List Column → List ℕ → Result Bool Refusal → Type 0
ColumnsFit o total height cs below (Ok holes) = (row_misfit o total cs below ≡ false) × (holes ≡ any_hole (holes_of o height 0 cs))
ColumnsFit o total height cs below (Err e) = (row_misfit o total cs below ≡ true) × (e ≡ OverhangMisfit)

-- those of a row
abbrev pub RowFit : RenderOptions → Bool → Bool → ℕ → ℕ → List Slot → Result Bool Refusal → Type 0
RowFit o collapse joined total height xs r =
    ColumnsFit o total height (map (column_of collapse) xs) (border_below joined total xs (map (column_of collapse) xs)) r

-- `row_fit`
abbrev pub FindsRowFit : Row → Bool → Bool → ℕ → ℕ → Result Bool Refusal → Type 0
FindsRowFit row collapse joined total height r =
    (o : RenderOptions) (xs : List Slot) (full : ℕ) → RowIs row xs full → height ≡ columns_height (map (column_of collapse) xs)
    → RowFit o collapse joined total height xs r
