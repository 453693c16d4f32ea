-- The lines of a row of any number of seats.
-- Assumes nothing: these are definitions.
use Rattle.std.specs.Prelude.{◌≡◌, Bool, false, List, [], ◌++◌, map, ℕ}
use Rattle.std.proofs.Math.Option.{some}
use Rattle.fields.specs.Field.{raws, read_all}
use Rattle.fields.specs.Spans.{RenderLine, read_name}
use Rattle.rows.specs.declared.RenderOptions.{RenderOptions}
use Rattle.rows.specs.SubRenderer.{padded}
use Rattle.rows.specs.Named.{named_lines}
use Rattle.rows.specs.Columns.{Slot, column_of, lines_misfit, column_lines}
use Rattle.seats.specs.declared.row.Row.{Row}
use Rattle.seats.specs.Row.{RowIs}
use Rattle.extend_lines.specs.Emitted.{Emitted}
use Rattle.extend_lines.specs.declared.line.Lines.{Lines}

-- `add_row`: the first line takes the names that wait
abbrev pub AddsRow : List ℕ → Lines → List ℕ → RenderOptions → Row → Bool → ℕ → List ℕ → Lines → Type 0
AddsRow out p names s row collapse height out' r =
    (ns : List (List ℕ)) → read_all read_name (raws names) ≡ some ns → (xs : List Slot) (total : ℕ) → RowIs row xs total
    → (width : ℕ) → lines_misfit width height (map (column_of collapse) xs) ≡ false → (st : List ℕ) (ls : List RenderLine) → Emitted st ls [] [] out p
    → Emitted st (ls ++ map (padded s) (named_lines ns (column_lines s height (map (column_of collapse) xs)))) [] [] out' r
