-- The lines of the old sheet, the last of them joined to the row if it is a border.
-- Assumes nothing: these are definitions.
use Rattle.std.specs.Prelude.{Bool, List, [], ◌∷◌, ◌++◌, ℕ}
use Rattle.fields.specs.Spans.{Hole, RenderLine, border}
use Rattle.rows.specs.SubRenderer.{on_last}
use Rattle.rows.specs.Columns.{Slot, border_above}
use Rattle.places.specs.declared.border.Border.{Border}
use Rattle.places.specs.Border.{BorderIs}
use Rattle.seats.specs.declared.row.Row.{Row}
use Rattle.seats.specs.Row.{RowIs}
use Rattle.extend_lines.specs.Emitted.{Emitted}
use Rattle.extend_lines.specs.declared.line.Lines.{Lines}
use Rattle.append_columns.specs.declared.sheet.OldSheet.{OldSheet}
use Rattle.append_columns.specs.Last.{OldLines}

-- `put_joined`: a border with other segments
abbrev pub PutsJoined : List ℕ → Lines → Border → List ℕ → List ℕ → Lines → Type 0
PutsJoined out p b segs out' r =
    (a : ℕ) (ss : List ℕ) (hs : List Hole) → BorderIs b a ss hs
    → (st : List ℕ) (ls : List RenderLine) → Emitted st ls [] [] out p → Emitted st (ls ++ (border a segs hs ∷ [])) [] [] out' r

-- `put_prev_border`
abbrev pub PutsPrev : List ℕ → Lines → Border → Row → Bool → List ℕ → Lines → Type 0
PutsPrev out p b row collapse out' r =
    (xs : List Slot) (total : ℕ) → RowIs row xs total → (a : ℕ) (segs : List ℕ) (hs : List Hole) → BorderIs b a segs hs
    → (st : List ℕ) (ls : List RenderLine) → Emitted st ls [] [] out p → Emitted st (ls ++ (border a (border_above collapse xs segs) hs ∷ [])) [] [] out' r

-- `add_old`
abbrev pub AddsOld : List ℕ → OldSheet → Row → Bool → List ℕ → Lines → Type 0
AddsOld out old row collapse out' r =
    (xs : List Slot) (total : ℕ) → RowIs row xs total → (ls : List RenderLine) → OldLines old.last old.lines.now ls
    → Emitted out (on_last (border_above collapse xs) ls) [] [] out' r
