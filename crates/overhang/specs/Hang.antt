-- What is left of a cell that hangs on, as a V field in a store, behind the lines and the names that wait.
-- Assumes nothing: these are definitions.
use Rattle.std.specs.Prelude.{◌≡◌, Bool, true, List, [], ◌∷◌, ◌++◌, map, ℕ, ◌+◌, ◌-◌, ◌^◌, ◌≤◌, length, drop}
use Rattle.std.proofs.lemmas.List.Edits.{sets}
use Rattle.fields.specs.Field.{field}
use Rattle.rows.specs.declared.RenderOptions.{RenderOptions}
use Rattle.fields.specs.Spans.{RenderLine, Hanging, hanging, Cell, readable_hanging, hanging_content, overhang_bytes}
use Rattle.rows.specs.SubRenderer.{filled}
use Rattle.rows.specs.Columns.{Slot, row_slots, column_of, column_hangs, hangs_of}
use Rattle.slots.specs.Seat.{SeatIs}
use Rattle.slots.specs.Hanging.{HangingIs}
use Rattle.slots.specs.declared.seat.Seat.{Seat}
use Rattle.slots.specs.declared.hanging.HangingCell.{HangingCell}
use Rattle.seats.specs.Row.{RowIs}
use Rattle.seats.specs.declared.row.Row.{Row}
use Rattle.extend_lines.specs.Emitted.{Emitted, all_fit}
use Rattle.extend_lines.specs.declared.line.Lines.{Lines}

-- ---- one V field

-- a V field with its lines filled to a width
abbrev pub filled_hanging : RenderOptions → ℕ → Hanging → Hanging
filled_hanging s to v = hanging v.pos v.width v.rows (map (filled s to) v.lines)

-- a V field stands at the front of a store, unless it is too long; the length of its content and its position are right in any case
pub record HangingStands (out : List ℕ) (v : Hanging) (out' : List ℕ) (n : ℕ) : Type 0 where
  pub size : n ≡ length (hanging_content v)
  pub position : v.pos ≤ 65535
  pub store : n ≤ 65535 → out' ≡ sets out 0 (field 0x56 (hanging_content v))

-- `put_field`
abbrev pub PutsHanging : List ℕ → RenderOptions → HangingCell → ℕ → List ℕ → ℕ → Type 0
PutsHanging out s cell to out' n = (v : Hanging) → HangingIs cell v → readable_hanging v ≡ true → HangingStands out (filled_hanging s to v) out' n

-- a place leaves room for a V field more, unless a line or a V field before it is too long
abbrev pub Roomy : List RenderLine → List Hanging → Lines → Type 0
Roomy ls vs p = all_fit ls vs ≡ true → p.at ≤ 2 ^ 63 + 2 ^ 62

-- `put_hanging`: a V field more
abbrev pub HangsOn : List ℕ → Lines → RenderOptions → HangingCell → ℕ → List ℕ → Lines → Type 0
HangsOn out p s cell to out' r =
    (v : Hanging) → HangingIs cell v → readable_hanging v ≡ true
    → (st : List ℕ) (ls : List RenderLine) (ns : List (List ℕ)) (vs : List Hanging) → Roomy ls vs p → Emitted st ls ns vs out p
    → Emitted st ls ns (vs ++ (filled_hanging s to v ∷ [])) out' r

-- ---- a cell of the row

-- what is left of a cell of the row, so many lines down, before it is filled
abbrev pub hanging_below : Bool → ℕ → Slot → Hanging
hanging_below collapse height x = hanging x.pos x.width (x.span - 1) (drop (height + 1) (column_of collapse x).lines)

-- `cell_below`
abbrev pub LeavesCell : Seat → Bool → ℕ → HangingCell → Type 0
LeavesCell seat collapse height r =
    (x : Slot) → SeatIs seat x → HangingIs r (hanging_below collapse height x) × (readable_hanging (hanging_below collapse height x) ≡ true)

-- `hang_seat`: what hangs on of a cell of the row
abbrev pub HangsSeat : List ℕ → Lines → RenderOptions → Seat → Bool → ℕ → List ℕ → Lines → Type 0
HangsSeat out p s seat collapse height out' r =
    (x : Slot) → SeatIs seat x
    → (st : List ℕ) (ls : List RenderLine) (ns : List (List ℕ)) (vs : List Hanging) → Roomy ls vs p → Emitted st ls ns vs out p
    → Emitted st ls ns (vs ++ column_hangs s height (column_of collapse x)) out' r

-- ---- the row

-- the place behind lines and names, unless a line is too long, and behind as many bytes as the sheet's V fields have
pub record StartsIn (vs : List Hanging) (ls : List RenderLine) (p : Lines) : Type 0 where
  pub near : all_fit ls [] ≡ true → p.at + length (overhang_bytes vs) ≤ 2 ^ 63 + 2 ^ 44

-- `hang_on`: what hangs on of all cells of the row
abbrev pub HangsAll : List ℕ → Lines → RenderOptions → Row → Bool → ℕ → List ℕ → Lines → Type 0
HangsAll out p s row collapse height out' r =
    (cs : List Cell) (vs : List Hanging) (total : ℕ) → length cs ≤ 16 → RowIs row (row_slots vs cs) total
    → (st : List ℕ) (ls : List RenderLine) (ns : List (List ℕ)) → StartsIn vs ls p → Emitted st ls ns [] out p
    → Emitted st ls ns (hangs_of s height (map (column_of collapse) (row_slots vs cs))) out' r
