-- What seats have left of their lines, as it is kept in marks.
-- Assumes nothing: these are definitions.
use Rattle.std.specs.Prelude.{◌≡◌, Bool, List, [], ◌∷◌, ℕ, suc, ◌+◌, ◌*◌, ◌/◌, ◌<◌, length, get_or}
use Rattle.fields.specs.Spans.{lines_bytes}
use Rattle.rows.specs.Columns.{Slot}
use Rattle.seats.specs.declared.row.Row.{Row}
use Rattle.seats.specs.Row.{RowIs}
use Rattle.row_lines.specs.Left.{last, LinesOf, StandsAt}

-- the k-th mark
abbrev pub mark_at : List ℕ → ℕ → ℕ
mark_at marks k = get_or marks (2 * k) 0 * 256 + get_or marks (2 * k + 1) 0

-- the mark of the k-th seat, if it has one, is the number of the bytes that it has left, i lines down
abbrev pub Marked : List ℕ → ℕ → Bool → ℕ → Slot → Type 0
Marked marks k collapse i x = k < length marks / 2 → StandsAt (last (mark_at marks k) (lines_bytes x.lines)) collapse i x

-- where there is a mark, some bytes are the last of others
abbrev pub EndsAt : List ℕ → ℕ → List ℕ → List ℕ → Type 0
EndsAt marks k bytes r = k < length marks / 2 → r ≡ last (length r) bytes

-- `lines_left`: what the seat has left
abbrev pub FindsMarked : List ℕ → ℕ → List ℕ → Bool → ℕ → List ℕ → Type 0
FindsMarked marks k bytes collapse i r = (x : Slot) → LinesOf bytes x → Marked marks k collapse i x → StandsAt r collapse i x

-- `set_mark`: the mark is read back, and the others stay
pub record MarkSet (marks : List ℕ) (k n : ℕ) (marks' : List ℕ) : Type 0 where
  pub size : length marks' ≡ length marks
  pub put : k < length marks / 2 → mark_at marks' k ≡ n
  pub others : (j : ℕ) → (j ≡ k → ⊥) → mark_at marks' j ≡ mark_at marks j

-- the marks of seats, of which the first is the k-th, i lines down
abbrev pub AllMarked : List ℕ → ℕ → Bool → ℕ → List Slot → Type 0
AllMarked marks k collapse i [] = Unit {0}
AllMarked marks k collapse i (x ∷ xs) = Marked marks k collapse i x × AllMarked marks (suc k) collapse i xs

-- `start_marks`
abbrev pub StartsMarks : Row → Bool → List ℕ → Type 0
StartsMarks row collapse marks' = (xs : List Slot) (total : ℕ) → RowIs row xs total → AllMarked marks' 0 collapse 0 xs
