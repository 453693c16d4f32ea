-- What is ahead of a walk over the cells of a row, and what its steps do.
-- Assumes nothing: these are definitions.
use Rattle.std.specs.Prelude.{◌≡◌, true, List, [], ◌∷◌, ◌++◌, ℕ, ◌+◌, ◌*◌, ◌≤◌, ◌<◌, length, max, ltb, if◌then◌else◌, Option, Some, None, MatchOption}
use Rattle.fields.specs.Field.{all}
use Rattle.fields.specs.Spans.{Hanging, Cell, readable_hanging, readable_cell}
use Rattle.fields.specs.Places.{CellsIn, OverhangIn}
use Rattle.rows.specs.Columns.{total_width, Slot, cell_slots, slots_from, total_from, slot_widths, row_slots}
use Rattle.slots.specs.declared.seat.Seat.{Seat}
use Rattle.slots.specs.declared.iter.Slots.{Slots}
use Rattle.slots.specs.Seat.{SeatIs, FillingSeat}

-- ---- what is ahead

-- how many of two seats are there
abbrev pub there : Option Seat → ℕ
there None = 0
there (Some seat) = 1

-- it gets smaller with each seat
abbrev pub slots_measure : Slots → ℕ
slots_measure st = length st.cells.now + length st.hanging.now + there st.front + there st.back

-- the seats before the C and K fields
abbrev pub Ready : Option Seat → Option Seat → List Slot → Type 0
Ready None None [] = Unit {0}
Ready (Some front) None (x ∷ []) = SeatIs front x
Ready (Some front) (Some back) (x ∷ y ∷ []) = SeatIs front x × SeatIs back y
Ready _ _ _ = ⊥

-- the seats ahead, and the row's width, one too high: from the front and the back; the C and K fields that are left, the first at pos; the V
-- fields that are left; where the seat before ended; and how far V fields behind all cells reach
pub record Ahead (cells : List ℕ) (pos : ℕ) (hanging : List ℕ) (next reaches : ℕ) (front back : Option Seat) (left : List Slot) (total : ℕ) : Type 0 where
  pub cs : List Cell
  pub vs : List Hanging
  pub xs : List Slot
  pub xs_are : Ready front back xs
  pub cs_are : CellsIn cells cs
  pub cs_readable : all readable_cell cs ≡ true
  pub few : pos + 256 * length cs ≤ 4096
  pub vs_are : OverhangIn hanging vs
  pub vs_readable : all readable_hanging vs ≡ true
  pub left_is : left ≡ slots_from (xs ++ cell_slots pos cs) vs next
  pub total_is : total ≡ total_from (xs ++ cell_slots pos cs) vs next (max reaches (pos + total_width (slot_widths (cell_slots pos cs))))

-- those of a walk
abbrev pub SlotsLeft : Slots → List Slot → ℕ → Type 0
SlotsLeft st left total = Ahead st.cells.now st.pos st.hanging.now st.next st.total st.front st.back left total

-- ---- the walk

-- `new`: the row's seats, with the width of its cells and their edges
abbrev pub Begins : List ℕ → List ℕ → Slots → Type 0
Begins cells hanging st =
    (cs : List Cell) (vs : List Hanging) → CellsIn cells cs → length cs ≤ 16 → all readable_cell cs ≡ true → OverhangIn hanging vs → all readable_hanging vs ≡ true
    → SlotsLeft st (row_slots vs cs) (total_from (cell_slots 0 cs) vs 0 (total_width (slot_widths (cell_slots 0 cs))))

-- the first of the seats ahead, and the others
pub record FirstSlot (seat : Seat) (rest : Slots) (left : List Slot) (total : ℕ) : Type 0 where
  pub one : Slot
  pub more : List Slot
  pub are : left ≡ one ∷ more
  pub seat_is : SeatIs seat one
  pub goes : SlotsLeft rest more total

-- a call of `next`: the first of the seats ahead, or none is ahead
abbrev pub NextSlot : Slots → Option Seat → Slots → Type 0
NextSlot st r rest =
    (left : List Slot) (total : ℕ) → SlotsLeft st left total → MatchOption r ((left ≡ []) × SlotsLeft rest [] total) (λ seat. FirstSlot seat rest left total)

-- ---- its steps

-- some seats ahead, of which one is ready if there are C or K fields
abbrev pub Brought : Slots → List Slot → ℕ → Type 0
Brought st left total = (ahead : SlotsLeft st left total) × (st.front ≡ None → ahead.cs ≡ [])

-- `bring`: the seats ahead stay the same, and so do the V fields
pub record Brings (st r : Slots) : Type 0 where
  pub measure : slots_measure r ≤ slots_measure st
  pub brings : (left : List Slot) (total : ℕ) → SlotsLeft st left total → Brought r left total

-- the front is given, and the back takes its place
pub record FrontGiven (st : Slots) (seat : Seat) (rest : Slots) : Type 0 where
  pub cells_are : rest.cells.now ≡ st.cells.now
  pub pos_is : rest.pos ≡ st.pos
  pub hanging_is : rest.hanging.now ≡ st.hanging.now
  pub next_is : rest.next ≡ seat.pos + seat.width + 1
  pub total_is : rest.total ≡ st.total
  pub front_is : rest.front ≡ st.back
  pub back_is : rest.back ≡ None

-- `give`
abbrev pub Gives : Slots → Option Seat → Slots → Type 0
Gives st r rest = (r ≡ st.front) × MatchOption st.front (rest ≡ st) (λ seat. FrontGiven st seat rest)

-- the row's width, one too high, with a V field behind all cells
abbrev pub reach_of : ℕ → ℕ → ℕ → ℕ
reach_of total pos width = if ltb total (pos + width) then pos + width + 1 else total

-- `put_behind`: the V field is ready, behind a filling cell if there is room
pub record PutsBehind (st : Slots) (seat : Seat) (rest : List ℕ) (r : Slots) : Type 0 where
  pub cells_are : r.cells.now ≡ st.cells.now
  pub pos_is : r.pos ≡ st.pos
  pub hanging_is : r.hanging.now ≡ rest
  pub next_is : r.next ≡ st.next
  pub total_is : r.total ≡ reach_of (max st.total st.pos) seat.pos seat.width
  pub with_room : st.next < seat.pos → MatchOption r.front ⊥ (FillingSeat st.next seat.pos) × (r.back ≡ Some seat)
  pub at_once : seat.pos ≤ st.next → (r.front ≡ Some seat) × (r.back ≡ st.back)
