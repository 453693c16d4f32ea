-- Laws of the joins at the inner edges of a row, made one after the other.
-- Assumes nothing.
use mathlib.Core.Path.{◌≡◌, refl, subst}
use mathlib.Core.Logic.{inl}
use mathlib.Core.List.{List, [], ◌∷◌}
use Prim.Native.Nat.{ℕ, ◌+◌, ◌-◌}
use native.Mathlib.Omega.{arith}
use Rattle.std.specs.Prelude.{Option, Some, None}
use Rattle.std.specs.Option.{unwrap_or}
use Rattle.borders.specs.declared.border.Side.{Side}
use Rattle.borders.specs.BorderHoriz.{join_on}
use Rattle.rows.specs.Columns.{join_at, total_width, Slot, slot_widths}
use Rattle.long_borders.specs.declared.border.BorderHoriz.{BorderHoriz}
use Rattle.long_borders.specs.Keeps.{Near, Keeps}
use Rattle.slots.specs.declared.seat.Seat.{Seat}
use Rattle.seats.specs.declared.row.Row.{Row}
use Rattle.seats.specs.declared.row.Seats.{Seats}
use Rattle.seats.specs.Row.{RowIs, SeatsLeft, GivesSeats, NextSeat}
use Rattle.row_borders.specs.Join.{JoinsNext, JoinedAll, JoinsEdges}

-- ---- one cell more

-- the border becomes the whole one, of a row of a width, when it is joined at the edges before some cells: no cell stands before them, or
-- the last one does, from its place on
pub data Joining (side : Side) (b : BorderHoriz) (xs : List Slot) (whole : List ℕ) (total : ℕ) : Option ℕ → Type 0 where
  none_before : (border : List ℕ) → Keeps b border → join_at (join_on side) 0 (slot_widths xs) border ≡ whole
      → total_width (slot_widths xs) ≡ total → Joining side b xs whole total None
  one_before : (end place width : ℕ) → Near end (place + width) → (border : List ℕ) → Keeps b border
      → join_at (join_on side) place (width ∷ slot_widths xs) border ≡ whole → place + total_width (width ∷ slot_widths xs) ≡ total
      → Joining side b xs whole total (Some end)

joining_on : (side : Side) (b b' : BorderHoriz) (end : Option ℕ) (width r : ℕ) (x : Slot) (xs : List Slot) (whole : List ℕ) (total : ℕ) → x.width ≡ width
    → JoinsNext side b end width b' r → Joining side b (x ∷ xs) whole total end → Joining side b' xs whole total (Some r)
unfolding join_at slot_widths total_width
joining_on side b b' end width r x xs whole total e j (none_before border k g t) =
    one_before r 0 x.width (inl (omega (arith, j.1, e))) border (rw j.0 k) g (omega (arith, t))
joining_on side b b' end width r x xs whole total e j (one_before edge place w near border k g t) =
    let at : place + w + (width + 1) ≡ place + w + 1 + x.width = omega (arith, e) in
    one_before r (place + w + 1) x.width (subst (λ (p : ℕ). Near r p) at (j.1 (place + w) near)) (join_on side border (place + w))
    (j.0 border (place + w) k near) g (omega (arith, t))

joining_end : (side : Side) (b : BorderHoriz) (xs : List Slot) (border : List ℕ) (end : Option ℕ)
    → Joining side b [] (join_at (join_on side) 0 (slot_widths xs) border) (total_width (slot_widths xs)) end → JoinedAll side border xs b (unwrap_or end 0)
unfolding join_at slot_widths total_width
joining_end side b xs border end (none_before d k g t) = record { keeps = rw (← g) k; ends = inl (omega (arith, t)) }
joining_end side b xs border end (one_before edge place w near d k g t) =
    let e : place + w ≡ total_width (slot_widths xs) - 1 = omega (arith, t) in
    record { keeps = rw (← g) k; ends = subst (λ (z : ℕ). Near edge z) e near }

-- ---- the cells of a row

-- the edges before the cells that are left are joined
pub record Ahead (side : Side) (b : BorderHoriz) (end : Option ℕ) (left : Seats) (total : ℕ) (whole : List ℕ) (wide : ℕ) : Type 0 where
  pub xs : List Slot
  pub ahead : SeatsLeft left xs total
  pub joining : Joining side b xs whole wide end

-- whatever the cells of the row are
abbrev pub SoFar : Side → BorderHoriz → Row → BorderHoriz → Option ℕ → Seats → Type 0
SoFar side b₀ row b end left =
    (xs : List Slot) (total : ℕ) (border : List ℕ) → RowIs row xs total → Keeps b₀ border
    → Ahead side b end left total (join_at (join_on side) 0 (slot_widths xs) border) (total_width (slot_widths xs))

-- At first nothing is joined.
pub join_starts : (side : Side) (b : BorderHoriz) (row : Row) (left : Seats) → GivesSeats row left → SoFar side b row b None left
join_starts side b row left g xs total border r k = record { xs = xs; ahead = g xs total r; joining = none_before border k refl refl }

-- The edge before one seat more is joined.
pub join_goes : (side : Side) (b₀ : BorderHoriz) (row : Row) (b b' : BorderHoriz) (end : Option ℕ) (r : ℕ) (left rest : Seats) (seat : Seat)
    → NextSeat left (Some seat) rest → JoinsNext side b end seat.width b' r → SoFar side b₀ row b end left → SoFar side b₀ row b' (Some r) rest
join_goes side b₀ row b b' end r left rest seat n j inv xs total border is k =
    let i = inv xs total border is k in
    let q = n i.xs total i.ahead in
    let whole = join_at (join_on side) 0 (slot_widths xs) border in
    let wide = total_width (slot_widths xs) in
    record {
      xs = q.more;
      ahead = q.goes;
      joining =
          joining_on side b b' end seat.width r q.one q.more whole wide q.seat_is.width_is j
          (subst (λ (z : List Slot). Joining side b z whole wide end) q.are i.joining);
    }

-- All edges are joined.
pub join_ends : (side : Side) (b₀ : BorderHoriz) (row : Row) (b : BorderHoriz) (end : Option ℕ) (r : ℕ) (left rest : Seats) → NextSeat left None rest
    → r ≡ unwrap_or end 0 → SoFar side b₀ row b end left → JoinsEdges side b₀ row b r
join_ends side b₀ row b end r left rest n e inv xs total border is k =
    let i = inv xs total border is k in
    let q = n i.xs total i.ahead in
    rw e
    (joining_end side b xs border end
    (subst (λ (z : List Slot). Joining side b z (join_at (join_on side) 0 (slot_widths xs) border) (total_width (slot_widths xs)) end) q.0 i.joining))
