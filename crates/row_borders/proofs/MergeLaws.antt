-- Laws of the borders of the cells of a row, merged one after the other.
-- Assumes nothing.
use mathlib.Core.Path.{◌≡◌, refl, sym, ap, subst, ◌∙◌}
use mathlib.Core.List.{List, [], ◌∷◌}
use Prim.Native.Nat.{ℕ, ◌+◌}
use native.Mathlib.Omega.{arith}
use Rattle.std.specs.Prelude.{Some, None}
use Rattle.borders.specs.declared.border.Side.{Side}
use Rattle.borders.specs.declared.border.Side.TheVariants.{Above, Below}
use Rattle.borders.specs.BorderHoriz.{merge_from}
use Rattle.rows.specs.Columns.{Slot, column_of, tops_of, bottoms_of}
use Rattle.long_borders.specs.declared.border.BorderHoriz.{BorderHoriz}
use Rattle.long_borders.specs.Keeps.{Near, Keeps, MergesFrom, Advances}
use Rattle.slots.specs.declared.seat.Seat.{Seat}
use Rattle.seats.specs.declared.row.Row.{Row}
use Rattle.seats.specs.declared.row.Seats.{Seats}
use Rattle.seats.specs.Row.{RowIs, SeatsLeft, NextSeat}
use Rattle.row_borders.specs.Merge.{border_from, FindsBorder, MergesLines, merged_from, MergesSeats}

-- ---- one cell

-- A cell without a border is merged.
pub lines_none : (side : Side) (b : BorderHoriz) (lines : List ℕ) (pos : ℕ) → FindsBorder side lines None → MergesLines side b lines pos b
unfolding merge_from
lines_none side b lines pos f x l border pos₀ k near = rw (f x l) k

-- ---- one cell more

merged_nil : (side : Side) (pos : ℕ) (b : List ℕ) → merged_from side pos [] b ≡ b
unfolding tops_of bottoms_of
merged_nil Above pos b = refl
merged_nil Below pos b = refl

merged_cons : (side : Side) (pos : ℕ) (x : Slot) (xs : List Slot) (b : List ℕ)
    → merged_from side pos (x ∷ xs) b ≡ merged_from side (pos + x.width + 1) xs (merge_from side b (border_from side x) pos)
unfolding tops_of bottoms_of column_of
merged_cons Above pos x xs b = refl
merged_cons Below pos x xs b = refl

-- the border becomes the whole one when some cells more are merged, the first at a position
pub record Merging (side : Side) (b : BorderHoriz) (pos : ℕ) (xs : List Slot) (whole : List ℕ) : Type 0 where
  pub border : List ℕ
  pub place : ℕ
  pub keeps : Keeps b border
  pub near : Near pos place
  pub gives : merged_from side place xs border ≡ whole

merging_on : (side : Side) (b b' : BorderHoriz) (pos next w : ℕ) (x : Slot) (xs : List Slot) (whole : List ℕ) → x.width ≡ w
    → MergesFrom side b (border_from side x) pos b' → Advances pos (w + 1) next → Merging side b pos (x ∷ xs) whole → Merging side b' next xs whole
merging_on side b b' pos next w x xs whole e f a m =
    let at : m.place + (w + 1) ≡ m.place + x.width + 1 = omega (arith, e) in
    record {
      border = merge_from side m.border (border_from side x) m.place;
      place = m.place + (w + 1);
      keeps = f m.border m.place m.keeps m.near;
      near = a m.place m.near;
      gives =
          ap (λ (p : ℕ). merged_from side p xs (merge_from side m.border (border_from side x) m.place)) at
          ∙ sym (merged_cons side m.place x xs m.border) ∙ m.gives;
    }

-- ---- the cells of a row

-- the cells before those that are left are merged
pub record Ahead (side : Side) (b : BorderHoriz) (pos : ℕ) (left : Seats) (total : ℕ) (whole : List ℕ) : Type 0 where
  pub xs : List Slot
  pub ahead : SeatsLeft left xs total
  pub merging : Merging side b pos xs whole

-- whatever the cells of the row are
abbrev pub SoFar : Side → BorderHoriz → Row → BorderHoriz → ℕ → Seats → Type 0
SoFar side b₀ row b pos left =
    (xs : List Slot) (total : ℕ) (border : List ℕ) → RowIs row xs total → Keeps b₀ border → Ahead side b pos left total (merged_from side 0 xs border)

-- The lines of one seat more are merged, and the position moves on.
pub merge_goes : (side : Side) (b₀ : BorderHoriz) (row : Row) (b b' : BorderHoriz) (pos next : ℕ) (left rest : Seats) (seat : Seat)
    → NextSeat left (Some seat) rest → MergesLines side b seat.lines.now pos b' → Advances pos (seat.width + 1) next
    → SoFar side b₀ row b pos left → SoFar side b₀ row b' next rest
merge_goes side b₀ row b b' pos next left rest seat n f a inv xs total border r k =
    let i = inv xs total border r k in
    let q = n i.xs total i.ahead in
    record {
      xs = q.more;
      ahead = q.goes;
      merging =
          merging_on side b b' pos next seat.width q.one q.more (merged_from side 0 xs border) q.seat_is.width_is (f q.one q.seat_is.lines_in) a
          (subst (λ (z : List Slot). Merging side b pos z (merged_from side 0 xs border)) q.are i.merging);
    }

-- All seats are merged.
pub merge_ends : (side : Side) (b₀ : BorderHoriz) (row : Row) (b : BorderHoriz) (pos : ℕ) (left rest : Seats) → NextSeat left None rest
    → SoFar side b₀ row b pos left → MergesSeats side b₀ row b
merge_ends side b₀ row b pos left rest n inv xs total border r k =
    let i = inv xs total border r k in
    let q = n i.xs total i.ahead in
    let m = i.merging in
    let same : merged_from side 0 xs border ≡ m.border =
    sym m.gives ∙ ap (λ (z : List Slot). merged_from side m.place z m.border) q.0 ∙ merged_nil side m.place m.border in
    subst (λ (z : List ℕ). Keeps b z) (sym same) m.keeps
