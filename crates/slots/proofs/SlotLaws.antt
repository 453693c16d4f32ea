-- The steps of a walk over the seats of a row: what is ahead stays the same, but for the seat that is given.
-- Assumes nothing.
use Rattle.std.proofs.Common.{◌≡◌, ℕ, ◌+◌, ◌-◌, ◌*◌, ◌≤◌, ◌<◌, Bool, true, false, ltb, List, [], ◌∷◌, ◌++◌, length, refl, sym, ap, ap₂, subst, ◌∙◌, arith, lt-ltb, le-ltb, ltb-true, ltb-false}
use mathlib.Core.List.{append-nil}
use mathlib.Core.Option as opt
use Rattle.std.specs.Prelude.{if◌then◌else◌, Option, Some, None, MatchOption, max}
use Rattle.characters.proofs.Tests.{by_if, and_left, and_right}
use Rattle.fields.specs.Field.{Raw, raws, read_all, all}
use Rattle.fields.specs.Spans.{Hanging, Cell as FlatCell, read_cell, readable_lines, readable_hanging, readable_cell}
use Rattle.fields.specs.Places.{LinesIn, CellsIn, OverhangIn}
use Rattle.fields.proofs.Fields.{raws_nil}
use Rattle.fields.proofs.Readings.{read_first}
use Rattle.rows.specs.SubRenderer.{reach}
use Rattle.rows.specs.Columns.{total_width, Slot, slot, cell_slots, hung_slot, slots_at, next_pos, gap_slot, put_slot, slots_from, reach_past, total_from, slot_widths, row_slots}
use Rattle.rows.proofs.Columns.{next_slot, last_slot}
use Rattle.slots.specs.declared.cell.Cell.{Cell}
use Rattle.slots.specs.declared.seat.Seat.{Seat}
use Rattle.slots.specs.Cell.{CellIs}
use Rattle.slots.specs.Seat.{SeatIs, SeatOfCell, FillingSeat}
use Rattle.slots.specs.Iter.{Ready, Ahead, reach_of}

-- ---- the row's width

-- The next V field and the first cell ahead.
next_total : (x : Slot) (xs : List Slot) (v : Hanging) (vs : List Hanging) (next total : ℕ)
    → total_from (x ∷ xs) (v ∷ vs) next total
    ≡ (if ltb x.pos v.pos then total_from xs (v ∷ vs) (x.pos + x.width + 1) total else total_from (hung_slot v ∷ xs) vs next total)
unfolding total_from slots_at next_pos
next_total x xs v vs next total = go (ltb x.pos v.pos)
  where
    go : (b : Bool)
        → total_from (put_slot v (if b then slots_at v.pos xs else x ∷ xs) (if b then next_pos v.pos xs (x.pos + x.width + 1) else next)) vs
        (if b then next_pos v.pos xs (x.pos + x.width + 1) else next) (reach_past v (if b then slots_at v.pos xs else x ∷ xs) total)
        ≡ (if b
        then total_from (put_slot v (slots_at v.pos xs) (next_pos v.pos xs (x.pos + x.width + 1))) vs (next_pos v.pos xs (x.pos + x.width + 1)) (reach_past v (slots_at v.pos xs) total)
        else total_from (hung_slot v ∷ xs) vs next total)
    go true = refl
    go false = refl

-- A V field behind all cells.
last_total : (v : Hanging) (vs : List Hanging) (next total : ℕ)
    → total_from [] (v ∷ vs) next total ≡ total_from (gap_slot next v.pos ++ (hung_slot v ∷ [])) vs next (reach total v)
unfolding total_from slots_at next_pos
last_total v vs next total = refl

-- a V field only widens a row
reach_most : (total pos width p : ℕ) → p ≤ total → p ≤ reach_of total pos width
reach_most total pos width p h = by_if (λ (z : ℕ). p ≤ z) (ltb total (pos + width)) (λ e. omega (arith, ltb-true total (pos + width) e)) (λ _. h)

-- ---- cells ahead

cells_next : (pos w : ℕ) (c : FlatCell) (cs : List FlatCell) → c.width ≡ w
    → cell_slots pos (c ∷ cs) ≡ slot pos c.width c.width c.span c.lines ∷ cell_slots (pos + (w + 1)) cs
unfolding cell_slots
cells_next pos w c cs e =
    let same : pos + c.width + 1 ≡ pos + (w + 1) = omega (arith, e) in
    ap (λ (z : ℕ). slot pos c.width c.width c.span c.lines ∷ cell_slots z cs) same

widths_next : (pos : ℕ) (x : Slot) (xs : List Slot) → pos + total_width (slot_widths (x ∷ xs)) ≡ pos + (x.width + 1) + total_width (slot_widths xs)
unfolding total_width slot_widths
widths_next pos x xs = omega arith

widths_none : (pos : ℕ) → pos + total_width (slot_widths []) ≡ pos
unfolding total_width slot_widths
widths_none pos = omega arith

-- ---- the seats that are ready

-- none is
none_there : (back : Option Seat) (xs : List Slot) → Ready None back xs → (back ≡ None) × (xs ≡ [])
none_there None [] r = (refl, refl)
none_there None (x ∷ xs) r = absurd r
none_there (Some s) xs r = absurd r

none_ready : (front back : Option Seat) (xs : List Slot) → front ≡ None → Ready front back xs → (back ≡ None) × (xs ≡ [])
none_ready front back xs e r = none_there back xs (rw e at r)

-- the front is, and the back or not
pub record FrontReady (front : Seat) (back : Option Seat) (xs : List Slot) : Type 0 where
  pub one : Slot
  pub more : List Slot
  pub are : xs ≡ one ∷ more
  pub front_is : SeatIs front one
  pub back_is : Ready back None more
  pub instead : (s : Seat) (y : Slot) → SeatIs s y → Ready (Some s) back (y ∷ more)

front_there : (front : Seat) (back : Option Seat) (xs : List Slot) → Ready (Some front) back xs → FrontReady front back xs
front_there front None [] r = absurd r
front_there front None (x ∷ []) r = record { one = x; more = []; are = refl; front_is = r; back_is = tt; instead = λ s y i. i }
front_there front None (x ∷ y ∷ xs) r = absurd r
front_there front (Some b) [] r = absurd r
front_there front (Some b) (x ∷ []) r = absurd r
front_there front (Some b) (x ∷ y ∷ []) r = record { one = x; more = y ∷ []; are = refl; front_is = r.0; back_is = r.1; instead = λ s z i. (i, r.1) }
front_there front (Some b) (x ∷ y ∷ z ∷ xs) r = absurd r

front_ready : (ready : Option Seat) (front : Seat) (back : Option Seat) (xs : List Slot) → ready ≡ Some front → Ready ready back xs → FrontReady front back xs
front_ready ready front back xs e r = front_there front back xs (rw e at r)

-- ---- a C or K field comes forward

-- A C OR K FIELD COMES FORWARD.
pub brought : (cells rest : List ℕ) (pos : ℕ) (hanging : List ℕ) (next reaches : ℕ) (front back : Option Seat) (w : Raw) (c : Cell) (seat : Seat) → front ≡ None
    → raws cells ≡ w ∷ raws rest → ((x : FlatCell) → read_cell w ≡ opt.some x → CellIs c x) → SeatOfCell c pos seat → seat.width < 256
    → (left : List Slot) (total : ℕ) → Ahead cells pos hanging next reaches front back left total
    → Ahead rest (pos + (seat.width + 1)) hanging next reaches (Some seat) back left total
unfolding all
brought cells rest pos hanging next reaches front back w c seat h e finds s k left total l =
    let r = read_first read_cell w (raws rest) l.cs (rw e at l.cs_are.reads) in
    let one = r.one in
    let i = finds one r.first in
    let wide : one.width ≡ seat.width = i.width_is ∙ sym s.width_is in
    let x = slot pos one.width one.width one.span one.lines in
    let ys = cell_slots (pos + (seat.width + 1)) r.more in
    let none = none_ready front back l.xs h l.xs_are in
    let fine : all readable_cell (one ∷ r.more) ≡ true = ap (all readable_cell) (sym r.are) ∙ l.cs_readable in
    let first : cell_slots pos l.cs ≡ x ∷ ys = ap (cell_slots pos) r.are ∙ cells_next pos seat.width one r.more wide in
    let all_of : l.xs ++ cell_slots pos l.cs ≡ x ∷ ys = ap₂ (λ (a b : List Slot). a ++ b) none.1 first in
    let sum : pos + total_width (slot_widths (cell_slots pos l.cs)) ≡ pos + (seat.width + 1) + total_width (slot_widths ys) =
    ap (λ (z : List Slot). pos + total_width (slot_widths z)) first ∙ widths_next pos x ys ∙ ap (λ (z : ℕ). pos + (z + 1) + total_width (slot_widths ys)) wide in
    record {
      cs = r.more;
      vs = l.vs;
      xs = x ∷ [];
      xs_are = rw none.0
          (record {
            pos_is = sym s.pos_is;
            width_is = wide;
            to_is = i.width_is ∙ sym s.to_is;
            span_is = i.span_is ∙ sym s.span_is;
            spans = rw s.span_is i.spans;
            lines_in = rw s.lines_are i.lines_in;
            readable = and_left (readable_cell one) (all readable_cell r.more) fine;
          });
      cs_are = record { reads = r.later };
      cs_readable = and_right (readable_cell one) (all readable_cell r.more) fine;
      few = omega (arith, l.few, ap length r.are, k);
      vs_are = l.vs_are;
      vs_readable = l.vs_readable;
      left_is = l.left_is ∙ ap (λ (z : List Slot). slots_from z l.vs next) all_of;
      total_is = l.total_is ∙ ap₂ (λ (z : List Slot) (m : ℕ). total_from z l.vs next (max reaches m)) all_of sum;
    }

-- No C or K field is left past 16 of them.
pub no_cells : (cs : List FlatCell) (p : ℕ) → 4096 ≤ p → p + 256 * length cs ≤ 4096 → cs ≡ []
no_cells [] p h k = refl
no_cells (c ∷ cs) p h k = absurd (omega arith)

-- ---- the front is given

-- a cell at a position stands before all V fields that are left
pub record Stands (p : ℕ) (vs : List Hanging) : Type 0 where
  pub slots : (x : Slot) (xs : List Slot) (next : ℕ) → x.pos ≡ p → slots_from (x ∷ xs) vs next ≡ x ∷ slots_from xs vs (x.pos + x.width + 1)
  pub width : (x : Slot) (xs : List Slot) (next total : ℕ) → x.pos ≡ p → total_from (x ∷ xs) vs next total ≡ total_from xs vs (x.pos + x.width + 1) total

pub stands_none : (p : ℕ) (vs : List Hanging) → vs ≡ [] → Stands p vs
unfolding slots_from total_from
stands_none p vs e = rw e (record { slots = λ x xs next h. refl; width = λ x xs next total h. refl })

pub stands_before : (p : ℕ) (seat : Seat) (one : Hanging) (more vs : List Hanging) → vs ≡ one ∷ more → one.pos ≡ seat.pos → p < seat.pos → Stands p vs
stands_before p seat one more vs are at h =
    let below : (x : Slot) → x.pos ≡ p → ltb x.pos one.pos ≡ true = λ x e. lt-ltb x.pos one.pos (omega (arith, e, at)) in
    rw are (record {
      slots = λ x xs next e.
          next_slot x xs one more next
          ∙ ap (λ (b : Bool). if b then x ∷ slots_from xs (one ∷ more) (x.pos + x.width + 1) else slots_from (hung_slot one ∷ xs) more next) (below x e);
      width = λ x xs next total e.
          next_total x xs one more next total
          ∙ ap (λ (b : Bool). if b then total_from xs (one ∷ more) (x.pos + x.width + 1) total else total_from (hung_slot one ∷ xs) more next total) (below x e);
    })

-- the first of the seats ahead, and what is ahead behind it
pub record Passed (cells : List ℕ) (pos : ℕ) (hanging : List ℕ) (next reaches : ℕ) (front : Seat) (back : Option Seat) (left : List Slot) (total : ℕ) : Type 0 where
  pub one : Slot
  pub more : List Slot
  pub are : left ≡ one ∷ more
  pub seat_is : SeatIs front one
  pub goes : Ahead cells pos hanging (front.pos + front.width + 1) reaches back None more total

-- THE FRONT IS GIVEN where it stands before the V fields that are left.
pub passes : (cells : List ℕ) (pos : ℕ) (hanging : List ℕ) (next reaches : ℕ) (ready : Option Seat) (front : Seat) (back : Option Seat) (left : List Slot) (total : ℕ)
    (l : Ahead cells pos hanging next reaches ready back left total) → ready ≡ Some front → Stands front.pos l.vs
    → Passed cells pos hanging next reaches front back left total
passes cells pos hanging next reaches ready front back left total l h s =
    let r = front_ready ready front back l.xs h l.xs_are in
    let x = r.one in
    let i = r.front_is in
    let ys = r.more ++ cell_slots pos l.cs in
    let m = max reaches (pos + total_width (slot_widths (cell_slots pos l.cs))) in
    let all_of : l.xs ++ cell_slots pos l.cs ≡ x ∷ ys = ap (λ (z : List Slot). z ++ cell_slots pos l.cs) r.are in
    let at : x.pos + x.width + 1 ≡ front.pos + front.width + 1 = ap₂ (λ (a b : ℕ). a + b + 1) i.pos_is i.width_is in
    record {
      one = x;
      more = slots_from ys l.vs (front.pos + front.width + 1);
      are =
          l.left_is ∙ ap (λ (z : List Slot). slots_from z l.vs next) all_of ∙ s.slots x ys next i.pos_is
          ∙ ap (λ (z : ℕ). x ∷ slots_from ys l.vs z) at;
      seat_is = i;
      goes =
          record {
            cs = l.cs;
            vs = l.vs;
            xs = r.more;
            xs_are = r.back_is;
            cs_are = l.cs_are;
            cs_readable = l.cs_readable;
            few = l.few;
            vs_are = l.vs_are;
            vs_readable = l.vs_readable;
            left_is = refl;
            total_is =
                l.total_is ∙ ap (λ (z : List Slot). total_from z l.vs next m) all_of ∙ s.width x ys next m i.pos_is
                ∙ ap (λ (z : ℕ). total_from ys l.vs z m) at;
          };
    }

-- ---- a V field instead of the front

-- A V FIELD TAKES THE FRONT'S PLACE.
pub put_instead : (cells : List ℕ) (pos : ℕ) (hanging rest : List ℕ) (next reaches : ℕ) (ready : Option Seat) (front : Seat) (back : Option Seat) (seat : Seat) (left : List Slot)
    (total : ℕ) (l : Ahead cells pos hanging next reaches ready back left total) → ready ≡ Some front → (one : Hanging) (more : List Hanging) → l.vs ≡ one ∷ more
    → SeatIs seat (hung_slot one) → OverhangIn rest more → seat.pos ≤ front.pos → Ahead cells pos rest next reaches (Some seat) back left total
unfolding all
put_instead cells pos hanging rest next reaches ready front back seat left total l h one more are i goes k =
    let r = front_ready ready front back l.xs h l.xs_are in
    let x = r.one in
    let ys = r.more ++ cell_slots pos l.cs in
    let m = max reaches (pos + total_width (slot_widths (cell_slots pos l.cs))) in
    let all_of : l.xs ++ cell_slots pos l.cs ≡ x ∷ ys = ap (λ (z : List Slot). z ++ cell_slots pos l.cs) r.are in
    let late : ltb x.pos one.pos ≡ false = le-ltb x.pos one.pos (omega (arith, i.pos_is, r.front_is.pos_is)) in
    let fine : all readable_hanging (one ∷ more) ≡ true = ap (all readable_hanging) (sym are) ∙ l.vs_readable in
    record {
      cs = l.cs;
      vs = more;
      xs = hung_slot one ∷ r.more;
      xs_are = r.instead seat (hung_slot one) i;
      cs_are = l.cs_are;
      cs_readable = l.cs_readable;
      few = l.few;
      vs_are = goes;
      vs_readable = and_right (readable_hanging one) (all readable_hanging more) fine;
      left_is =
          l.left_is ∙ ap₂ (λ (z : List Slot) (u : List Hanging). slots_from z u next) all_of are ∙ next_slot x ys one more next
          ∙ ap (λ (b : Bool). if b then x ∷ slots_from ys (one ∷ more) (x.pos + x.width + 1) else slots_from (hung_slot one ∷ ys) more next) late;
      total_is =
          l.total_is ∙ ap₂ (λ (z : List Slot) (u : List Hanging). total_from z u next m) all_of are ∙ next_total x ys one more next m
          ∙ ap (λ (b : Bool). if b then total_from ys (one ∷ more) (x.pos + x.width + 1) m else total_from (hung_slot one ∷ ys) more next m) late;
    }

-- ---- a V field behind all cells

-- no bytes, no lines
lines_none : LinesIn [] []
unfolding read_all
lines_none = record { reads = rw raws_nil refl }

gap_is : (next pos : ℕ) (seat : Seat) → FillingSeat next pos seat → SeatIs seat (slot next (pos - (next + 1)) 0 1 [])
unfolding readable_lines all
gap_is next pos seat g =
    record {
      pos_is = sym g.pos_is;
      width_is = sym g.width_is;
      to_is = sym g.to_is;
      span_is = sym g.span_is;
      spans = rw g.span_is refl;
      lines_in = rw g.lines_are lines_none;
      readable = refl;
    }

-- the seats that are ready then
behind_ready : (next : ℕ) (seat : Seat) (front back : Option Seat) (one : Hanging) → SeatIs seat (hung_slot one)
    → (next < seat.pos → MatchOption front ⊥ (FillingSeat next seat.pos) × (back ≡ Some seat)) → (seat.pos ≤ next → (front ≡ Some seat) × (back ≡ None))
    → Ready front back (gap_slot next one.pos ++ (hung_slot one ∷ []))
behind_ready next seat front back one i room at_once =
    subst (λ (p : ℕ). Ready front back (gap_slot next p ++ (hung_slot one ∷ []))) (sym i.pos_is)
    (by_if (λ (z : List Slot). Ready front back (z ++ (hung_slot one ∷ []))) (ltb next seat.pos)
    (λ e. let (f, b) = room (ltb-true next seat.pos e) in rw b (after_gap front f))
    (λ e. let (f, b) = at_once (ltb-false next seat.pos e) in rw (f, b) i))
  where
    after_gap : (f : Option Seat) → MatchOption f ⊥ (FillingSeat next seat.pos)
        → Ready f (Some seat) (slot next (seat.pos - (next + 1)) 0 1 [] ∷ hung_slot one ∷ [])
    after_gap None g = absurd g
    after_gap (Some gap) g = (gap_is next seat.pos gap g, i)

-- A V FIELD STANDS BEHIND ALL CELLS.
pub put_behind : (cells : List ℕ) (pos : ℕ) (hanging rest : List ℕ) (next reaches : ℕ) (seat : Seat) (ready other front back : Option Seat) (left : List Slot) (total : ℕ)
    (l : Ahead cells pos hanging next reaches ready other left total) → ready ≡ None → (one : Hanging) (more : List Hanging) → l.vs ≡ one ∷ more → l.cs ≡ []
    → SeatIs seat (hung_slot one) → OverhangIn rest more
    → (next < seat.pos → MatchOption front ⊥ (FillingSeat next seat.pos) × (back ≡ Some seat)) → (seat.pos ≤ next → (front ≡ Some seat) × (back ≡ other))
    → Ahead cells pos rest next (reach_of (max reaches pos) seat.pos seat.width) front back left total
unfolding all cell_slots
put_behind cells pos hanging rest next reaches seat ready other front back left total l h one more are no_cs i goes room at_once =
    let n = none_ready ready other l.xs h l.xs_are in
    let xs = gap_slot next one.pos ++ (hung_slot one ∷ []) in
    let none : cell_slots pos l.cs ≡ [] = ap (cell_slots pos) no_cs in
    let all_of : l.xs ++ cell_slots pos l.cs ≡ [] = ap₂ (λ (y z : List Slot). y ++ z) n.1 none in
    let m : max reaches (pos + total_width (slot_widths (cell_slots pos l.cs))) ≡ max reaches pos =
    ap (max reaches) (ap (λ (z : List Slot). pos + total_width (slot_widths z)) none ∙ widths_none pos) in
    let t = reach_of (max reaches pos) seat.pos seat.width in
    let same : reach (max reaches pos) one ≡ t = ap₂ (reach_of (max reaches pos)) i.pos_is i.width_is in
    let far = reach_most (max reaches pos) seat.pos seat.width pos (omega arith) in
    let stays_most : max t pos ≡ t = omega (arith, far) in
    let up : t ≡ max t (pos + total_width (slot_widths (cell_slots pos l.cs))) =
    sym (ap (max t) (ap (λ (z : List Slot). pos + total_width (slot_widths z)) none ∙ widths_none pos)
    ∙ stays_most) in
    let fine : all readable_hanging (one ∷ more) ≡ true = ap (all readable_hanging) (sym are) ∙ l.vs_readable in
    let plus : xs ≡ xs ++ cell_slots pos l.cs = sym (ap (λ (z : List Slot). xs ++ z) none ∙ append-nil xs) in
    record {
      cs = l.cs;
      vs = more;
      xs = xs;
      xs_are = behind_ready next seat front back one i room (rw n.0 at at_once);
      cs_are = l.cs_are;
      cs_readable = l.cs_readable;
      few = l.few;
      vs_are = goes;
      vs_readable = and_right (readable_hanging one) (all readable_hanging more) fine;
      left_is =
          l.left_is ∙ ap₂ (λ (z : List Slot) (u : List Hanging). slots_from z u next) all_of are ∙ last_slot one more next
          ∙ ap (λ (z : List Slot). slots_from z more next) plus;
      total_is =
          l.total_is ∙ ap₂ (λ (z : List Slot) (u : List Hanging). total_from z u next (max reaches (pos + total_width (slot_widths (cell_slots pos l.cs))))) all_of are
          ∙ ap (total_from [] (one ∷ more) next) m ∙ last_total one more next (max reaches pos)
          ∙ ap₂ (λ (z : List Slot) (n : ℕ). total_from z more next n) plus (same ∙ up);
    }

-- ---- the end and the start

-- a seat ahead stays ahead
stays : (x : Slot) (xs : List Slot) (vs : List Hanging) (next : ℕ) → slots_from (x ∷ xs) vs next ≡ [] → ⊥
unfolding slots_from
stays x xs [] next e = let z : ◌≡◌ {A = ℕ} 0 1 = cc in omega arith
stays x xs (v ∷ vs) next e = go (ltb x.pos v.pos) (stays (hung_slot v) xs vs next) (sym (next_slot x xs v vs next) ∙ e)
  where
    go : (b : Bool) → (slots_from (hung_slot v ∷ xs) vs next ≡ [] → ⊥)
        → (if b then x ∷ slots_from xs (v ∷ vs) (x.pos + x.width + 1) else slots_from (hung_slot v ∷ xs) vs next) ≡ [] → ⊥
    go true f e = let z : ◌≡◌ {A = ℕ} 0 1 = cc in omega arith
    go false f e = f e

-- nothing ahead, nothing left
none_left : (xs : List Slot) (vs : List Hanging) (next : ℕ) → slots_from xs vs next ≡ [] → (xs ≡ []) × (vs ≡ [])
none_left [] [] next e = (refl, refl)
none_left (x ∷ xs) vs next e = absurd (stays x xs vs next e)
none_left [] (v ∷ vs) next e = absurd (go (ltb next v.pos) (sym (last_slot v vs next) ∙ e))
  where
    go : (b : Bool) → slots_from ((if b then slot next (v.pos - (next + 1)) 0 1 [] ∷ [] else []) ++ (hung_slot v ∷ [])) vs next ≡ [] → ⊥
    go true e = stays (slot next (v.pos - (next + 1)) 0 1 []) (hung_slot v ∷ []) vs next e
    go false e = stays (hung_slot v) [] vs next e

none_behind : (xs ys : List Slot) → xs ++ ys ≡ [] → ys ≡ []
none_behind [] ys e = e
none_behind (x ∷ xs) ys e = absurd (let z : ◌≡◌ {A = ℕ} 0 1 = cc in omega arith)

-- NOTHING IS AHEAD: no seat is ready, and no field is left.
pub at_last : (cells : List ℕ) (pos : ℕ) (hanging : List ℕ) (next reaches : ℕ) (front back : Option Seat) (total : ℕ)
    → Ahead cells pos hanging next reaches front back [] total → total ≡ max reaches pos
unfolding total_from
at_last cells pos hanging next reaches front back total l =
    let ys = cell_slots pos l.cs in
    let n = none_left (l.xs ++ ys) l.vs next (sym l.left_is) in
    let m : max reaches (pos + total_width (slot_widths ys)) ≡ max reaches pos =
    ap (max reaches) (ap (λ (z : List Slot). pos + total_width (slot_widths z)) (none_behind l.xs ys n.0) ∙ widths_none pos) in
    l.total_is ∙ ap₂ (λ (z : List Slot) (u : List Hanging). total_from z u next (max reaches (pos + total_width (slot_widths ys)))) n.0 n.1 ∙ m

-- NOTHING IS LEFT where no seat is ready, and no field is left.
pub all_given : (cells : List ℕ) (pos : ℕ) (hanging : List ℕ) (next reaches : ℕ) (front back : Option Seat) (left : List Slot) (total : ℕ)
    (l : Ahead cells pos hanging next reaches front back left total) → front ≡ None → l.cs ≡ [] → l.vs ≡ [] → left ≡ []
unfolding cell_slots slots_from
all_given cells pos hanging next reaches front back left total l h c v =
    let n = none_ready front back l.xs h l.xs_are in
    l.left_is ∙ ap₂ (λ (z : List Slot) (u : List Hanging). slots_from z u next) (ap₂ (λ (y z : List Slot). y ++ z) n.1 (ap (cell_slots pos) c)) v

-- AT FIRST all is ahead.
pub begins : (cells hanging : List ℕ) (cs : List FlatCell) (vs : List Hanging) → CellsIn cells cs → length cs ≤ 16 → all readable_cell cs ≡ true
    → OverhangIn hanging vs → all readable_hanging vs ≡ true
    → Ahead cells 0 hanging 0 0 None None (row_slots vs cs) (total_from (cell_slots 0 cs) vs 0 (total_width (slot_widths (cell_slots 0 cs))))
unfolding row_slots
begins cells hanging cs vs a n b d e =
    let from_zero : total_width (slot_widths (cell_slots 0 cs)) ≡ max 0 (0 + total_width (slot_widths (cell_slots 0 cs))) = omega arith in
    record {
      cs = cs;
      vs = vs;
      xs = [];
      xs_are = tt;
      cs_are = a;
      cs_readable = b;
      few = omega (arith, n);
      vs_are = d;
      vs_readable = e;
      left_is = refl;
      total_is = ap (total_from (cell_slots 0 cs) vs 0) from_zero;
    }
