-- Laws of how far the border below a row and its holes reach.
-- Assumes nothing.
use mathlib.Core.Path.{◌≡◌, refl, sym, ap, ◌∙◌}
use mathlib.Core.Bool.{Bool, true, false, not, ◌||◌}
use mathlib.Core.List.{List, [], ◌∷◌, ◌++◌, map}
use Prim.Native.Nat.{ℕ, suc, ◌+◌, ◌<◌, max}
use native.Mathlib.Omega.{arith}
use lib.Dec.{leb, ltb}
use lib.ListN.{length, replicate, drop, length-replicate}
use borrow.Author.Tests.{lt-ltb, le-ltb, le-leb, leb-true, leb-false, ltb-true, ltb-false}
use Rattle.std.proofs.Common.{Option as Maybe, Some, None}
use Rattle.std.specs.Prelude.{if◌then◌else◌}
use Rattle.std.specs.Option.{is_some}
use Rattle.std.proofs.Math.Bool.{or-false}
use Rattle.characters.proofs.Tests.{same_test}
use Rattle.fields.specs.Sheet.{Piece}
use Rattle.fields.specs.Widths.{width}
use Rattle.borders.specs.BorderSegHoriz.{Horiz}
use Rattle.borders.specs.BorderHoriz.{new_type, join_above, merge_from_above}
use Rattle.rows.specs.Columns.{join_at, Slot, slot_widths, Column, column_of, bottom_of, through_of, punch, column_holes, holes_of, any_past, ends_past, bottoms_of, border_below}
use Rattle.rows.specs.declared.RenderOptions.{RenderOptions}
use Rattle.fields.specs.Spans.{Hole}
use Rattle.rows.proofs.Columns.{past_width, past_append}
use Rattle.holes.specs.Cols.{cols_of}
use Rattle.row_fit.specs.Reach.{join_to, hole_to, border_from, holes_from}
use Rattle.row_fit.specs.Row.{any_hole}
use Rattle.row_fit.specs.Seat.{last_join, pieces_below}
use Rattle.row_fit.proofs.SeatLaws.{join_end, join_length, merge_length}

-- ---- tests

same_ltb : (a b c d : ℕ) → (a < b → c < d) → (c < d → a < b) → ltb a b ≡ ltb c d
same_ltb a b c d f g = same_test (ltb a b) (ltb c d) (λ e. lt-ltb c d (f (ltb-true a b e))) (λ e. lt-ltb a b (g (ltb-true c d e)))

or_three : (a b c : Bool) → ((a || b) || c) ≡ (a || (b || c))
or_three true b c = refl
or_three false b c = refl

not_le : (a b : ℕ) (t : Bool) → leb a b ≡ t → not t ≡ ltb b a
not_le a b true e = sym (le-ltb b a (leb-true a b e))
not_le a b false e = sym (lt-ltb b a (leb-false a b e))

-- ---- the border below a row

-- joins at the edges before columns, the first of which stands at y: how long the border is then
unfoldable edges_before : ℕ → List Column → ℕ → ℕ
edges_before y [] len = len
edges_before y (c ∷ cs) len = edges_before (y + c.width + 1) cs (max len y)

-- merges of the last borders
unfoldable bottoms_length : ℕ → List Column → ℕ → ℕ
bottoms_length x [] len = len
bottoms_length x (c ∷ cs) len = bottoms_length (x + c.width + 1) cs (max len (join_end x (last_join (bottom_of c))))

bottoms_length_lem : (x : ℕ) (cs : List Column) (b : List ℕ) → length (bottoms_of x cs b) ≡ bottoms_length x cs (length b)
unfolding bottoms_of bottoms_length
bottoms_length_lem x [] b = refl
bottoms_length_lem x (c ∷ cs) b =
    bottoms_length_lem (x + c.width + 1) cs (merge_from_above b (bottom_of c) x) ∙ ap (bottoms_length (x + c.width + 1) cs) (merge_length b (bottom_of c) x)

-- the widths of columns
widths_of : List Column → List ℕ
widths_of [] = []
widths_of (c ∷ cs) = c.width ∷ widths_of cs

joins_length : (x : ℕ) (c : Column) (cs : List Column) (b : List ℕ)
    → length (join_at join_above x (widths_of (c ∷ cs)) b) ≡ edges_before (x + c.width + 1) cs (length b)
unfolding join_at edges_before widths_of
joins_length x c [] b = refl
joins_length x c (d ∷ cs) b =
    let e : max (length b) (suc (x + c.width)) ≡ max (length b) (x + c.width + 1) = omega arith in
    joins_length (x + c.width + 1) d cs (join_above b (x + c.width))
    ∙ ap (edges_before (x + c.width + 1 + d.width + 1) cs) (join_length b (x + c.width) ∙ e)

edges_max : (y : ℕ) (cs : List Column) (len m : ℕ) → edges_before y cs (max len m) ≡ max (edges_before y cs len) m
unfolding edges_before
edges_max y [] len m = refl
edges_max y (c ∷ cs) len m =
    let e : max (max len m) y ≡ max (max len y) m = omega arith in
    ap (edges_before (y + c.width + 1) cs) e ∙ edges_max (y + c.width + 1) cs (max len y) m

-- one more than the end of a merge
join_to_end : (x : ℕ) (o : Maybe ℕ) (len : ℕ) → max (len + 1) (join_to x o) ≡ max len (join_end x o) + 1
join_to_end x None len = omega arith
join_to_end x (Some i) len = omega arith

-- with edges
joined_from : (y : ℕ) (cs : List Column) (len : ℕ) → border_from true true y cs (len + 1) ≡ bottoms_length y cs (edges_before y cs len) + 1
unfolding border_from bottoms_length edges_before
joined_from y [] len = refl
joined_from y (c ∷ cs) len =
    let j = last_join (bottom_of c) in
    let z = y + c.width + 1 in
    let e : max (len + 1) (y + 1) ≡ max len y + 1 = omega arith in
    ap (λ (b : ℕ). border_from true true z cs (max b (join_to y j))) e
    ∙ ap (border_from true true z cs) (join_to_end y j (max len y))
    ∙ joined_from z cs (max (max len y) (join_end y j))
    ∙ ap (λ (b : ℕ). bottoms_length z cs b + 1) (edges_max z cs (max len y) (join_end y j))

-- without
plain_from : (x : ℕ) (cs : List Column) (len : ℕ) → border_from false false x cs (len + 1) ≡ bottoms_length x cs len + 1
unfolding border_from bottoms_length
plain_from x [] len = refl
plain_from x (c ∷ cs) len =
    let j = last_join (bottom_of c) in
    let z = x + c.width + 1 in
    let e : max (len + 1) 0 ≡ len + 1 = omega arith in
    ap (λ (b : ℕ). border_from false false z cs (max b (join_to x j))) e ∙ ap (border_from false false z cs) (join_to_end x j len)
    ∙ plain_from z cs (max len (join_end x j))

from_first : (cs : List Column) (len : ℕ) (b : List ℕ) → length b ≡ len
    → border_from true false 0 cs (len + 1) ≡ length (bottoms_of 0 cs (join_at join_above 0 (widths_of cs) b)) + 1
unfolding border_from bottoms_of join_at widths_of
from_first [] len b e = ap (λ (n : ℕ). n + 1) (sym e)
from_first (c ∷ cs) len b e =
    let j = last_join (bottom_of c) in
    let z = 0 + c.width + 1 in
    let k : max (len + 1) 0 ≡ len + 1 = omega arith in
    let d = join_at join_above 0 (widths_of (c ∷ cs)) b in
    ap (λ (n : ℕ). border_from true true z cs (max n (join_to 0 j))) k
    ∙ ap (border_from true true z cs) (join_to_end 0 j len)
    ∙ joined_from z cs (max len (join_end 0 j))
    ∙ ap (λ (n : ℕ). bottoms_length z cs n + 1) (edges_max z cs len (join_end 0 j) ∙ ap (λ (n : ℕ). max n (join_end 0 j)) (ap (edges_before z cs) (sym e) ∙ sym (joins_length 0 c cs b)))
    ∙ ap (λ (n : ℕ). bottoms_length z cs n + 1) (sym (merge_length d (bottom_of c) 0))
    ∙ ap (λ (n : ℕ). n + 1) (sym (bottoms_length_lem z cs (merge_from_above d (bottom_of c) 0)))

widths_same : (collapse : Bool) (xs : List Slot) → slot_widths xs ≡ widths_of (map (column_of collapse) xs)
unfolding slot_widths widths_of column_of
widths_same collapse [] = refl
widths_same false (x ∷ xs) = ap (λ (l : List ℕ). x.width ∷ l) (widths_same false xs)
widths_same true (x ∷ xs) = ap (λ (l : List ℕ). x.width ∷ l) (widths_same true xs)

-- ONE MORE THAN THE LENGTH OF THE BORDER BELOW A ROW.
pub border_length : (joined collapse : Bool) (total : ℕ) (xs : List Slot)
    → border_from joined false 0 (map (column_of collapse) xs) (total + 1) ≡ length (border_below joined total xs (map (column_of collapse) xs)) + 1
unfolding border_below new_type
border_length true collapse total xs =
    from_first (map (column_of collapse) xs) total (replicate total Horiz) (length-replicate total Horiz)
    ∙ ap (λ (ws : List ℕ). length (bottoms_of 0 (map (column_of collapse) xs) (join_at join_above 0 ws (replicate total Horiz))) + 1) (sym (widths_same collapse xs))
border_length false collapse total xs =
    let cs = map (column_of collapse) xs in
    plain_from 0 cs total ∙ ap (λ (n : ℕ). bottoms_length 0 cs n + 1) (sym (length-replicate total Horiz)) ∙ ap (λ (n : ℕ). n + 1) (sym (bottoms_length_lem 0 cs (replicate total Horiz)))

-- ---- the holes of a row

column_holes_lem : (o : RenderOptions) (n pos : ℕ) (c : Column) → column_holes o n pos c ≡ punch pos (pieces_below o n c)
unfolding punch
column_holes_lem o n pos c = go (ltb 1 c.span)
  where
    go : (t : Bool) → (if t then punch pos (through_of o c (drop n c.lines)) else []) ≡ punch pos (if t then through_of o c (drop n c.lines) else [])
    go true = refl
    go false = refl

-- pieces end past a border where one more than their end is past one more than its length
ends_far : (len pos : ℕ) (ts : List Piece) → ends_past len pos ts ≡ ltb (len + 1) (hole_to pos (cols_of ts))
ends_far len pos [] = sym (le-ltb (len + 1) 0 (omega arith))
ends_far len pos (t ∷ ts) =
    let w = width (t ∷ ts) in
    (not_leb (pos + w) len ∙ same_ltb len (pos + w) (len + 1) (pos + w + 1) (λ y. omega arith) (λ y. omega arith))
  where
    not_leb : (a b : ℕ) → not (leb a b) ≡ ltb b a
    not_leb a b = not_le a b (leb a b) refl

ltb_max : (a b c : ℕ) → ltb a (max b c) ≡ (ltb a b || ltb a c)
ltb_max a b c = go (ltb a b) refl
  where
    go : (t : Bool) → ltb a b ≡ t → ltb a (max b c) ≡ (t || ltb a c)
    go true e = lt-ltb a (max b c) (omega (arith, ltb-true a b e))
    go false e = same_ltb a (max b c) a c (λ y. omega (arith, ltb-false a b e)) (λ y. omega arith)

-- WHETHER A HOLE OF A ROW ENDS PAST A BORDER.
holes_past_from : (o : RenderOptions) (n len x : ℕ) (cs : List Column) (h : ℕ)
    → ltb (len + 1) (holes_from o n x cs h) ≡ (ltb (len + 1) h || any_past len (holes_of o n x cs))
unfolding holes_from holes_of any_past
holes_past_from o n len x [] h = sym (or-false (ltb (len + 1) h))
holes_past_from o n len x (c ∷ cs) h =
    let ts = pieces_below o n c in
    let z = x + c.width + 1 in
    let t = hole_to x (cols_of ts) in
    let p : ltb (len + 1) t ≡ any_past len (column_holes o n x c) =
    sym (ends_far len x ts) ∙ sym (past_width len x ts) ∙ ap (any_past len) (sym (column_holes_lem o n x c)) in
    holes_past_from o n len z cs (max h t)
    ∙ ap (λ (b : Bool). b || any_past len (holes_of o n z cs)) (ltb_max (len + 1) h t)
    ∙ or_three (ltb (len + 1) h) (ltb (len + 1) t) (any_past len (holes_of o n z cs))
    ∙ ap (λ (b : Bool). ltb (len + 1) h || b) (ap (λ (b : Bool). b || any_past len (holes_of o n z cs)) p ∙ sym (past_append len (column_holes o n x c) (holes_of o n z cs)))

pub holes_past : (o : RenderOptions) (n len : ℕ) (cs : List Column) → ltb (len + 1) (holes_from o n 0 cs 0) ≡ any_past len (holes_of o n 0 cs)
holes_past o n len cs = holes_past_from o n len 0 cs 0 ∙ ap (λ (b : Bool). b || any_past len (holes_of o n 0 cs)) (le-ltb (len + 1) 0 (omega arith))

-- WHETHER A ROW HAS HOLES.
any_punched : (pos : ℕ) (ts : List Piece) (hs : List Hole) → any_hole (punch pos ts ++ hs) ≡ (leb 1 (length ts) || any_hole hs)
unfolding punch
any_punched pos [] hs = refl
any_punched pos (t ∷ ts) hs = rw (le-leb 1 (length (t ∷ ts)) (omega arith))

some_hole : (x : ℕ) (ts : List Piece) → ltb 0 (hole_to x (cols_of ts)) ≡ leb 1 (length ts)
some_hole x [] = refl
some_hole x (t ∷ ts) = lt-ltb 0 (x + width (t ∷ ts) + 1) (omega arith) ∙ sym (le-leb 1 (length (t ∷ ts)) (omega arith))

holes_any_from : (o : RenderOptions) (n x : ℕ) (cs : List Column) (h : ℕ) → ltb 0 (holes_from o n x cs h) ≡ (ltb 0 h || any_hole (holes_of o n x cs))
unfolding holes_from holes_of
holes_any_from o n x [] h = sym (or-false (ltb 0 h))
holes_any_from o n x (c ∷ cs) h =
    let ts = pieces_below o n c in
    let z = x + c.width + 1 in
    let t = hole_to x (cols_of ts) in
    holes_any_from o n z cs (max h t)
    ∙ ap (λ (b : Bool). b || any_hole (holes_of o n z cs)) (ltb_max 0 h t ∙ ap (λ (b : Bool). ltb 0 h || b) (some_hole x ts))
    ∙ or_three (ltb 0 h) (leb 1 (length ts)) (any_hole (holes_of o n z cs))
    ∙ ap (λ (b : Bool). ltb 0 h || b) (sym (any_punched x ts (holes_of o n z cs)) ∙ ap (λ (l : List Hole). any_hole (l ++ holes_of o n z cs)) (sym (column_holes_lem o n x c)))

-- The holes of a column, before those of others.
some_cols : (ts : List Piece) → is_some (cols_of ts) ≡ leb 1 (length ts)
some_cols [] = refl
some_cols (t ∷ ts) = sym (le-leb 1 (length (t ∷ ts)) (omega arith))

pub any_first : (o : RenderOptions) (n x : ℕ) (c : Column) (cs : List Column) (r : Maybe ℕ) → r ≡ cols_of (pieces_below o n c)
    → any_hole (holes_of o n x (c ∷ cs)) ≡ (is_some r || any_hole (holes_of o n (x + c.width + 1) cs))
unfolding holes_of
any_first o n x c cs r e =
    let ts = pieces_below o n c in
    let hs = holes_of o n (x + c.width + 1) cs in
    ap (λ (l : List Hole). any_hole (l ++ hs)) (column_holes_lem o n x c) ∙ any_punched x ts hs
    ∙ ap (λ (b : Bool). b || any_hole hs) (sym (some_cols ts) ∙ ap (λ (m : Maybe ℕ). is_some m) (sym e))

pub holes_any : (o : RenderOptions) (n : ℕ) (cs : List Column) → ltb 0 (holes_from o n 0 cs 0) ≡ any_hole (holes_of o n 0 cs)
holes_any o n cs = holes_any_from o n 0 cs 0
