-- Refusal 10 of a row in one walk over its seats: what was found so far, and what the seats ahead add.
-- Assumes nothing.
use mathlib.Core.Path.{◌≡◌, refl, sym, ap, ap₂, ◌∙◌}
use mathlib.Core.Bool.{Bool, true, false, true≢false, ◌||◌}
use mathlib.Core.List.{List, [], ◌∷◌, map}
use Prim.Native.Nat.{ℕ, ◌+◌, max}
use lib.Dec.{ltb}
use lib.ListN.{length}
use Rattle.std.proofs.Common.{Option as Maybe, Some, None, Result, Ok, Err}
use Rattle.std.specs.Result.{IsErr, IsErrAnd}
use Rattle.fields.specs.declared.refusal.Refusal.{Refusal}
use Rattle.fields.specs.declared.refusal.Refusal.TheVariants.{OverhangMisfit}
use Rattle.rows.specs.declared.RenderOptions.{RenderOptions}
use Rattle.rows.specs.Columns.{Slot, Column, column_of, bottom_of, columns_height, column_misfit, any_misfit, any_past, holes_of, border_below, row_misfit}
use Rattle.rows.proofs.Columns.{misfit_columns}
use Rattle.holes.specs.Cols.{cols_of}
use Rattle.slots.specs.declared.seat.Seat.{Seat}
use Rattle.seats.specs.declared.row.Row.{Row}
use Rattle.seats.specs.declared.row.Seats.{Seats}
use Rattle.seats.specs.Row.{RowIs, SeatsLeft, GivesSeats, NextSeat}
use Rattle.seats.proofs.SurveyLaws.{column_width}
use Rattle.row_fit.specs.declared.reach.Reach.{Reach}
use Rattle.row_fit.specs.declared.reach.SeatFit.{SeatFit}
use Rattle.row_fit.specs.Seat.{last_join, pieces_below, FitsSeat}
use Rattle.row_fit.specs.Reach.{edge_to, join_to, hole_to, border_from, holes_from, ReachIs, Reaches}
use Rattle.row_fit.specs.Row.{FindsRowFit}
use Rattle.row_fit.proofs.ReachLaws.{border_length, holes_past, holes_any}

-- ---- the walk

-- the seats ahead, and what they add to what was found so far
pub record Ahead (o : RenderOptions) (collapse joined : Bool) (total height : ℕ) (left : Seats) (edge : Bool) (r : Reach) (xs : List Slot) (full : ℕ) : Type 0 where
  pub more : List Slot
  pub place : ℕ
  pub border : ℕ
  pub holes : ℕ
  pub goes : SeatsLeft left more full
  pub reach : ReachIs r place border holes
  pub misfits : any_misfit total height (map (column_of collapse) xs) ≡ any_misfit total height (map (column_of collapse) more)
  pub borders : border_from joined false 0 (map (column_of collapse) xs) (total + 1) ≡ border_from joined edge place (map (column_of collapse) more) border
  pub punched : holes_from o height 0 (map (column_of collapse) xs) 0 ≡ holes_from o height place (map (column_of collapse) more) holes

-- of all seats of a row, none of which is misfit so far
pub record Seen (row : Row) (collapse joined : Bool) (total height : ℕ) (left : Seats) (edge : Bool) (r : Reach) : Type 0 where
  pub same : (o : RenderOptions) (xs : List Slot) (full : ℕ) → RowIs row xs full → Ahead o collapse joined total height left edge r xs full

-- Before the first seat.
pub seen_start : (row : Row) (collapse joined : Bool) (total height : ℕ) (left : Seats) (r : Reach) → GivesSeats row left → ReachIs r 0 (total + 1) 0
    → Seen row collapse joined total height left false r
seen_start row collapse joined total height left r g k =
    record {
      same =
          λ o xs full l.
          record { more = xs; place = 0; border = total + 1; holes = 0; goes = g xs full l; reach = k; misfits = refl; borders = refl; punched = refl };
    }

-- what one column adds
misfit_first : (total height : ℕ) (c : Column) (cs : List Column) (t : Bool) → column_misfit total height c ≡ t
    → any_misfit total height (c ∷ cs) ≡ (t || any_misfit total height cs)
unfolding any_misfit
misfit_first total height c cs t e = ap (λ (b : Bool). b || any_misfit total height cs) e

border_first : (joined edge : Bool) (x : ℕ) (c : Column) (cs : List Column) (b w : ℕ) (j : Maybe ℕ) → c.width ≡ w → j ≡ last_join (bottom_of c)
    → border_from joined edge x (c ∷ cs) b ≡ border_from joined joined (x + w + 1) cs (max (max b (edge_to x edge)) (join_to x j))
unfolding border_from
border_first joined edge x c cs b w j e f =
    ap₂ (λ (n : ℕ) (k : Maybe ℕ). border_from joined joined (x + n + 1) cs (max (max b (edge_to x edge)) (join_to x k))) e (sym f)

holes_first : (o : RenderOptions) (height x : ℕ) (c : Column) (cs : List Column) (h w : ℕ) (cols : Maybe ℕ) → c.width ≡ w → cols ≡ cols_of (pieces_below o height c)
    → holes_from o height x (c ∷ cs) h ≡ holes_from o height (x + w + 1) cs (max h (hole_to x cols))
unfolding holes_from
holes_first o height x c cs h w cols e f = ap₂ (λ (n : ℕ) (k : Maybe ℕ). holes_from o height (x + n + 1) cs (max h (hole_to x k))) e (sym f)

-- the first of the seats ahead
ahead_on : (o : RenderOptions) (collapse joined : Bool) (total height : ℕ) (left rest : Seats) (edge : Bool) (r r' : Reach) (xs : List Slot) (full : ℕ) (seat : Seat)
    (fit : SeatFit) → NextSeat left (Some seat) rest → FitsSeat seat collapse total height (Ok fit) → Reaches r edge fit seat.width r'
    → Ahead o collapse joined total height left edge r xs full → Ahead o collapse joined total height rest joined r' xs full
ahead_on o collapse joined total height left rest edge r r' xs full seat fit n f k a =
    let y = n a.more full a.goes in
    let i = f o y.one y.seat_is in
    let c = column_of collapse y.one in
    let cs = map (column_of collapse) y.more in
    let w : c.width ≡ seat.width = column_width collapse y.one ∙ y.seat_is.width_is in
    let l : map (column_of collapse) a.more ≡ c ∷ cs = ap (map (column_of collapse)) y.are in
    let x = a.place in
    let b = a.border in
    let h = a.holes in
    record {
      more = y.more;
      place = x + seat.width + 1;
      border = max (max b (edge_to x edge)) (join_to x fit.join);
      holes = max h (hole_to x fit.through);
      goes = y.goes;
      reach = k x b h a.reach;
      misfits = a.misfits ∙ ap (any_misfit total height) l ∙ misfit_first total height c cs false i.0;
      borders = a.borders ∙ ap (λ (z : List Column). border_from joined edge x z b) l ∙ border_first joined edge x c cs b seat.width fit.join w i.1.join_is;
      punched = a.punched ∙ ap (λ (z : List Column). holes_from o height x z h) l ∙ holes_first o height x c cs h seat.width fit.through w i.1.through_is;
    }

-- ONE SEAT MORE.
pub seen_on : (row : Row) (collapse joined : Bool) (total height : ℕ) (left rest : Seats) (edge : Bool) (r r' : Reach) (seat : Seat) (fit : SeatFit)
    → Seen row collapse joined total height left edge r → NextSeat left (Some seat) rest → FitsSeat seat collapse total height (Ok fit) → Reaches r edge fit seat.width r'
    → Seen row collapse joined total height rest joined r'
seen_on row collapse joined total height left rest edge r r' seat fit w n f k =
    record { same = λ o xs full l. ahead_on o collapse joined total height left rest edge r r' xs full seat fit n f k (w.same o xs full l) }

-- refusal 10 of the row, at its height
row_misfit_lem : (o : RenderOptions) (total height : ℕ) (cs : List Column) (b : List ℕ) → height ≡ columns_height cs
    → row_misfit o total cs b ≡ (any_misfit total height cs || any_past (length b) (holes_of o height 0 cs))
unfolding row_misfit
row_misfit_lem o total height cs b e =
    ap (λ (t : Bool). t || any_past (length b) (holes_of o (columns_height cs) 0 cs)) (misfit_columns total (columns_height cs) cs)
    ∙ ap (λ (n : ℕ). any_misfit total n cs || any_past (length b) (holes_of o n 0 cs)) (sym e)

-- a seat that is misfit
misfit_seen : (row : Row) (collapse joined : Bool) (total height : ℕ) (left rest : Seats) (edge : Bool) (r : Reach) (seat : Seat) (e : Refusal)
    → Seen row collapse joined total height left edge r → NextSeat left (Some seat) rest → FitsSeat seat collapse total height (Err e)
    → FindsRowFit row collapse joined total height (Err e)
misfit_seen row collapse joined total height left rest edge r seat e w n f o xs full l k =
    let cs = map (column_of collapse) xs in
    let below = border_below joined total xs cs in
    let a = w.same o xs full l in
    let y = n a.more full a.goes in
    let i = f o y.one y.seat_is in
    let m : any_misfit total height cs ≡ true =
    a.misfits ∙ ap (λ (z : List Slot). any_misfit total height (map (column_of collapse) z)) y.are
    ∙ misfit_first total height (column_of collapse y.one) (map (column_of collapse) y.more) true i.0 in
    (row_misfit_lem o total height cs below k ∙ ap (λ (t : Bool). t || any_past (length below) (holes_of o height 0 cs)) m, i.1)

-- A SEAT THAT IS MISFIT: its refusal is handed on.
pub seen_misfit : (row : Row) (collapse joined : Bool) (total height : ℕ) (left rest : Seats) (edge : Bool) (r : Reach) (seat : Seat) (e : Refusal) (result : Result Bool Refusal)
    → Seen row collapse joined total height left edge r → NextSeat left (Some seat) rest → FitsSeat seat collapse total height (Err e)
    → IsErr result × IsErrAnd result (λ x. x ≡ e) → FindsRowFit row collapse joined total height result
seen_misfit row collapse joined total height left rest edge r seat e (Ok holes) w n f (i, h) = absurd (true≢false (sym i))
seen_misfit row collapse joined total height left rest edge r seat e (Err x) w n f (i, h) = rw h (misfit_seen row collapse joined total height left rest edge r seat e w n f)

-- all columns are passed
record Passed (o : RenderOptions) (joined : Bool) (total height : ℕ) (cs : List Column) (r : Reach) : Type 0 where
  misfits : any_misfit total height cs ≡ false
  over_is : r.over ≡ ltb (border_from joined false 0 cs (total + 1)) (holes_from o height 0 cs 0)
  any_is : r.any ≡ ltb 0 (holes_from o height 0 cs 0)

all_passed : (o : RenderOptions) (collapse joined : Bool) (total height : ℕ) (left : Seats) (edge : Bool) (r : Reach) (xs : List Slot) (full : ℕ)
    (a : Ahead o collapse joined total height left edge r xs full) → a.more ≡ [] → Passed o joined total height (map (column_of collapse) xs) r
unfolding any_misfit border_from holes_from
all_passed o collapse joined total height left edge r xs full a e =
    let l : map (column_of collapse) a.more ≡ [] = ap (map (column_of collapse)) e in
    let b : border_from joined false 0 (map (column_of collapse) xs) (total + 1) ≡ a.border =
    a.borders ∙ ap (λ (z : List Column). border_from joined edge a.place z a.border) l in
    let h : holes_from o height 0 (map (column_of collapse) xs) 0 ≡ a.holes = a.punched ∙ ap (λ (z : List Column). holes_from o height a.place z a.holes) l in
    record {
      misfits = a.misfits ∙ ap (any_misfit total height) l;
      over_is = a.reach.over_is ∙ ap₂ ltb (sym b) (sym h);
      any_is = a.reach.any_is ∙ ap (ltb 0) (sym h);
    }

-- PAST THE LAST SEAT.
module _ (row : Row) (collapse joined : Bool) (total height : ℕ) (left rest : Seats) (edge : Bool) (r : Reach) (w : Seen row collapse joined total height left edge r)
    (n : NextSeat left None rest) where
  found_over : (o : RenderOptions) (xs : List Slot) (full : ℕ) → RowIs row xs full → height ≡ columns_height (map (column_of collapse) xs)
      → row_misfit o total (map (column_of collapse) xs) (border_below joined total xs (map (column_of collapse) xs)) ≡ r.over
  found_over o xs full l k =
      let cs = map (column_of collapse) xs in
      let below = border_below joined total xs cs in
      let a = w.same o xs full l in
      let p = all_passed o collapse joined total height left edge r xs full a (n a.more full a.goes).0 in
      let v : r.over ≡ any_past (length below) (holes_of o height 0 cs) =
      p.over_is ∙ ap (λ (z : ℕ). ltb z (holes_from o height 0 cs 0)) (border_length joined collapse total xs) ∙ holes_past o height (length below) cs in
      row_misfit_lem o total height cs below k ∙ ap₂ (λ (s t : Bool). s || t) p.misfits (sym v)

  pub seen_over : r.over ≡ true → FindsRowFit row collapse joined total height (Err OverhangMisfit)
  seen_over e o xs full l k = (found_over o xs full l k ∙ e, refl)

  pub seen_end : r.over ≡ false → FindsRowFit row collapse joined total height (Ok r.any)
  seen_end e o xs full l k =
      let a = w.same o xs full l in
      let p = all_passed o collapse joined total height left edge r xs full a (n a.more full a.goes).0 in
      (found_over o xs full l k ∙ e, p.any_is ∙ holes_any o height (map (column_of collapse) xs))
