-- Whether the border below a row has holes, in one walk over its seats: none so far, and those of the seats ahead.
-- Assumes nothing.
use mathlib.Core.Path.{◌≡◌, refl, sym, ap, ◌∙◌}
use mathlib.Core.Bool.{Bool, true, false, ◌||◌}
use mathlib.Core.List.{List, map}
use Prim.Native.Nat.{ℕ, ◌+◌}
use Rattle.std.proofs.Common.{Option as Maybe, Some, None}
use Rattle.std.specs.Option.{is_some}
use Rattle.rows.specs.declared.RenderOptions.{RenderOptions}
use Rattle.rows.specs.Columns.{Slot, column_of, holes_of}
use Rattle.slots.specs.declared.seat.Seat.{Seat}
use Rattle.seats.specs.declared.row.Row.{Row}
use Rattle.seats.specs.declared.row.Seats.{Seats}
use Rattle.seats.specs.Row.{RowIs, SeatsLeft, GivesSeats, NextSeat}
use Rattle.row_fit.specs.Seat.{CountsSeat}
use Rattle.row_fit.specs.Row.{any_hole, FindsHoles}
use Rattle.row_fit.proofs.ReachLaws.{any_first}

-- the seats ahead, and that the row has holes if they have some
pub record HolesAhead (o : RenderOptions) (collapse : Bool) (height : ℕ) (left : Seats) (xs : List Slot) (full : ℕ) : Type 0 where
  pub more : List Slot
  pub place : ℕ
  pub goes : SeatsLeft left more full
  pub same : any_hole (holes_of o height 0 (map (column_of collapse) xs)) ≡ any_hole (holes_of o height place (map (column_of collapse) more))

-- no seat so far has holes
pub record NoneYet (row : Row) (collapse : Bool) (height : ℕ) (left : Seats) : Type 0 where
  pub ahead : (o : RenderOptions) (xs : List Slot) (full : ℕ) → RowIs row xs full → HolesAhead o collapse height left xs full

-- Before the first seat.
pub none_start : (row : Row) (collapse : Bool) (height : ℕ) (left : Seats) → GivesSeats row left → NoneYet row collapse height left
none_start row collapse height left g = record { ahead = λ o xs full l. record { more = xs; place = 0; goes = g xs full l; same = refl } }

module _ (row : Row) (collapse : Bool) (height : ℕ) (left rest : Seats) (w : NoneYet row collapse height left) where
  -- ONE SEAT MORE: one that has no hole.
  pub none_on : (seat : Seat) (r : Maybe ℕ) → NextSeat left (Some seat) rest → CountsSeat seat collapse height r → is_some r ≡ false → NoneYet row collapse height rest
  none_on seat r n k e =
      record {
        ahead =
            λ o xs full l.
            let a = w.ahead o xs full l in
            let y = n a.more full a.goes in
            let c = column_of collapse y.one in
            let cs = map (column_of collapse) y.more in
            let x = a.place + c.width + 1 in
            record {
              more = y.more;
              place = x;
              goes = y.goes;
              same =
                  a.same ∙ ap (λ (z : List Slot). any_hole (holes_of o height a.place (map (column_of collapse) z))) y.are
                  ∙ any_first o height a.place c cs r (k o y.one y.seat_is) ∙ ap (λ (b : Bool). b || any_hole (holes_of o height x cs)) e;
            };
      }

  -- One that has.
  pub one_found : (seat : Seat) (r : Maybe ℕ) → NextSeat left (Some seat) rest → CountsSeat seat collapse height r → is_some r ≡ true → FindsHoles row collapse height true
  one_found seat r n k e o xs full l =
      let a = w.ahead o xs full l in
      let y = n a.more full a.goes in
      let c = column_of collapse y.one in
      let cs = map (column_of collapse) y.more in
      sym
      (a.same ∙ ap (λ (z : List Slot). any_hole (holes_of o height a.place (map (column_of collapse) z))) y.are
      ∙ any_first o height a.place c cs r (k o y.one y.seat_is) ∙ ap (λ (b : Bool). b || any_hole (holes_of o height (a.place + c.width + 1) cs)) e)

  -- PAST THE LAST SEAT.
  pub none_end : NextSeat left None rest → FindsHoles row collapse height false
  unfolding holes_of
  none_end n o xs full l =
      let a = w.ahead o xs full l in
      sym (a.same ∙ ap (λ (z : List Slot). any_hole (holes_of o height a.place (map (column_of collapse) z))) (n a.more full a.goes).0)
