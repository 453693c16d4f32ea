-- What each step of a walk over the seats of a row has to show at its returns.
-- Assumes nothing.
use Rattle.std.proofs.Common.{◌≡◌, ℕ, ◌+◌, ◌≤◌, ◌<◌, true, false, List, [], ◌∷◌, length, refl, sym, ap, subst, ◌∙◌, arith, Bor}
use Rattle.std.specs.Prelude.{Option, Some, None, MatchOption}
use mathlib.Core.Option as opt
use mathlib.Core.Logic.{⊎_elim}
use Rattle.characters.proofs.Tests.{lt_or_le}
use Rattle.std.specs.Option.{is_some}
use Rattle.fields.specs.Field.{Raw, broken, raws}
use Rattle.fields.specs.Spans.{Cell as FlatCell, read_cell}
use Rattle.rows.specs.Columns.{Slot}
use Rattle.slots.specs.declared.seat.Seat.{Seat}
use Rattle.slots.specs.declared.iter.Slots.{Slots}
use Rattle.fields.specs.Field.{all}
use Rattle.fields.specs.Spans.{Hanging, readable_hanging}
use Rattle.fields.specs.Places.{OverhangIn}
use Rattle.slots.specs.Seat.{FillingSeat, FirstHanging}
use Rattle.slots.specs.Iter.{there, slots_measure, SlotsLeft, FirstSlot, NextSlot, Brought, Brings, FrontGiven, Gives, PutsBehind}
use Rattle.slots.proofs.CellLaws.{no_cells_first, not_cell_first}
use Rattle.slots.proofs.SlotLaws.{no_cells, Stands, stands_none, stands_before, passes, put_instead, put_behind, all_given}

-- ---- `bring`

-- a front that is there is not none
there_not_none : (front : Option Seat) → true ≡ is_some front → front ≡ None → ⊥
there_not_none None e h = absurd (let y : ◌≡◌ {A = ℕ} 0 1 = cc in omega arith)
there_not_none (Some s) e h = absurd (let y : ◌≡◌ {A = ℕ} 0 1 = cc in omega arith)

pub bring_ready : (st : Slots) → true ≡ is_some st.front → Brings st st
bring_ready st e = record { measure = omega arith; brings = λ left total l. (l, λ n. absurd (there_not_none st.front e n)) }

pub bring_full : (st : Slots) → 4096 ≤ st.pos → Brings st st
bring_full st h = record { measure = omega arith; brings = λ left total l. (l, λ _. no_cells l.cs st.pos h l.few) }

pub bring_none : (st : Slots) → (0 < length st.cells.now → raws st.cells.now ≡ broken ∷ []) → Brings st st
bring_none st h = record { measure = omega arith; brings = λ left total l. (l, λ _. no_cells_first st.cells.now l.cs h l.cs_are) }

pub bring_no_cell : (st : Slots) (rest : List ℕ) (w : Raw) → raws st.cells.now ≡ w ∷ raws rest → ((x : FlatCell) → read_cell w ≡ opt.some x → ⊥)
    → Brings st st
bring_no_cell st rest w e none_of = record { measure = omega arith; brings = λ left total l. (l, λ _. not_cell_first st.cells.now rest w e none_of l.cs l.cs_are) }

-- none is there
pub none_there : (front : Option Seat) → false ≡ is_some front → front ≡ None
none_there None e = refl
none_there (Some s) e = absurd (let y : ◌≡◌ {A = ℕ} 0 1 = cc in omega arith)

-- what is there is not none
pub some_none : {P : Type 0} (s : Seat) → ◌≡◌ {A = Option Seat} (Some s) None → P
some_none s e = absurd (there_not_none (Some s) refl e)

-- ---- `next`

-- what is ahead of a walk is what was ahead at first, with a seat ready if C or K fields are left
pub record Walked (st ahead : Slots) : Type 0 where
  pub less : slots_measure ahead ≤ slots_measure st
  pub same : (left : List Slot) (total : ℕ) → SlotsLeft st left total → Brought ahead left total

pub walk_start : (st ahead : Slots) → Brings st ahead → Walked st ahead
walk_start st ahead b = record { less = b.measure; same = b.brings }

-- what is known of the first V field that is left
abbrev pub Meets : List ℕ → Seat → Bor (List ℕ) → Type 0
Meets hanging seat rest = (vs : List Hanging) → OverhangIn hanging vs → all readable_hanging vs ≡ true → FirstHanging (seat, rest) vs

there_is : (o : Option Seat) (front : Seat) (N : Type 0) (S : Seat → Type 0) → o ≡ Some front → MatchOption o N S → S front
there_is o front N S e m = subst (λ (z : Option Seat). MatchOption z N S) e m

none_is : (o : Option Seat) (N : Type 0) (S : Seat → Type 0) → o ≡ None → MatchOption o N S → N
none_is o N S e m = subst (λ (z : Option Seat). MatchOption z N S) e m

front_first : (st rest : Slots) (front : Seat) (left : List Slot) (total : ℕ) (l : SlotsLeft st left total) → st.front ≡ Some front → FrontGiven st front rest
    → Stands front.pos l.vs → FirstSlot front rest left total
front_first st rest front left total l e g s =
    let p = passes st.cells.now st.pos st.hanging.now st.next st.total st.front front st.back left total l e s in
    record {
      one = p.one;
      more = p.more;
      are = p.are;
      seat_is = p.seat_is;
      goes = rw (g.cells_are, g.pos_is, g.hanging_is, g.next_is, g.total_is, g.front_is, g.back_is) p.goes;
    }

-- The front stands before a V field.
pub walk_passes : (st ahead rest : Slots) (front seat : Seat) (others : Bor (List ℕ)) (r : Option Seat) → Walked st ahead → ahead.front ≡ Some front
    → Meets ahead.hanging.now seat others → front.pos < seat.pos → Gives ahead r rest → NextSlot st r rest
walk_passes st ahead rest front seat others r w e m h g left total l =
    let given = there_is ahead.front front (rest ≡ ahead) (λ seat. FrontGiven ahead seat rest) e g.1 in
    let b = w.same left total l in
    let f = m b.0.vs b.0.vs_are b.0.vs_readable in
    rw (g.0 ∙ e) (front_first ahead rest front left total b.0 e given (stands_before front.pos seat f.one f.more b.0.vs f.are f.seat_is.pos_is h))

-- No V field is left.
pub walk_last : (st ahead rest : Slots) (r : Option Seat) → Walked st ahead
    → ((vs : List Hanging) → OverhangIn ahead.hanging.now vs → all readable_hanging vs ≡ true → vs ≡ []) → Gives ahead r rest → NextSlot st r rest
walk_last st ahead rest r w m g left total l = go ahead.front refl
  where
    b : Brought ahead left total
    b = w.same left total l

    none : b.0.vs ≡ []
    none = m b.0.vs b.0.vs_are b.0.vs_readable

    go : (f : Option Seat) → ahead.front ≡ f → MatchOption r ((left ≡ []) × SlotsLeft rest [] total) (λ seat. FirstSlot seat rest left total)
    go None e =
        let same = none_is ahead.front (rest ≡ ahead) (λ seat. FrontGiven ahead seat rest) e g.1 in
        let end = all_given ahead.cells.now ahead.pos ahead.hanging.now ahead.next ahead.total ahead.front ahead.back left total b.0 e (b.1 e) none in
        rw (g.0 ∙ e) (end, subst (λ (z : Slots). SlotsLeft z [] total) (sym same) (subst (λ (z : List Slot). SlotsLeft ahead z total) end b.0))
    go (Some front) e =
        let given = there_is ahead.front front (rest ≡ ahead) (λ seat. FrontGiven ahead seat rest) e g.1 in
        rw (g.0 ∙ e) (front_first ahead rest front left total b.0 e given (stands_none front.pos b.0.vs none))

-- A V field takes the place of the front.
pub walk_instead : (st ahead r : Slots) (front seat : Seat) (others : Bor (List ℕ)) → Walked st ahead → ahead.front ≡ Some front
    → 3 + length others.now ≤ length ahead.hanging.now → Meets ahead.hanging.now seat others → seat.pos ≤ front.pos
    → r.cells.now ≡ ahead.cells.now → r.pos ≡ ahead.pos → r.hanging.now ≡ others.now → r.next ≡ ahead.next → r.total ≡ ahead.total
    → r.front ≡ Some seat → r.back ≡ ahead.back → Walked st r
walk_instead st ahead r front seat others w e n m h a1 a2 a3 a4 a5 a6 a7 =
    record {
      less = omega (arith, w.less, n, ap length a1, ap length a3, ap there a6, ap there a7, ap there e);
      same =
          λ left total l.
          let b = w.same left total l in
          let f = m b.0.vs b.0.vs_are b.0.vs_readable in (
            rw (a1, a2, a3, a4, a5, a6, a7)
                (put_instead ahead.cells.now ahead.pos ahead.hanging.now others.now ahead.next ahead.total ahead.front front ahead.back seat left total b.0 e f.one f.more f.are f.seat_is
                f.rest_in h),
            λ z. some_none seat (sym a6 ∙ z),
          );
    }

one_there : (o : Option Seat) → there o ≤ 1
one_there None = omega arith
one_there (Some s) = omega arith

behind_there : (ahead p : Slots) (seat : Seat) (rest : List ℕ) → PutsBehind ahead seat rest p → p.front ≡ None → ⊥
behind_there ahead p seat rest h e =
    ⊎_elim (λ lt. none_is p.front ⊥ (FillingSeat ahead.next seat.pos) e (h.with_room lt).0) (λ le. some_none seat (sym (h.at_once le).0 ∙ e)) (lt_or_le ahead.next seat.pos)

-- It stands behind all cells.
pub walk_behind : (st ahead r : Slots) (seat : Seat) (others : Bor (List ℕ)) → Walked st ahead → ahead.front ≡ None
    → 3 + length others.now ≤ length ahead.hanging.now → Meets ahead.hanging.now seat others → PutsBehind ahead seat others.now r → Walked st r
walk_behind st ahead r seat others w e n m h =
    record {
      less = omega (arith, w.less, n, ap length h.cells_are, ap length h.hanging_is, one_there r.front, one_there r.back);
      same =
          λ left total l.
          let b = w.same left total l in
          let f = m b.0.vs b.0.vs_are b.0.vs_readable in (
            rw (h.cells_are, h.pos_is, h.hanging_is, h.next_is, h.total_is)
                (put_behind ahead.cells.now ahead.pos ahead.hanging.now others.now ahead.next ahead.total seat ahead.front ahead.back r.front r.back left total b.0 e f.one f.more f.are
                (b.1 e) f.seat_is f.rest_in h.with_room h.at_once),
            λ z. absurd (behind_there ahead r seat others.now h z),
          );
    }
