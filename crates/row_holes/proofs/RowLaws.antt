-- The walk over the seats of a row: the cuts and the holes so far, and what the seats that are left add.
-- Assumes nothing.
use mathlib.Core.Path.{◌≡◌, refl, sym, ap, subst, ◌∙◌}
use mathlib.Core.Logic.{◌⊎◌, inl, ⊎_elim}
use mathlib.Core.Bool.{Bool, true, false}
use mathlib.Core.List.{List, [], ◌∷◌, ◌++◌, map, append-nil, append_assoc}
use Prim.Native.Nat.{ℕ, ◌+◌, ◌-◌, ◌≤◌, ◌<◌}
use native.Mathlib.Omega.{arith}
use lib.Dec.{leb, ltb}
use lib.ListN.{length, length-append}
use borrow.Author.Tests.{leb-false, le-ltb, lt-ltb}
use Rattle.std.specs.Prelude.{if◌then◌else◌, Option as Maybe, Some, None, Ok, MatchOption}
use Rattle.std.specs.Bool.{then_some}
use Rattle.fields.specs.declared.raw.Field.{Field}
use Rattle.fields.specs.Widths.{piece_width}
use Rattle.fields.proofs.Back.{Every}
use Rattle.rows.specs.declared.RenderOptions.{RenderOptions}
use Rattle.fields.specs.Spans.{Hole, holes_bytes}
use Rattle.borders.specs.BorderHoriz.{cut_for}
use Rattle.rows.specs.Columns.{Slot, Column, column_of, punch, column_holes, holes_of, cut_all}
use Rattle.places.specs.Border.{ReadsBorder}
use Rattle.places.specs.declared.border.Border.{Border}
use Rattle.slots.specs.declared.seat.Seat.{Seat}
use Rattle.seats.specs.Row.{RowIs, SeatsLeft, NextSeat}
use Rattle.seats.specs.declared.row.Row.{Row}
use Rattle.seats.specs.declared.row.Seats.{Seats}
use Rattle.seats.proofs.SurveyLaws.{column_span, column_width}
use Rattle.long_borders.specs.Keeps.{Near, Keeps, Advances}
use Rattle.long_borders.specs.declared.border.BorderHoriz.{BorderHoriz}
use Rattle.row_holes.specs.Pieces.{HolesPut, CutsPieces, PutsPieces}
use Rattle.row_holes.specs.Through.{LaysBorder, FindsThrough, seat_through}
use Rattle.row_holes.specs.Row.{WideSeat, ShortSeat, CutsSeat, CutsHoles, PutsSeat, HolesAre, PutsOne, PutsHoles}
use Rattle.row_holes.proofs.PieceLaws.{put_none, put_then, holes_append}
use Rattle.row_holes.proofs.Pushing.{consume_most}
use Rattle.row_holes.proofs.ThroughLaws.{Stand, border_size, border_bytes, holes_longer}

-- ---- one seat

-- the holes of a seat that hangs on
pub hang_holes : (o : RenderOptions) (collapse : Bool) (height pos : ℕ) (x : Slot) → 1 < x.span
    → column_holes o height pos (column_of collapse x) ≡ punch pos (seat_through o collapse height x)
hang_holes o collapse height pos x h =
    let e : ltb 1 (column_of collapse x).span ≡ true = ap (ltb 1) (column_span collapse x) ∙ lt-ltb 1 x.span h in
    ap (λ (t : Bool). if t then punch pos (seat_through o collapse height x) else []) e

-- another has none
pub no_holes : (o : RenderOptions) (collapse : Bool) (height pos : ℕ) (x : Slot) → x.span < 2 → column_holes o height pos (column_of collapse x) ≡ []
no_holes o collapse height pos x h =
    let e : ltb 1 (column_of collapse x).span ≡ false = ap (ltb 1) (column_span collapse x) ∙ le-ltb 1 x.span (omega (arith, h)) in
    ap (λ (t : Bool). if t then punch pos (seat_through o collapse height x) else []) e

-- The seat does not hang on.
pub cuts_none : (seat : Seat) (b : BorderHoriz) (a : ℕ) (collapse : Bool) (height pos room : ℕ) → seat.span < 2 → CutsSeat b a seat collapse height pos room b
unfolding cut_all
cuts_none seat b a collapse height pos room h o ea x is w s pos₀ near border keeps = rw (no_holes o collapse height pos₀ x (omega (arith, h, is.span_is))) keeps

-- The pieces stand in bytes.
pub cuts_there : (seat : Seat) (b b' : BorderHoriz) (a : ℕ) (collapse : Bool) (height pos room : ℕ) (s : List ℕ) (to : ℕ) → 2 ≤ seat.span → Stand seat collapse height s to a
    → CutsPieces b s to a pos b' → CutsSeat b a seat collapse height pos room b'
cuts_there seat b b' a collapse height pos room s to h stand cuts o ea x is w short pos₀ near border keeps =
    let k : 1 < x.span = omega (arith, h, is.span_is) in
    let f = stand x is (w k) o ea in
    rw (hang_holes o collapse height pos₀ x k, ← f.filled_are) (cuts f.pieces f.reads f.formed pos₀ near border keeps)

-- A place past the buffer.
pub past_room : (end n m : ℕ) → (end < 3) ⊎ (n < end) → 3 ≤ end → n ≡ m → m < end
past_room end n m past h e = ⊎_elim (λ k. omega arith) (λ k. omega arith) past

-- There is no room to lay the border.
pub cuts_long : (seat : Seat) (collapse : Bool) (height : ℕ) (f : Field) → FindsThrough seat collapse height (Some (Ok f)) → (f.letter ≡ 0x4C → ⊥) → 2 ≤ seat.span
    → (r : Border) → ReadsBorder f.letter f.content.now r → (laid : List ℕ) (end : ℕ) → LaysBorder r seat.to laid end
    → (b : BorderHoriz) (a pos room : ℕ) → room < end → CutsSeat b a seat collapse height pos room b
cuts_long seat collapse height f found other h r rb laid end lays b a pos room long o ea x is w short pos₀ near border keeps =
    let e = border_size seat collapse height f found other r rb laid end lays x is o in
    absurd (omega (arith, e, short (omega (arith, h, is.span_is)), long))

-- ---- the walk with the cuts

cut_append : (b : List ℕ) (hs ks : List Hole) → cut_all b (hs ++ ks) ≡ cut_all (cut_all b hs) ks
unfolding cut_all
cut_append b [] ks = refl
cut_append b (h ∷ hs) ks = cut_append (cut_for b h.place (h.place + piece_width h.piece)) hs ks

-- the holes of the first column and of the others
pub holes_first : (o : RenderOptions) (height pos : ℕ) (c : Column) (cs : List Column) (w : ℕ) → c.width ≡ w
    → holes_of o height pos (c ∷ cs) ≡ column_holes o height pos c ++ holes_of o height (pos + w + 1) cs
unfolding holes_of
holes_first o height pos c cs w e = ap (λ (n : ℕ). column_holes o height pos c ++ holes_of o height (pos + n + 1) cs) e

-- the seats that are left, and the border as it is cut so far
pub record CutAhead (o : RenderOptions) (collapse : Bool) (height room : ℕ) (st : Seats) (b : BorderHoriz) (pos : ℕ) (whole : List ℕ) (total : ℕ) : Type 0 where
  pub more : List Slot
  pub place : ℕ
  pub border : List ℕ
  pub goes : SeatsLeft st more total
  pub wide : Every WideSeat more
  pub short : Every (ShortSeat o collapse height room) more
  pub near : Near pos place
  pub keeps : Keeps b border
  pub cut : whole ≡ cut_all border (holes_of o height place (map (column_of collapse) more))

-- of all seats that were left at first; the border keeps its buffer, and the buffers their lengths
pub record Cutting (a : ℕ) (collapse : Bool) (height : ℕ) (first : Seats) (b₀ : BorderHoriz) (laid₀ : List ℕ) (st : Seats) (b : BorderHoriz) (laid : List ℕ) (pos : ℕ) : Type 0 where
  pub low : pos < 8589934592
  pub same_buffer : b.buffer.ghost_name ≡ b₀.buffer.ghost_name
  pub room : length b.buffer.now ≡ length b₀.buffer.now
  pub laid_room : length laid ≡ length laid₀
  pub same : (o : RenderOptions) → o.annotation ≡ a → (xs : List Slot) (total : ℕ) → SeatsLeft first xs total → Every WideSeat xs
      → Every (ShortSeat o collapse height (length laid₀)) xs → (border : List ℕ) → Keeps b₀ border
      → CutAhead o collapse height (length laid₀) st b pos (cut_all border (holes_of o height 0 (map (column_of collapse) xs))) total

pub cut_start : (a : ℕ) (collapse : Bool) (height : ℕ) (first : Seats) (b : BorderHoriz) (laid : List ℕ) → Cutting a collapse height first b laid first b laid 0
cut_start a collapse height first b laid =
    record {
      low = omega arith;
      same_buffer = refl;
      room = refl;
      laid_room = refl;
      same = λ o ea xs total l w s border k. record { more = xs; place = 0; border = border; goes = l; wide = w; short = s; near = inl refl; keeps = k; cut = refl };
    }

-- ONE SEAT MORE.
pub cut_on : (a : ℕ) (collapse : Bool) (height : ℕ) (first : Seats) (b₀ : BorderHoriz) (laid₀ : List ℕ) (st : Seats) (b : BorderHoriz) (laid : List ℕ) (pos : ℕ)
    (seat : Seat) (rest : Seats) (b' : BorderHoriz) (laid' : List ℕ) (pos' : ℕ)
    → Cutting a collapse height first b₀ laid₀ st b laid pos → NextSeat st (Some seat) rest
    → b'.buffer.ghost_name ≡ b.buffer.ghost_name → length b'.buffer.now ≡ length b.buffer.now → length laid' ≡ length laid → CutsSeat b a seat collapse height pos (length laid) b'
    → pos' < 8589934592 → Advances pos (seat.width + 1) pos' → Cutting a collapse height first b₀ laid₀ rest b' laid' pos'
cut_on a collapse height first b₀ laid₀ st b laid pos seat rest b' laid' pos' v next same_buffer room laid_room cuts low adv =
    record {
      low = low;
      same_buffer = same_buffer ∙ v.same_buffer;
      room = room ∙ v.room;
      laid_room = laid_room ∙ v.laid_room;
      same = λ o ea xs total y w s border k. go o ea _ total (v.same o ea xs total y w s border k);
    }
  where
    go : (o : RenderOptions) → o.annotation ≡ a → (all : List ℕ) (total : ℕ) → CutAhead o collapse height (length laid₀) st b pos all total
        → CutAhead o collapse height (length laid₀) rest b' pos' all total
    go o ea all total h =
        let y = next h.more total h.goes in
        let x = y.one in
        let c = column_of collapse x in
        let cs = map (column_of collapse) y.more in
        let w : Every WideSeat (x ∷ y.more) = subst (Every WideSeat) y.are h.wide in
        let s : Every (ShortSeat o collapse height (length laid₀)) (x ∷ y.more) = subst (Every (ShortSeat o collapse height (length laid₀))) y.are h.short in
        let cw : c.width ≡ seat.width = column_width collapse x ∙ y.seat_is.width_is in
        let e : h.place + (seat.width + 1) ≡ h.place + seat.width + 1 = omega arith in
        let fit : ShortSeat o collapse height (length laid) x = subst (λ (m : ℕ). ShortSeat o collapse height m x) (sym v.laid_room) s.0 in
        record {
          more = y.more;
          place = h.place + seat.width + 1;
          border = cut_all h.border (column_holes o height h.place c);
          goes = y.goes;
          wide = w.1;
          short = s.1;
          near = subst (Near pos') e (adv h.place h.near);
          keeps = cuts o ea x y.seat_is w.0 fit h.place h.near h.border h.keeps;
          cut = h.cut ∙ ap (λ (z : List Slot). cut_all h.border (holes_of o height h.place (map (column_of collapse) z))) y.are
              ∙ ap (cut_all h.border) (holes_first o height h.place c cs seat.width cw)
              ∙ cut_append h.border (column_holes o height h.place c) (holes_of o height (h.place + seat.width + 1) cs);
        }

-- PAST THE LAST SEAT.
pub cut_end : (a : ℕ) (collapse : Bool) (height : ℕ) (first : Seats) (b₀ : BorderHoriz) (laid₀ : List ℕ) (st : Seats) (b : BorderHoriz) (laid : List ℕ) (pos : ℕ) (rest : Seats) (row : Row)
    → Cutting a collapse height first b₀ laid₀ st b laid pos → NextSeat st None rest → ((xs : List Slot) (total : ℕ) → RowIs row xs total → SeatsLeft first xs total)
    → CutsHoles b₀ a row collapse height (length laid₀) b
unfolding holes_of cut_all
cut_end a collapse height first b₀ laid₀ st b laid pos rest row v next begins o ea xs total y w s border k =
    let h = v.same o ea xs total (begins xs total y) w s border k in
    let e : h.more ≡ [] = (next h.more total h.goes).0 in
    let q : cut_all border (holes_of o height 0 (map (column_of collapse) xs)) ≡ h.border =
    h.cut ∙ ap (λ (z : List Slot). cut_all h.border (holes_of o height h.place (map (column_of collapse) z))) e in
    subst (Keeps b) (sym q) h.keeps

-- ---- one seat as holes

-- The pieces stand in bytes.
pub puts_there : (seat : Seat) (out out' : List ℕ) (place a : ℕ) (collapse : Bool) (height pos room : ℕ) (s : List ℕ) (to r : ℕ) → Stand seat collapse height s to a
    → PutsPieces out place s to a pos out' r → PutsSeat out place a seat collapse height pos room out' (Some r)
puts_there seat out out' place a collapse height pos room s to r stand puts x is w o ea pos₀ near =
    let f = stand x is w o ea in
    rw (← f.filled_are) (puts f.pieces f.reads f.formed pos₀ near)

-- There is no room to lay the border.
pub puts_long : (seat : Seat) (collapse : Bool) (height : ℕ) (f : Field) → FindsThrough seat collapse height (Some (Ok f)) → (f.letter ≡ 0x4C → ⊥)
    → (r : Border) → ReadsBorder f.letter f.content.now r → (laid : List ℕ) (end : ℕ) → LaysBorder r seat.to laid end
    → (out out' : List ℕ) (place a pos room : ℕ) (q : Maybe ℕ) → room < end → q ≡ None → PutsSeat out place a seat collapse height pos room out' q
puts_long seat collapse height f found other r rb laid end lays out out' place a pos room q long none x is w o ea pos₀ near =
    rw none (omega (arith, border_bytes seat collapse height f found other r rb laid end lays x is o, long, holes_longer pos₀ (seat_through o collapse height x)))

-- The seat does not hang on.
pub puts_none : (seat : Seat) (out : List ℕ) (base place a : ℕ) (collapse : Bool) (height pos room : ℕ) → seat.span < 2
    → PutsOne out base place a seat collapse height pos room out (Some place)
puts_none seat out base place a collapse height pos room h big o ea x is w pos₀ near =
    rw (no_holes o collapse height pos₀ x (omega (arith, h, is.span_is))) (put_none out place)

pub puts_one : (seat : Seat) (out out' : List ℕ) (base place a : ℕ) (collapse : Bool) (height pos room : ℕ) (r : Maybe ℕ) → 2 ≤ seat.span
    → PutsSeat out place a seat collapse height pos room out' r → PutsOne out base place a seat collapse height pos room out' r
puts_one seat out out' base place a collapse height pos room r h put big o ea x is w pos₀ near =
    let k : 1 < x.span = omega (arith, h, is.span_is) in
    rw (hang_holes o collapse height pos₀ x k) (go r (put x is (w k) o ea pos₀ near))
  where
    hs : List Hole
    hs = punch pos₀ (seat_through o collapse height x)

    go : (r : Maybe ℕ) → MatchOption r (room < 3 + length (holes_bytes hs)) (λ at. HolesPut out place hs out' at) → HolesAre out base place hs out' r
    go None p = omega (arith, p, big)
    go (Some at) p = p

-- ---- the walk with the holes

-- the seats that are left, and the holes put so far
pub record PutAhead (o : RenderOptions) (collapse : Bool) (height : ℕ) (st : Seats) (out₀ : List ℕ) (at₀ : ℕ) (out : List ℕ) (at pos : ℕ) (whole : List Hole) (total : ℕ) : Type 0 where
  pub more : List Slot
  pub place : ℕ
  pub done : List Hole
  pub goes : SeatsLeft st more total
  pub wide : Every WideSeat more
  pub near : Near pos place
  pub put : HolesPut out₀ at₀ done out at
  pub are : whole ≡ done ++ holes_of o height place (map (column_of collapse) more)

-- of all seats that were left at first; the buffers keep their lengths
pub record Putting (base a : ℕ) (collapse : Bool) (height : ℕ) (first : Seats) (out₀ : List ℕ) (at₀ : ℕ) (laid₀ : List ℕ) (st : Seats) (out : List ℕ) (at : ℕ) (laid : List ℕ) (pos : ℕ) : Type 0 where
  pub low : pos < 8589934592
  pub size : length out ≡ length out₀
  pub laid_room : length laid ≡ length laid₀
  pub on : base ≤ at
  pub same : 65538 ≤ length laid₀ → (o : RenderOptions) → o.annotation ≡ a → (xs : List Slot) (total : ℕ) → SeatsLeft first xs total → Every WideSeat xs
      → PutAhead o collapse height st out₀ at₀ out at pos (holes_of o height 0 (map (column_of collapse) xs)) total

pub put_start : (base a : ℕ) (collapse : Bool) (height : ℕ) (first : Seats) (out : List ℕ) (at : ℕ) (laid : List ℕ) → base ≤ at
    → Putting base a collapse height first out at laid first out at laid 0
put_start base a collapse height first out at laid h =
    record {
      low = omega arith;
      size = refl;
      laid_room = refl;
      on = h;
      same = λ big o ea xs total l w. record { more = xs; place = 0; done = []; goes = l; wide = w; near = inl refl; put = put_none out at; are = refl };
    }

-- the holes of the first seat ahead and of the others
ahead_first : (o : RenderOptions) (collapse : Bool) (height place : ℕ) (done all : List Hole) (more : List Slot) (x : Slot) (xs : List Slot) (w : ℕ)
    → all ≡ done ++ holes_of o height place (map (column_of collapse) more) → more ≡ x ∷ xs → x.width ≡ w
    → all ≡ (done ++ column_holes o height place (column_of collapse x)) ++ holes_of o height (place + w + 1) (map (column_of collapse) xs)
ahead_first o collapse height place done all more x xs w e are ew =
    e ∙ ap (λ (z : List Slot). done ++ holes_of o height place (map (column_of collapse) z)) are
    ∙ ap (λ (z : List Hole). done ++ z) (holes_first o height place (column_of collapse x) (map (column_of collapse) xs) w (column_width collapse x ∙ ew))
    ∙ sym (append_assoc done (column_holes o height place (column_of collapse x)) (holes_of o height (place + w + 1) (map (column_of collapse) xs)))

-- ONE SEAT MORE.
pub put_on : (base a : ℕ) (collapse : Bool) (height : ℕ) (first : Seats) (out₀ : List ℕ) (at₀ : ℕ) (laid₀ : List ℕ) (st : Seats) (out : List ℕ) (at : ℕ) (laid : List ℕ) (pos : ℕ)
    (seat : Seat) (rest : Seats) (out' : List ℕ) (at' : ℕ) (laid' : List ℕ) (pos' : ℕ)
    → Putting base a collapse height first out₀ at₀ laid₀ st out at laid pos → NextSeat st (Some seat) rest
    → length out' ≡ length out → length laid' ≡ length laid → base ≤ at' → PutsOne out base at a seat collapse height pos (length laid) out' (Some at')
    → pos' < 8589934592 → Advances pos (seat.width + 1) pos' → Putting base a collapse height first out₀ at₀ laid₀ rest out' at' laid' pos'
put_on base a collapse height first out₀ at₀ laid₀ st out at laid pos seat rest out' at' laid' pos' v next size laid_room on puts low adv =
    record {
      low = low;
      size = size ∙ v.size;
      laid_room = laid_room ∙ v.laid_room;
      on = on;
      same = λ big o ea xs total y w. go big o ea _ total (v.same big o ea xs total y w);
    }
  where
    go : 65538 ≤ length laid₀ → (o : RenderOptions) → o.annotation ≡ a → (all : List Hole) (total : ℕ) → PutAhead o collapse height st out₀ at₀ out at pos all total
        → PutAhead o collapse height rest out₀ at₀ out' at' pos' all total
    go big o ea all total h =
        let y = next h.more total h.goes in
        let x = y.one in
        let hs = column_holes o height h.place (column_of collapse x) in
        let w : Every WideSeat (x ∷ y.more) = subst (Every WideSeat) y.are h.wide in
        let e : h.place + (seat.width + 1) ≡ h.place + seat.width + 1 = omega arith in
        record {
          more = y.more;
          place = h.place + seat.width + 1;
          done = h.done ++ hs;
          goes = y.goes;
          wide = w.1;
          near = subst (Near pos') e (adv h.place h.near);
          put = put_then h.put (puts (omega (arith, big, v.laid_room)) o ea x y.seat_is w.0 h.place h.near);
          are = ahead_first o collapse height h.place h.done all h.more x y.more seat.width h.are y.are y.seat_is.width_is;
        }

-- the holes of a part are too long, and so are all
all_long : (base at₀ at : ℕ) (done hs ks all : List Hole) → at ≡ at₀ + length (holes_bytes done) → all ≡ (done ++ hs) ++ ks → 65535 < (at - base) + length (holes_bytes hs)
    → 65535 < (at₀ - base) + length (holes_bytes all)
all_long base at₀ at done hs ks all e are h =
    let p : length (holes_bytes all) ≡ length (holes_bytes (done ++ hs)) + length (holes_bytes ks) =
    ap (λ (z : List Hole). length (holes_bytes z)) are ∙ ap length (holes_append (done ++ hs) ks) ∙ length-append (holes_bytes (done ++ hs)) (holes_bytes ks) in
    let q : length (holes_bytes (done ++ hs)) ≡ length (holes_bytes done) + length (holes_bytes hs) =
    ap length (holes_append done hs) ∙ length-append (holes_bytes done) (holes_bytes hs) in
    omega (arith, e, p, q, h)

-- A SEAT IS TOO LONG.
pub put_past : (base a : ℕ) (collapse : Bool) (height : ℕ) (first : Seats) (out₀ : List ℕ) (at₀ : ℕ) (laid₀ : List ℕ) (st : Seats) (out : List ℕ) (at : ℕ) (laid : List ℕ) (pos : ℕ)
    (seat : Seat) (rest : Seats) (out' : List ℕ) (row : Row) (r : Maybe ℕ)
    → Putting base a collapse height first out₀ at₀ laid₀ st out at laid pos → NextSeat st (Some seat) rest → PutsOne out base at a seat collapse height pos (length laid) out' None
    → ((xs : List Slot) (total : ℕ) → RowIs row xs total → SeatsLeft first xs total) → r ≡ None → PutsHoles out₀ base at₀ a row collapse height (length laid₀) out' r
put_past base a collapse height first out₀ at₀ laid₀ st out at laid pos seat rest out' row r v next puts begins none big o ea xs total l w =
    let h = v.same big o ea xs total (begins xs total l) w in
    let y = next h.more total h.goes in
    let x = y.one in
    let hs = column_holes o height h.place (column_of collapse x) in
    let wide : Every WideSeat (x ∷ y.more) = subst (Every WideSeat) y.are h.wide in
    let p : 65535 < (at - base) + length (holes_bytes hs) = puts (omega (arith, big, v.laid_room)) o ea x y.seat_is wide.0 h.place h.near in
    rw none
    (all_long base at₀ at h.done hs (holes_of o height (h.place + seat.width + 1) (map (column_of collapse) y.more)) _ h.put.size
    (ahead_first o collapse height h.place h.done _ h.more x y.more seat.width h.are y.are y.seat_is.width_is) p)

-- PAST THE LAST SEAT: the holes, or none where the content is too long.
module _ (base a : ℕ) (collapse : Bool) (height : ℕ) (first : Seats) (out₀ : List ℕ) (at₀ : ℕ) (laid₀ : List ℕ) (st : Seats) (out : List ℕ) (at : ℕ) (laid : List ℕ) (pos : ℕ) (rest : Seats) (row : Row)
    (v : Putting base a collapse height first out₀ at₀ laid₀ st out at laid pos) (next : NextSeat st None rest)
    (begins : (xs : List Slot) (total : ℕ) → RowIs row xs total → SeatsLeft first xs total) where
  all_put : 65538 ≤ length laid₀ → (o : RenderOptions) → o.annotation ≡ a → (xs : List Slot) (total : ℕ) → RowIs row xs total → Every WideSeat xs
      → HolesPut out₀ at₀ (holes_of o height 0 (map (column_of collapse) xs)) out at
  unfolding holes_of
  all_put big o ea xs total l w =
      let h = v.same big o ea xs total (begins xs total l) w in
      let q : holes_of o height 0 (map (column_of collapse) xs) ≡ h.done =
      h.are ∙ ap (λ (z : List Slot). h.done ++ holes_of o height h.place (map (column_of collapse) z)) (next h.more total h.goes).0 ∙ append-nil h.done in
      rw q h.put

  pub put_end : (r : Maybe ℕ) → r ≡ then_some (leb (at - base) 65535) at → PutsHoles out₀ base at₀ a row collapse height (length laid₀) out r
  put_end r e big o ea xs total l w = rw e (go (leb (at - base) 65535) refl)
    where
      hs : List Hole
      hs = holes_of o height 0 (map (column_of collapse) xs)

      put : HolesPut out₀ at₀ hs out at
      put = all_put big o ea xs total l w

      go : (b : Bool) → leb (at - base) 65535 ≡ b → HolesAre out₀ base at₀ hs out (then_some b at)
      go true k = put
      go false k = omega (arith, put.size, leb-false (at - base) 65535 k)

-- Where a field holds all holes, each line is short enough to be laid: the cuts are made.
pub seats_short : (o : RenderOptions) (collapse : Bool) (height pos : ℕ) (xs : List Slot) → length (holes_bytes (holes_of o height pos (map (column_of collapse) xs))) ≤ 65535
    → Every (ShortSeat o collapse height 65538) xs
seats_short o collapse height pos [] h = tt
seats_short o collapse height pos (x ∷ xs) h =
    let w = (column_of collapse x).width in
    let hs = column_holes o height pos (column_of collapse x) in
    let ks = holes_of o height (pos + w + 1) (map (column_of collapse) xs) in
    let e : length (holes_bytes (holes_of o height pos (map (column_of collapse) (x ∷ xs)))) ≡ length (holes_bytes hs) + length (holes_bytes ks) =
    ap (λ (z : List Hole). length (holes_bytes z)) (holes_first o height pos (column_of collapse x) (map (column_of collapse) xs) w refl)
    ∙ ap length (holes_append hs ks) ∙ length-append (holes_bytes hs) (holes_bytes ks) in (
      λ k.
          let l = holes_longer pos (seat_through o collapse height x) in
          let m = consume_most (seat_through o collapse height x) in
          let p : length (holes_bytes hs) ≡ length (holes_bytes (punch pos (seat_through o collapse height x))) =
          ap (λ (z : List Hole). length (holes_bytes z)) (hang_holes o collapse height pos x k) in
          omega (arith, l, m, p, e, h),
      seats_short o collapse height (pos + w + 1) xs (omega (arith, e, h)),
    )
