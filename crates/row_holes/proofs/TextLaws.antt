-- The border with its holes as text: the walk over the holes of one seat, and over those of all seats of a row.
-- Assumes nothing.
use mathlib.Core.Path.{◌≡◌, refl, sym, ap, subst, ◌∙◌}
use mathlib.Core.Bool.{Bool, true, false, not}
use mathlib.Core.Logic.{inl, ⊎_elim}
use mathlib.Core.List.{List, [], ◌∷◌, ◌++◌, map, append-nil}
use Prim.Native.Nat.{ℕ, ◌+◌, ◌-◌, ◌≤◌, ◌<◌, min}
use native.Mathlib.Omega.{arith}
use lib.Dec.{leb, ltb}
use lib.ListN.{length, drop, replicate, drop_of_length-le}
use borrow.Author.Tests.{leb-true, leb-false, lt-ltb, le-ltb, not-false}
use Rattle.std.specs.Prelude.{Option as Maybe, Some, None, Ok}
use Rattle.std.specs.Option.{is_some}
use Rattle.characters.proofs.Tests.{by_if, lt_or_le, and_left, and_right, clash, or_left, or_right}
use Rattle.fields.specs.Field.{Raw, part, all}
use Rattle.fields.specs.List.{whole_of}
use Rattle.fields.specs.declared.raw.Field.{Field}
use Rattle.fields.specs.Sheet.{Piece, str}
use Rattle.fields.specs.Widths.{piece_width, width}
use Rattle.fields.proofs.Back.{Every}
use Rattle.fields.proofs.Texts.{rest}
use Rattle.borders.specs.BorderHoriz.{stretch_to, to_string, up_to_hole, at_hole, into_tagged_from, border_into_tagged_line}
use Rattle.rows.specs.declared.RenderOptions.{RenderOptions}
use Rattle.fields.specs.TaggedLine.{WellFormedPiece, push_str, push, consume, push_ws, pad_to, add_piece}
use Rattle.rows.proofs.Lines.{consume_pad, consume_pieces, pieces_width, push_formed, add_formed, spaces_formed}
use Rattle.fields.specs.Spans.{Hole, RenderLine, text, border, readable_hole, readable_line}
use Rattle.rows.specs.SubRenderer.{into_tagged_line, filled}
use Rattle.rows.specs.Columns.{Slot, column_of, punch, column_holes, holes_of, any_past}
use Rattle.bodies.proofs.LineLaws.{line_border}
use Rattle.places.specs.Border.{ReadsBorder}
use Rattle.places.specs.declared.border.Border.{Border}
use Rattle.slots.specs.declared.seat.Seat.{Seat}
use Rattle.seats.specs.Row.{RowIs, SeatsLeft, NextSeat}
use Rattle.seats.specs.declared.row.Row.{Row}
use Rattle.seats.specs.declared.row.Seats.{Seats}
use Rattle.seats.proofs.SurveyLaws.{column_width}
use Rattle.holes.specs.Cols.{CountsLine}
use Rattle.holes.specs.Drawing.{DrawsPart, PushesTagged}
use Rattle.holes.proofs.LineLaws.{has_pieces}
use Rattle.holes.proofs.Segments.{string_nil}
use Rattle.holes.proofs.WidthLaws.{string_formed, up_to_wide}
use Rattle.tagged_line.specs.Held.{Held, LineGrown, PushesSpaces, new_line}
use Rattle.tagged_line.specs.declared.line.Line.{Line}
use Rattle.tagged_line.proofs.Laying.{all_formed, formed}
use Rattle.extend_lines.specs.declared.line.Lines.{Lines}
use Rattle.extend_lines.proofs.Emitting.{held_new}
use Rattle.extend_lines.proofs.Growing.{size_of, size_none, grow_str, grow_push}
use Rattle.long_borders.specs.Keeps.{Near, Advances}
use Rattle.long_borders.proofs.Laws.{near_low, near_sym}
use Rattle.row_lines.specs.Row.{is_long}
use Rattle.row_lines.specs.Seat.{AddsCellText}
use Rattle.row_lines.proofs.SeatLaws.{text_pieces}
use Rattle.row_holes.specs.Through.{FindsThrough, seat_through}
use Rattle.row_holes.specs.Row.{WideSeat, ShortSeat}
use Rattle.row_holes.specs.Text.{hole_most, PushesUpToHole, PushesLine, Punches, PushesThere, PushesSeat, PushesHoles}
use Rattle.row_holes.proofs.Pushing.{consume_least, consume_tagged}
use Rattle.row_holes.proofs.ThroughLaws.{through_none, through_line}
use Rattle.row_holes.proofs.RowLaws.{hang_holes, no_holes, holes_first}

-- ---- the holes of one line

-- no segments up to a place behind which the text stands
up_to_none : (a : ℕ) (segs : List ℕ) (l : List Piece) (pos x : ℕ) → x ≤ pos → up_to_hole a segs l pos x ≡ l
up_to_none a segs l pos x h = rw (le-ltb pos x h)

at_none : (pos x : ℕ) → x ≤ pos → at_hole pos x ≡ pos
at_none pos x h = rw (le-ltb pos x h)

-- the pieces follow one after the other
behind : (a : ℕ) (segs : List ℕ) (l : List Piece) (pos x : ℕ) (ps : List Piece) (ks : List Hole) → x ≤ pos
    → into_tagged_from a segs l pos (punch x ps ++ ks) ≡ into_tagged_from a segs (consume l ps) (pos + width ps) ks
unfolding into_tagged_from punch consume width
behind a segs l pos x [] ks h = let e : pos ≡ pos + 0 = omega arith in ap (λ (n : ℕ). into_tagged_from a segs l n ks) e
behind a segs l pos x (p ∷ ps) ks h =
    let w = piece_width p in
    let hs = punch (x + w) ps ++ ks in
    let e : pos + w + width ps ≡ pos + (w + width ps) = omega arith in
    ap (λ (z : List Piece). into_tagged_from a segs (push z p) (at_hole pos x + w) hs) (up_to_none a segs l pos x h)
    ∙ ap (λ (n : ℕ). into_tagged_from a segs (push l p) (n + w) hs) (at_none pos x h)
    ∙ behind a segs (push l p) (pos + w) (x + w) ps ks (omega arith)
    ∙ ap (λ (n : ℕ). into_tagged_from a segs (consume (push l p) ps) n ks) e

reaches : (pos x : ℕ) → x ≤ at_hole pos x
reaches pos x = ⊎_elim (λ k. rw (lt-ltb pos x k) (omega arith)) (λ k. rw (le-ltb pos x k) k) (lt_or_le pos x)

-- THE HOLES OF A LINE: the segments up to the first, and the pieces behind them.
pub holes_through : (a : ℕ) (segs : List ℕ) (l : List Piece) (pos x : ℕ) (q : Piece) (ps : List Piece) (ks : List Hole)
    → into_tagged_from a segs l pos (punch x (q ∷ ps) ++ ks) ≡ into_tagged_from a segs (consume (up_to_hole a segs l pos x) (q ∷ ps)) (at_hole pos x + width (q ∷ ps)) ks
unfolding into_tagged_from punch consume width
holes_through a segs l pos x q ps ks =
    let w = piece_width q in
    let m = push (up_to_hole a segs l pos x) q in
    let e : at_hole pos x + w + width ps ≡ at_hole pos x + (w + width ps) = omega arith in
    behind a segs m (at_hole pos x + w) (x + w) ps ks (omega (arith, reaches pos x)) ∙ ap (λ (n : ℕ). into_tagged_from a segs (consume m ps) n ks) e

-- ---- the pieces are well-formed

up_to_formed : (a : ℕ) (segs : List ℕ) (l : List Piece) (pos x : ℕ) → Every WellFormedPiece l → Every WellFormedPiece (up_to_hole a segs l pos x)
up_to_formed a segs l pos x f =
    by_if (λ (m : List Piece). Every WellFormedPiece m) (ltb pos x)
    (λ _. push_formed l a (to_string (part pos x segs)) f (string_formed (part pos x segs))) (λ _. f)

tagged_formed : (a : ℕ) (segs : List ℕ) (l : List Piece) (pos : ℕ) (hs : List Hole) → all readable_hole hs ≡ true → Every WellFormedPiece l
    → Every WellFormedPiece (into_tagged_from a segs l pos hs)
unfolding into_tagged_from all add_piece
tagged_formed a segs l pos [] r f = push_formed l a (to_string (drop pos segs)) f (string_formed (drop pos segs))
tagged_formed a segs l pos (h ∷ hs) r f =
    let u = up_to_hole a segs l pos h.place in
    let g = add_formed true u h.piece (up_to_formed a segs l pos h.place f) (formed h.piece (and_left (readable_hole h) (all readable_hole hs) r)) in
    tagged_formed a segs (push u h.piece) _ hs (and_right (readable_hole h) (all readable_hole hs) r) g

-- The pieces of a line that passed refusal 3.
pub line_formed : (o : RenderOptions) (to : ℕ) (g : RenderLine) → readable_line g ≡ true → Every WellFormedPiece (into_tagged_line (filled o to g))
unfolding filled pad_to push_ws border_into_tagged_line
line_formed o to (text ps) ok = push_formed ps o.annotation (replicate (to - width ps) 0x20) (all_formed ps ok) (spaces_formed (to - width ps))
line_formed o to (border a segs hs) ok = tagged_formed a (stretch_to segs to) [] 0 hs ok tt

-- ---- a line only grows

grow_up_to : (a : ℕ) (segs : List ℕ) (l : List Piece) (pos x : ℕ) → size_of l ≤ size_of (up_to_hole a segs l pos x)
grow_up_to a segs l pos x = by_if (λ (m : List Piece). size_of l ≤ size_of m) (ltb pos x) (λ _. grow_str l a (to_string (part pos x segs))) (λ _. omega arith)

pub grow_tagged : (a : ℕ) (segs : List ℕ) (l : List Piece) (pos : ℕ) (hs : List Hole) → size_of l ≤ size_of (into_tagged_from a segs l pos hs)
unfolding into_tagged_from
grow_tagged a segs l pos [] = grow_str l a (to_string (drop pos segs))
grow_tagged a segs l pos (h ∷ hs) =
    let u = up_to_hole a segs l pos h.place in
    omega (arith, grow_up_to a segs l pos h.place, grow_push u h.piece, grow_tagged a segs (push u h.piece) (at_hole pos h.place + piece_width h.piece) hs)

-- ---- holes within the border

past_first : (n : ℕ) (hs ks : List Hole) → any_past n (hs ++ ks) ≡ false → any_past n hs ≡ false
unfolding any_past
past_first n [] ks e = refl
past_first n (h ∷ hs) ks e =
    let t = not (leb (h.place + piece_width h.piece) n) in
    rw (or_left t (any_past n (hs ++ ks)) e) (past_first n hs ks (or_right t (any_past n (hs ++ ks)) e))

past_second : (n : ℕ) (hs ks : List Hole) → any_past n (hs ++ ks) ≡ false → any_past n ks ≡ false
unfolding any_past
past_second n [] ks e = e
past_second n (h ∷ hs) ks e = past_second n hs ks (or_right (not (leb (h.place + piece_width h.piece) n)) (any_past n (hs ++ ks)) e)

first_within : (n x : ℕ) (q : Piece) (ps : List Piece) → any_past n (punch x (q ∷ ps)) ≡ false → x ≤ n
unfolding any_past punch
first_within n x q ps e =
    let w = piece_width q in
    let h = leb-true (x + w) n (not-false (leb (x + w) n) (or_left (not (leb (x + w) n)) (any_past n (punch (x + w) ps)) e)) in
    omega (arith, h)

-- ---- `push_up_to_hole`

stretch_none : (b : List ℕ) → stretch_to b 0 ≡ b
unfolding stretch_to
stretch_none b = let e : 0 - length b ≡ 0 = omega arith in rw e (append-nil b)

-- The segments up to a place within the border are a part of it.
pub up_to_part : (out out' : List ℕ) (p r : Line) (a : ℕ) (segs : List ℕ) (x to : ℕ) → to ≡ min x (length segs) → DrawsPart out p a segs p.cols to out' r
    → PushesUpToHole out p a segs x out' r
unfolding push_str
up_to_part out out' p r a segs x to e d k st l h = ⊎_elim on none (lt_or_le p.cols x)
  where
    same : to ≡ x
    same = omega (arith, e, k)

    drawn : Held st (push_str l a (to_string (part p.cols x segs))) out' r
    drawn = rw (same, stretch_none segs) at (d 0 (rw (stretch_none segs) (omega (arith, e))) st l h)

    on : p.cols < x → Held st (up_to_hole a segs l p.cols x) out' r
    on j = rw (lt-ltb p.cols x j) drawn

    none : x ≤ p.cols → Held st (up_to_hole a segs l p.cols x) out' r
    none j =
        let z : x - p.cols ≡ 0 = omega arith in
        rw (le-ltb p.cols x j) (rw (z, string_nil) at drawn)

-- All that are left are those up to the border's end.
up_to_end : (a : ℕ) (segs : List ℕ) (l : List Piece) (pos : ℕ) → up_to_hole a segs l pos (length segs) ≡ into_tagged_from a segs l pos []
unfolding into_tagged_from push_str
up_to_end a segs l pos =
    ⊎_elim (λ k. rw (lt-ltb pos (length segs) k, rest segs pos)) (λ k. rw (le-ltb pos (length segs) k, drop_of_length-le segs k, string_nil)) (lt_or_le pos (length segs))

-- ---- `push_line`

-- A text.
pub line_text : (out out' : List ℕ) (p r : Line) (a : ℕ) (f : Field) (to : ℕ) → f.letter ≡ 0x4C → AddsCellText out p a f.content.now to out' r
    → PushesLine out p a (whole_of f) to out' r
unfolding filled
line_text out out' p r a f to el adds o ea g e ok st l h =
    let (ps, pieces, is) = text_pieces f.letter f.content.now g el e in
    rw (is, consume_pad, ea) (adds ps pieces (rw is at ok) st l h)

-- A border.
pub line_border_pushed : (out out' : List ℕ) (p r : Line) (a : ℕ) (f : Field) (to : ℕ) (q : Border) → (f.letter ≡ 0x4C → ⊥) → ReadsBorder f.letter f.content.now q
    → PushesTagged out p q to out' r → PushesLine out p a (whole_of f) to out' r
unfolding filled border_into_tagged_line consume
line_border_pushed out out' p r a f to q d reads t o ea (text ps) e ok st l h = absurd (clash (line_border f.letter f.content.now (text ps) e d) refl)
line_border_pushed out out' p r a f to q d reads t o ea (border b ss hs) e ok st l h =
    rw (consume_tagged b (stretch_to ss to) l [] 0 hs) (t b ss hs (reads b ss hs e) ok st l h)

-- ---- holes on the line

-- No hole.
pub on_none : (out : List ℕ) (p : Line) (a : ℕ) (segs : List ℕ) (hs : List Hole) → hs ≡ [] → Punches out p a segs hs out p
on_none out p a segs hs e past st l h =
    record { pieces = l; held = h; goes = λ ks. ap (λ (z : List Hole). into_tagged_from a segs l p.cols (z ++ ks)) e }

-- The holes of pieces that are pushed behind the segments.
pub on_pieces : (out mid out' : List ℕ) (p m r : Line) (a : ℕ) (segs : List ℕ) (x x₀ : ℕ) (ps : List Piece) → length segs ≤ 65536 → Near x x₀ → 1 ≤ length ps
    → Every WellFormedPiece ps → PushesUpToHole out p a segs x mid m → ((st : List ℕ) (l : List Piece) → Held st l mid m → Held st (consume l ps) out' r)
    → Punches out p a segs (punch x₀ ps) out' r
on_pieces out mid out' p m r a segs x x₀ [] small near Some-of f g k past st l h = absurd (omega arith)
on_pieces out mid out' p m r a segs x x₀ (q ∷ ps) small near Some-of f g k past st l h =
    let low = first_within (length segs) x₀ q ps past in
    let same : x₀ ≡ x = near_low (near_sym near) (omega arith) in
    let u = up_to_hole a segs l p.cols x₀ in
    let hu : Held st u mid m = rw same (g (omega (arith, same, low)) st l h) in
    let hr : Held st (consume u (q ∷ ps)) out' r = k st u hu in
    let (fu, wu) = up_to_wide a segs l p.cols x₀ (h.valid, sym h.cols) low in
    let w : at_hole p.cols x₀ + width (q ∷ ps) ≡ r.cols =
    sym (hr.cols ∙ ap width (consume_pieces u (q ∷ ps)) ∙ pieces_width true true u (q ∷ ps) fu f ∙ ap (λ (n : ℕ). n + width (q ∷ ps)) wu) in
    record {
      pieces = consume u (q ∷ ps);
      held = hr;
      goes = λ ks. holes_through a segs l p.cols x₀ q ps ks ∙ ap (λ (n : ℕ). into_tagged_from a segs (consume u (q ∷ ps)) n ks) w;
    }

-- ---- `push_there`

no_pieces : (ps : List Piece) → leb 1 (length ps) ≡ false → ps ≡ []
no_pieces [] e = refl
no_pieces (q ∷ ps) e = absurd (let h = leb-false 1 (length (q ∷ ps)) e in omega arith)

pub there_none : (out : List ℕ) (p : Line) (a : ℕ) (segs : List ℕ) (field : Raw) (to x : ℕ) (c : Maybe ℕ) → CountsLine field to c → is_some c ≡ false
    → PushesThere out p a segs field to x out p
unfolding punch
there_none out p a segs field to x c counts e o ea g read ok x₀ near =
    on_none out p a segs (punch x₀ (into_tagged_line (filled o to g)))
    (ap (punch x₀) (no_pieces (into_tagged_line (filled o to g)) (sym (has_pieces c _ (counts g o read ok)) ∙ e)))

pub there_on : (out mid out' : List ℕ) (p m r : Line) (a : ℕ) (segs : List ℕ) (field : Raw) (to x : ℕ) (c : Maybe ℕ) → length segs ≤ 65536
    → CountsLine field to c → is_some c ≡ true → PushesUpToHole out p a segs x mid m → PushesLine mid m a field to out' r
    → PushesThere out p a segs field to x out' r
there_on out mid out' p m r a segs field to x c small counts e g k o ea line read ok x₀ near =
    on_pieces out mid out' p m r a segs x x₀ (into_tagged_line (filled o to line)) small near
    (leb-true 1 (length (into_tagged_line (filled o to line))) (sym (has_pieces c _ (counts line o read ok)) ∙ e)) (line_formed o to line ok) g (k o ea line read ok)

-- ---- `push_seat`

-- one piece of spaces
consume_spaces : (l : List Piece) (a n : ℕ) → consume l (str a (replicate n 0x20) ∷ []) ≡ push_ws l n a
unfolding consume push push_ws
consume_spaces l a n = refl

module _ (seat : Seat) (out out' : List ℕ) (line r : Line) (a : ℕ) (segs : List ℕ) (collapse : Bool) (height x : ℕ) where
  -- The seat does not hang on.
  pub seat_none : seat.span < 2 → PushesSeat out line a segs seat collapse height x out line
  seat_none h o ea y is w x₀ near =
      on_none out line a segs (column_holes o height x₀ (column_of collapse y)) (no_holes o collapse height x₀ y (omega (arith, h, is.span_is)))

  -- No line is left: spaces.
  pub seat_spaces : (mid : List ℕ) (m : Line) → 2 ≤ seat.span → length segs ≤ 65536 → FindsThrough seat collapse height None → PushesUpToHole out line a segs x mid m
      → PushesSpaces mid m seat.width a out' r → PushesSeat out line a segs seat collapse height x out' r
  seat_spaces mid m h small found g spaces o ea y is w x₀ near =
      let ps = str o.annotation (replicate y.width 0x20) ∷ [] in
      let e : column_holes o height x₀ (column_of collapse y) ≡ punch x₀ ps =
      hang_holes o collapse height x₀ y (omega (arith, h, is.span_is)) ∙ ap (punch x₀) (through_none o collapse height y (found y is)) in
      subst (λ (z : List Hole). Punches out line a segs z out' r) (sym e)
      (on_pieces out mid out' line m r a segs x x₀ ps small near (omega arith) (spaces_formed y.width, tt) g
      (λ st l held. rw (ea, is.width_is, consume_spaces l a seat.width) (spaces st l held)))

  -- The first line of those that are left.
  pub seat_there : (f : Field) → 2 ≤ seat.span → FindsThrough seat collapse height (Some (Ok f)) → PushesThere out line a segs (whole_of f) seat.to x out' r
      → PushesSeat out line a segs seat collapse height x out' r
  seat_there f h found there o ea y is w x₀ near =
      let t = found y is in
      let e : column_holes o height x₀ (column_of collapse y) ≡ punch x₀ (into_tagged_line (filled o seat.to t.one)) =
      hang_holes o collapse height x₀ y (omega (arith, h, is.span_is)) ∙ ap (punch x₀) (through_line o collapse height y t.one t.more t.are)
      ∙ ap (λ (n : ℕ). punch x₀ (into_tagged_line (filled o n t.one))) is.to_is in
      subst (λ (z : List Hole). Punches out line a segs z out' r) (sym e) (there o ea t.one t.reads t.readable x₀ near)

-- ---- the walk

module _ (out₀ : List ℕ) (line₀ : Line) (a : ℕ) (segs : List ℕ) (first : Seats) (collapse : Bool) (height : ℕ) where
  -- the seats that are left, and the line so far
  pub record TextAhead (o : RenderOptions) (out : List ℕ) (line : Line) (st : Seats) (x : ℕ) (all_of : List Piece) (total : ℕ) : Type 0 where
    pub more : List Slot
    pub place : ℕ
    pub pieces : List Piece
    pub goes : SeatsLeft st more total
    pub wide : Every WideSeat more
    pub near : Near x place
    pub fits : any_past (length segs) (holes_of o height place (map (column_of collapse) more)) ≡ false
    pub held : Held out₀ pieces out line
    pub are : into_tagged_from a segs pieces line.cols (holes_of o height place (map (column_of collapse) more)) ≡ all_of

  -- the same of all seats that were left at first
  abbrev pub Ahead : List ℕ → Line → Seats → ℕ → Type 0
  Ahead out line st x =
      (o : RenderOptions) → o.annotation ≡ a → (xs : List Slot) (total : ℕ) → SeatsLeft first xs total → Every WideSeat xs
      → any_past (length segs) (holes_of o height 0 (map (column_of collapse) xs)) ≡ false
      → TextAhead o out line st x (border_into_tagged_line a segs (holes_of o height 0 (map (column_of collapse) xs))) total

  -- a line that is not too long
  pub record TextLaid (out : List ℕ) (line : Line) (st : Seats) (x : ℕ) : Type 0 where
    pub low : x < 8589934592
    pub size : length out ≡ length out₀
    pub base : line.base ≡ line₀.base
    pub on : line.base ≤ line.at
    pub piece : line.piece ≤ line.at
    pub short : is_long line ≡ false
    pub same : Ahead out line st x

  -- None at first.
  pub text_start : (place : ℕ) → line₀ ≡ new_line place → TextLaid out₀ line₀ first 0
  unfolding border_into_tagged_line
  text_start place e =
      let k : line₀.cols ≡ 0 = ap (λ (l : Line). l.cols) e in
      record {
        low = omega arith;
        size = refl;
        base = refl;
        on = rw e (omega arith);
        piece = rw e (omega arith);
        short = rw e (new_short place);
        same = λ o ea xs total l w f.
            record {
              more = xs;
              place = 0;
              pieces = [];
              goes = l;
              wide = w;
              near = inl refl;
              fits = f;
              held = rw e (held_new out₀ place);
              are = ap (λ (n : ℕ). into_tagged_from a segs [] n (holes_of o height 0 (map (column_of collapse) xs))) k;
            };
      }
    where
      new_short : (place : ℕ) → is_long (new_line place) ≡ false
      new_short place = le-ltb 65535 (place + 3 - (place + 3)) (omega arith)

  module _ (out : List ℕ) (line : Line) (st : Seats) (x : ℕ) (w : TextLaid out line st x) where
    -- One seat more is on the line.
    pub text_ahead : (out' : List ℕ) (r : Line) (seat : Seat) (next_st : Seats) (x' : ℕ) → NextSeat st (Some seat) next_st → PushesSeat out line a segs seat collapse height x out' r
        → Advances x (seat.width + 1) x' → Ahead out' r next_st x'
    text_ahead out' r seat next_st x' next push adv o ea xs total l wide f = go (w.same o ea xs total l wide f)
      where
        go : {all_of : List Piece} → TextAhead o out line st x all_of total → TextAhead o out' r next_st x' all_of total
        go h =
            let y = next h.more total h.goes in
            let c = column_of collapse y.one in
            let hs = column_holes o height h.place c in
            let ks = holes_of o height (h.place + seat.width + 1) (map (column_of collapse) y.more) in
            let v : Every WideSeat (y.one ∷ y.more) = subst (Every WideSeat) y.are h.wide in
            let split : holes_of o height h.place (map (column_of collapse) h.more) ≡ hs ++ ks =
            ap (λ (z : List Slot). holes_of o height h.place (map (column_of collapse) z)) y.are
            ∙ holes_first o height h.place c (map (column_of collapse) y.more) seat.width (column_width collapse y.one ∙ y.seat_is.width_is) in
            let fits : any_past (length segs) (hs ++ ks) ≡ false = ap (any_past (length segs)) (sym split) ∙ h.fits in
            let t = push o ea y.one y.seat_is v.0 h.place h.near (past_first (length segs) hs ks fits) out₀ h.pieces h.held in
            let e : h.place + (seat.width + 1) ≡ h.place + seat.width + 1 = omega arith in
            record {
              more = y.more;
              place = h.place + seat.width + 1;
              pieces = t.pieces;
              goes = y.goes;
              wide = v.1;
              near = subst (Near x') e (adv h.place h.near);
              fits = past_second (length segs) hs ks fits;
              held = t.held;
              are = sym (t.goes ks) ∙ ap (into_tagged_from a segs h.pieces line.cols) (sym split) ∙ h.are;
            }

    -- It is not too long.
    pub text_on : (out' : List ℕ) (r : Line) (next_st : Seats) (x' : ℕ) → length out' ≡ length out → LineGrown line r hole_most → is_long r ≡ false → x' < 8589934592
        → Ahead out' r next_st x' → TextLaid out' r next_st x'
    text_on out' r next_st x' size g short low ahead =
        record { low = low; size = size ∙ w.size; base = g.base ∙ w.base; on = omega (arith, g.base, g.on, w.on); piece = g.piece; short = short; same = ahead }

    -- No seat is left: the last segments.
    pub text_end : (p : Lines) (row : Row) (out' : List ℕ) (r : Line) (next_st : Seats) → NextSeat st None next_st
        → ((xs : List Slot) (total : ℕ) → RowIs row xs total → SeatsLeft first xs total) → PushesUpToHole out line a segs (length segs) out' r
        → PushesHoles out₀ p a segs row collapse height out' r
    unfolding holes_of
    text_end p row out' r next_st next begins push o ea xs total l v f =
        let h = w.same o ea xs total (begins xs total l) v f in
        let none : h.more ≡ [] = (next h.more total h.goes).0 in
        let is : up_to_hole a segs h.pieces line.cols (length segs) ≡ border_into_tagged_line a segs (holes_of o height 0 (map (column_of collapse) xs)) =
        up_to_end a segs h.pieces line.cols
        ∙ ap (λ (z : List Slot). into_tagged_from a segs h.pieces line.cols (holes_of o height h.place (map (column_of collapse) z))) (sym none) ∙ h.are in
        record {
          pieces = up_to_hole a segs h.pieces line.cols (length segs);
          held = push (omega arith) out₀ h.pieces h.held;
          grows = omega (arith, ap size_of is);
          whole = λ _. is;
        }

  -- The line is too long.
  pub text_long : (p : Lines) (row : Row) (out : List ℕ) (line : Line) (st : Seats) (x : ℕ) → is_long line ≡ true → Ahead out line st x
      → ((xs : List Slot) (total : ℕ) → RowIs row xs total → SeatsLeft first xs total) → PushesHoles out₀ p a segs row collapse height out line
  text_long p row out line st x e ahead begins o ea xs total l v f =
      let h = ahead o ea xs total (begins xs total l) v f in
      record {
        pieces = h.pieces;
        held = h.held;
        grows = omega (arith, grow_tagged a segs h.pieces line.cols (holes_of o height h.place (map (column_of collapse) h.more)), ap size_of h.are);
        whole = λ k. absurd (clash e k);
      }

-- ---- a text that a field holds

-- the line of a seat is on the text, and what comes behind it
seat_drawn : (o : RenderOptions) (collapse : Bool) (height x₀ : ℕ) (x : Slot) (a : ℕ) (segs : List ℕ) (ks : List Hole) (R : Type 0)
    → ((l : List Piece) (pos : ℕ) → size_of (into_tagged_from a segs l pos ks) ≤ 65535 → R)
    → (l : List Piece) (pos : ℕ) → size_of (into_tagged_from a segs l pos (column_holes o height x₀ (column_of collapse x) ++ ks)) ≤ 65535
    → ShortSeat o collapse height 65538 x × R
unfolding punch consume
seat_drawn o collapse height x₀ x a segs ks R next l pos h = ⊎_elim hangs other (lt_or_le 1 x.span)
  where
    few : (hs : List Hole) → column_holes o height x₀ (column_of collapse x) ≡ hs → size_of (into_tagged_from a segs l pos (hs ++ ks)) ≤ 65535
    few hs e = subst (λ (z : List Hole). size_of (into_tagged_from a segs l pos (z ++ ks)) ≤ 65535) e h

    on : (ps : List Piece) → size_of (into_tagged_from a segs l pos (punch x₀ ps ++ ks)) ≤ 65535 → (3 + size_of (consume [] ps) ≤ 65538) × R
    on [] k = (omega (arith, size_none), next l pos k)
    on (q ∷ ps) k =
        let u = consume (up_to_hole a segs l pos x₀) (q ∷ ps) in
        let n = at_hole pos x₀ + width (q ∷ ps) in
        let m : size_of (into_tagged_from a segs u n ks) ≤ 65535 = subst (λ (z : List Piece). size_of z ≤ 65535) (holes_through a segs l pos x₀ q ps ks) k in
        (omega (arith, m, grow_tagged a segs u n ks, consume_least (up_to_hole a segs l pos x₀) (q ∷ ps)), next u n m)

    hangs : 1 < x.span → ShortSeat o collapse height 65538 x × R
    hangs k =
        let r = on (seat_through o collapse height x) (few (punch x₀ (seat_through o collapse height x)) (hang_holes o collapse height x₀ x k)) in
        (λ _. r.0, r.1)

    other : x.span ≤ 1 → ShortSeat o collapse height 65538 x × R
    other k = (λ j. absurd (omega arith), next l pos (few [] (no_holes o collapse height x₀ x (omega arith))))

-- Where a field holds the text, each line is short enough to be laid: the cuts are made.
pub seats_drawn : (o : RenderOptions) (collapse : Bool) (height x₀ : ℕ) (xs : List Slot) (a : ℕ) (segs : List ℕ) (l : List Piece) (pos : ℕ)
    → size_of (into_tagged_from a segs l pos (holes_of o height x₀ (map (column_of collapse) xs))) ≤ 65535 → Every (ShortSeat o collapse height 65538) xs
seats_drawn o collapse height x₀ [] a segs l pos h = tt
seats_drawn o collapse height x₀ (x ∷ xs) a segs l pos h =
    let c = column_of collapse x in
    let ks = holes_of o height (x₀ + c.width + 1) (map (column_of collapse) xs) in
    seat_drawn o collapse height x₀ x a segs ks (Every (ShortSeat o collapse height 65538) xs) (λ m n k. seats_drawn o collapse height (x₀ + c.width + 1) xs a segs m n k) l pos
    (subst (λ (z : List Hole). size_of (into_tagged_from a segs l pos z) ≤ 65535) (holes_first o height x₀ c (map (column_of collapse) xs) c.width refl) h)
