-- Laws of what one seat of a row has to do with refusal 10.
-- Assumes nothing.
use mathlib.Core.Path.{◌≡◌, refl, sym, ap, ap₂, ◌∙◌}
use mathlib.Core.Bool.{Bool, true, false, not, ◌&&◌, ◌||◌}
use mathlib.Core.Option
use mathlib.Core.Option.{Option}
use mathlib.Core.List.{List, [], ◌∷◌}
use Prim.Native.Nat.{ℕ, zero, suc, ◌+◌, ◌≤◌, ◌<◌, max}
use native.Mathlib.Omega.{arith}
use lib.Dec.{leb, ltb}
use lib.ListN.{length, drop, get_or, replicate, length-set}
use borrow.Author.Tests.{lt-ltb, le-ltb, ltb-true, leb-true, leb-false}
use Rattle.std.proofs.Common.{Option as Maybe, Some, None, Ok, Err}
use Rattle.std.specs.Prelude.{MatchOption, if◌then◌else◌}
use Rattle.std.specs.Option.{is_none}
use Rattle.characters.proofs.Tests.{same_test, and_left, or_true}
use Rattle.fields.specs.Field.{broken, raws, all}
use Rattle.fields.specs.List.{whole_of}
use Rattle.fields.specs.declared.raw.Field.{Field}
use Rattle.fields.specs.Widths.{text_width, width}
use Rattle.borders.specs.BorderSegHoriz.{joins_above}
use Rattle.borders.specs.BorderHoriz.{stretch_to, join_on, merge_from, merge_from_above}
use Rattle.borders.specs.declared.border.Side.TheVariants.{Above}
use Rattle.rows.proofs.Lines.{spaces_width}
use Rattle.fields.specs.Spans.{RenderLine, text, border, readable_line, readable_lines}
use Rattle.rows.specs.Columns.{Slot, Column, column_of, overlaps, too_wide, next_column, column_misfit}
use Rattle.places.specs.declared.border.Border.{Border}
use Rattle.holes.specs.Cols.{CountsLine}
use Rattle.holes.specs.Overlap.{any_overlaps, TellsLines}
use Rattle.holes.proofs.TellLaws.{none_overlap}
use Rattle.holes.proofs.Segments.{stretch_length}
use Rattle.bodies.specs.Body.{BottomIs, FindsBody}
use Rattle.bodies.specs.declared.body.Body.{Body}
use Rattle.bodies.specs.Walk.{Skips}
use Rattle.bodies.proofs.LineLaws.{first_line, no_lines, none_first}
use Rattle.bodies.proofs.BodyLaws.{column_readable, readable_drop}
use Rattle.slots.specs.declared.seat.Seat.{Seat}
use Rattle.slots.specs.Seat.{SeatIs}
use Rattle.fields.specs.declared.refusal.Refusal.TheVariants.{OverhangMisfit}
use Rattle.row_fit.specs.declared.reach.SeatFit.{SeatFit}
use Rattle.row_fit.specs.Seat.{CountsThrough, CountsSeat, or_first, last_join, FitsSeat}
use Rattle.seats.proofs.SurveyLaws.{column_span, column_width, column_to}

-- ---- the last border that was taken off

-- what a search from the back finds
abbrev pub FindsLast : List ℕ → Maybe ℕ → Type 0
FindsLast segs r =
    MatchOption r ((k : ℕ) → k < length segs → joins_above (get_or segs k 0) ≡ false)
    (λ i. (i < length segs) × (joins_above (get_or segs i 0) ≡ true) × ((k : ℕ) → i < k → k < length segs → joins_above (get_or segs k 0) ≡ false))

pub last_found : (segs : List ℕ) (r : Maybe ℕ) → FindsLast segs r → r ≡ last_join segs
unfolding last_join
last_found [] None f = refl
last_found [] (Some i) f = absurd (omega (arith, f.0))
last_found (s ∷ segs) None f =
    let one : joins_above s ≡ false = f 0 (omega arith) in
    let later = last_found segs None (λ k h. f (suc k) (omega arith)) in
    rw (one, ← later)
last_found (s ∷ segs) (Some zero) f =
    let one : joins_above s ≡ true = f.1 in
    let later = last_found segs None (λ k h. f.2 (suc k) (omega arith) (omega arith)) in
    rw (one, ← later)
last_found (s ∷ segs) (Some (suc i)) f =
    let later = last_found segs (Some i) (omega (arith, f.0), f.1, λ k g h. f.2 (suc k) (omega arith) (omega arith)) in
    rw (← later)

-- where segments end that are merged in at a place, of which the last that joins stands there
abbrev pub join_end : ℕ → Maybe ℕ → ℕ
join_end pos None = 0
join_end pos (Some i) = pos + i + 1

pub join_length : (b : List ℕ) (x : ℕ) → length (join_on Above b x) ≡ max (length b) (suc x)
unfolding join_on
join_length b x = simp length-set (omega (arith, stretch_length b (suc x)))

-- HOW FAR A MERGE FROM ABOVE REACHES.
pub merge_length : (b other : List ℕ) (pos : ℕ) → length (merge_from_above b other pos) ≡ max (length b) (join_end pos (last_join other))
unfolding merge_from last_join
merge_length b [] pos = omega arith
merge_length b (s ∷ other) pos =
    go (joins_above s) (last_join other) (merge_length (join_on Above b pos) other (suc pos)) (merge_length b other (suc pos)) (join_length b pos)
  where
    go : (t : Bool) (o : Maybe ℕ) → length (merge_from Above (join_on Above b pos) other (suc pos)) ≡ max (length (join_on Above b pos)) (join_end (suc pos) o)
        → length (merge_from Above b other (suc pos)) ≡ max (length b) (join_end (suc pos) o) → length (join_on Above b pos) ≡ max (length b) (suc pos)
        → length (merge_from Above (if t then join_on Above b pos else b) other (suc pos)) ≡ max (length b) (join_end pos (or_first t o))
    go true None x y z = omega arith
    go true (Some i) x y z = omega arith
    go false None x y z = omega arith
    go false (Some i) x y z = omega arith

-- The join of a border that was taken off, if one was.
pub bottom_join : (r : Maybe Border) (o : Option (List ℕ)) (j : Maybe ℕ) → BottomIs r o → MatchOption r (j ≡ None) (λ b. j ≡ last_join b.segments.now)
    → j ≡ last_join (Option.get_or o [])
unfolding last_join
bottom_join None o j e f = rw e f
bottom_join (Some b) o j e f = rw e f

-- ---- refusal 10 of one column

-- a column of these lines
abbrev column_with : ℕ → ℕ → ℕ → ℕ → Option (List ℕ) → List RenderLine → Column
column_with p w t n b ls = record { pos = p; width = w; to = t; span = n; lines = ls; bottom = b }

split_over : (t : ℕ) (w o m : Bool) → (w || (m && w || o)) ≡ (w || o)
split_over t true o m = refl
split_over t false o true = refl
split_over t false o false = refl

split_line : (l w o : Bool) → (l || (w || o)) ≡ (w || (l || o))
split_line true true o = refl
split_line true false o = refl
split_line false w o = refl

ltb_suc : (a b : ℕ) → ltb a b ≡ ltb (suc a) (suc b)
ltb_suc a b =
    same_test (ltb a b) (ltb (suc a) (suc b)) (λ e. lt-ltb (suc a) (suc b) (omega (arith, ltb-true a b e)))
    (λ e. lt-ltb a b (omega (arith, ltb-true (suc a) (suc b) e)))

-- a column is misfit where it is too wide to be filled, or a line of it cannot be drawn
misfit_with : (p w t sp : ℕ) (b : Option (List ℕ)) (total n : ℕ) (ls : List RenderLine)
    → column_misfit total n (column_with p w t sp b ls) ≡ (ltb (length ls) n && too_wide total w b || any_overlaps t n ls)
unfolding column_misfit next_column any_overlaps
misfit_with p w t sp b total zero ls = rw (le-ltb (length ls) 0 (omega arith))
misfit_with p w t sp b total (suc n) [] =
    ap (λ (z : Bool). too_wide total w b || z) (misfit_with p w t sp b total n [])
    ∙ rw (none_overlap t n, lt-ltb 0 (suc n) (omega arith)) (split_over t (too_wide total w b) false (ltb 0 n))
misfit_with p w t sp b total (suc n) (text ps ∷ ls) =
    misfit_with p w t sp b total n ls ∙ rw (ltb_suc (length ls) n)
misfit_with p w t sp b total (suc n) (border a segs hs ∷ ls) =
    ap (λ (z : Bool). overlaps (stretch_to segs t) 0 hs || z) (misfit_with p w t sp b total n ls)
    ∙ split_line (overlaps (stretch_to segs t) 0 hs) (ltb (length ls) n && too_wide total w b) (any_overlaps t n ls) ∙ rw (ltb_suc (length ls) n)

-- A COLUMN IS MISFIT where it is too wide to be filled, or a line of it cannot be drawn.
pub misfit_split : (total n : ℕ) (c : Column) → column_misfit total n c ≡ (ltb (length c.lines) n && too_wide total c.width c.bottom || any_overlaps c.to n c.lines)
misfit_split total n c = misfit_with c.pos c.width c.to c.span c.bottom total n c.lines

-- ---- the test of a column that is to be filled

not_leb : (a b : ℕ) → ltb b a ≡ not (leb a b)
not_leb a b = go (leb a b) refl
  where
    go : (t : Bool) → leb a b ≡ t → ltb b a ≡ not t
    go true e = le-ltb b a (leb-true a b e)
    go false e = lt-ltb b a (leb-false a b e)

-- A column is too wide where none was taken off it.
wide_test : (r : Maybe Border) (total w : ℕ) (o : Option (List ℕ)) → BottomIs r o → (is_none r && ltb total w) ≡ too_wide total w o
wide_test None total w o b = rw b (not_leb w total)
wide_test (Some r) total w o b = rw b

-- ---- the line that comes where the border is

-- None hangs.
pub through_ends : (bytes : List ℕ) (seat : Seat) (height : ℕ) → seat.span ≤ 1 → CountsThrough bytes seat height None
through_ends bytes seat height h o c et ew es l ok = let z : ltb 1 c.span ≡ false = le-ltb 1 c.span (omega arith) in rw z

-- None is left: spaces.
pub through_none : (bytes rest : List ℕ) (seat : Seat) (height : ℕ) → 1 < seat.span → Skips bytes height rest → length rest ≡ 0
    → CountsThrough bytes seat height (Some seat.width)
unfolding width
through_none bytes rest seat height k f h o c et ew es l ok =
    let z : ltb 1 c.span ≡ true = lt-ltb 1 c.span (omega arith) in
    let e : drop height c.lines ≡ [] = no_lines rest (drop height c.lines) h (f c.lines l) in
    let n : seat.width ≡ text_width (replicate c.width 0x20) + 0 = sym ew ∙ omega (arith, spaces_width c.width) in
    rw (z, e) (ap Some n)

-- A line that is there.
pub through_line : (bytes rest next : List ℕ) (line : Field) (seat : Seat) (height : ℕ) (r : Maybe ℕ) → 1 < seat.span → Skips bytes height rest
    → raws rest ≡ whole_of line ∷ raws next → CountsLine (whole_of line) seat.to r → CountsThrough bytes seat height r
unfolding readable_lines all
through_line bytes rest next line seat height r h f e k o c et ew es ls ok =
    let z : ltb 1 c.span ≡ true = lt-ltb 1 c.span (omega arith) in
    let q = first_line rest next line (drop height c.lines) e (f c.lines ls) in
    let d = readable_drop height c.lines ok in
    let g = and_left (readable_line q.one) (readable_lines q.more) (rw q.are at d) in
    rw (z, q.are, et) (k q.one o q.reads g)

-- Bytes that are no line.
pub through_broken : (bytes rest : List ℕ) (seat : Seat) (height : ℕ) (r : Maybe ℕ) → Skips bytes height rest → (length rest ≡ 0 → ⊥)
    → (0 < length rest → raws rest ≡ broken ∷ []) → CountsThrough bytes seat height r
through_broken bytes rest seat height r f h e o c et ew es ls ok = absurd (h (none_first rest (drop height c.lines) e (f c.lines ls)))

-- ---- one seat

-- The line of a seat that comes where the border is.
pub seat_counts : (seat : Seat) (collapse : Bool) (height : ℕ) (b : Body) (r : Maybe ℕ) → FindsBody seat.lines.now collapse b → CountsThrough b.lines.now seat height r
    → CountsSeat seat collapse height r
seat_counts seat collapse height b r body t o x s =
    let i = body x s.lines_in in
    t o (column_of collapse x) (column_to collapse x ∙ s.to_is) (column_width collapse x ∙ s.width_is) (column_span collapse x ∙ s.span_is) i.lines_in
    (column_readable collapse x s.readable)

-- what is found of a seat's lines
misfit_of : (seat : Seat) (collapse : Bool) (total height : ℕ) (b : Body) (wide crossed : Bool) → FindsBody seat.lines.now collapse b
    → wide ≡ (ltb b.count height && (is_none b.bottom && ltb total seat.width)) → (x : Slot) → SeatIs seat x → crossed ≡ any_overlaps seat.to height (column_of collapse x).lines
    → column_misfit total height (column_of collapse x) ≡ (wide || crossed)
misfit_of seat collapse total height b wide crossed body w x s k =
    let c = column_of collapse x in
    let i = body x s.lines_in in
    let cw : seat.width ≡ c.width = sym (column_width collapse x ∙ s.width_is) in
    let ct : seat.to ≡ c.to = sym (column_to collapse x ∙ s.to_is) in
    let e : wide ≡ (ltb (length c.lines) height && too_wide total c.width c.bottom) =
    w ∙ ap₂ (λ (n : ℕ) (t : Bool). ltb n height && t) i.count_is
    (wide_test b.bottom total seat.width c.bottom i.bottom_is ∙ ap (λ (n : ℕ). too_wide total n c.bottom) cw) in
    let f : crossed ≡ any_overlaps c.to height c.lines = k ∙ ap (λ (n : ℕ). any_overlaps n height c.lines) ct in
    misfit_split total height c ∙ ap₂ (λ (t u : Bool). t || u) (sym e) (sym f)

-- A seat that is too wide.
pub seat_wide : (seat : Seat) (collapse : Bool) (total height : ℕ) (b : Body) (wide : Bool) → FindsBody seat.lines.now collapse b
    → wide ≡ (ltb b.count height && (is_none b.bottom && ltb total seat.width)) → wide ≡ true → FitsSeat seat collapse total height (Err OverhangMisfit)
seat_wide seat collapse total height b wide body w e o x s =
    let k = any_overlaps seat.to height (column_of collapse x).lines in
    (misfit_of seat collapse total height b wide k body w x s refl ∙ ap (λ (t : Bool). t || k) e, refl)

-- One with a line that cannot be drawn.
pub seat_crossed : (seat : Seat) (collapse : Bool) (total height : ℕ) (b : Body) (wide crossed : Bool) → FindsBody seat.lines.now collapse b
    → wide ≡ (ltb b.count height && (is_none b.bottom && ltb total seat.width)) → TellsLines b.lines.now height seat.to crossed → crossed ≡ true
    → FitsSeat seat collapse total height (Err OverhangMisfit)
seat_crossed seat collapse total height b wide crossed body w k e o x s =
    (misfit_of seat collapse total height b wide crossed body w x s (k (column_of collapse x).lines (body x s.lines_in).lines_in) ∙ ap (λ (t : Bool). wide || t) e ∙ or_true wide, refl)

-- Another.
pub seat_fits : (seat : Seat) (collapse : Bool) (total height : ℕ) (b : Body) (wide crossed : Bool) (fit : SeatFit) → FindsBody seat.lines.now collapse b
    → wide ≡ (ltb b.count height && (is_none b.bottom && ltb total seat.width)) → wide ≡ false → TellsLines b.lines.now height seat.to crossed → crossed ≡ false
    → MatchOption b.bottom (fit.join ≡ None) (λ r. fit.join ≡ last_join r.segments.now) → CountsThrough b.lines.now seat height fit.through
    → FitsSeat seat collapse total height (Ok fit)
seat_fits seat collapse total height b wide crossed fit body w e k f j t o x s =
    let c = column_of collapse x in
    let i = body x s.lines_in in (
      misfit_of seat collapse total height b wide crossed body w x s (k c.lines i.lines_in) ∙ ap₂ (λ (y z : Bool). y || z) e f,
      record {
        join_is = bottom_join b.bottom c.bottom fit.join i.bottom_is j;
        through_is =
            t o c (column_to collapse x ∙ s.to_is) (column_width collapse x ∙ s.width_is) (column_span collapse x ∙ s.span_is) i.lines_in
            (column_readable collapse x s.readable);
      },
    )
