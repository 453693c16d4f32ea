-- Laws of the lines of the old sheet, the last of them joined to the row if it is a border.
-- Assumes nothing.
use mathlib.Core.Path.{◌≡◌, refl, sym, ap, subst, ◌∙◌}
use mathlib.Core.Bool.{Bool, true, false, not, ◌||◌}
use mathlib.Core.Logic.{◌⊎◌, ⊎_elim}
use mathlib.Core.List.{List, [], ◌∷◌, ◌++◌, append-nil}
use Prim.Native.Nat.{ℕ, ◌+◌, ◌-◌, ◌≤◌, ◌<◌}
use native.Mathlib.Omega.{arith}
use borrow.Author.Tests.{leb-true, leb-false, lt-leb, lt-ltb, le-ltb}
use lib.Dec.{leb, ltb}
use lib.ListN.{length, take, length-append}
use lib.Seq.{length-take-le}
use Rattle.std.specs.Prelude.{Option, Some, None}
use Rattle.characters.proofs.Tests.{or_true, clash}
use Rattle.block.proofs.Bounds.{length_field}
use Rattle.fields.specs.Spans.{Hole, RenderLine, text, border, holes_bytes, content, letter as line-letter}
use Rattle.rows.specs.SubRenderer.{on_last, ends_in_border}
use Rattle.rows.specs.Columns.{Slot, border_above}
use Rattle.rows.specs.Answer.{fits}
use Rattle.places.specs.declared.border.Border.{Border}
use Rattle.long_borders.specs.declared.border.BorderHoriz.{BorderHoriz}
use Rattle.long_borders.specs.Keeps.{Keeps, Copies}
use Rattle.row_borders.specs.Border.{BordersAbove}
use Rattle.long_borders.proofs.Laws.{keeps_fits, keeps_long}
use Rattle.seats.specs.declared.row.Row.{Row}
use Rattle.seats.specs.Row.{RowIs}
use Rattle.overhang.specs.Border.{PutsBorder}
use Rattle.extend_lines.specs.Emitted.{Emitted, no_lines, InBounds, OneLineMore, CopiesLines}
use Rattle.extend_lines.specs.declared.line.Lines.{Lines}
use Rattle.extend_lines.proofs.Emitting.{emitted_none, one_more}
use Rattle.append_columns.specs.declared.sheet.OldSheet.{OldSheet}
use Rattle.append_columns.specs.Last.{LastBorder, OldLines}
use Rattle.append_columns.specs.Old.{PutsJoined, PutsPrev, AddsOld}

-- ---- a border with other segments

-- what `||` came to, with the length at hand
long_more : (a r : Bool) (n : ℕ) → ((a ≡ true) × (r ≡ a)) ⊎ ((a ≡ false) × (r ≡ ltb 65535 n)) → r ≡ (a || not (leb n 65535))
long_more a r n came =
    ⊎_elim (λ y. rw (y.1, y.0)) (λ y. rw (y.1, y.0) (longer (leb n 65535) refl)) came
  where
    longer : (t : Bool) → leb n 65535 ≡ t → ltb 65535 n ≡ not (leb n 65535)
    longer true e = rw e (le-ltb 65535 n (leb-true n 65535 e))
    longer false e = rw e (lt-ltb 65535 n (leb-false n 65535 e))

-- It is put behind the lines.
pub joined_put : (out out' : List ℕ) (p r : Lines) (b : Border) (segs : List ℕ) (n : ℕ) → length out' ≡ length out
    → PutsBorder out p.at b.annotation segs 0 b.holes.now out' r.at → n ≡ r.at - (p.at + 3) → r.count ≡ p.count + 1
    → ((p.long ≡ true) × (r.long ≡ p.long)) ⊎ ((p.long ≡ false) × (r.long ≡ ltb 65535 n)) → PutsJoined out p b segs out' r
joined_put out out' p r b segs n same puts len count came a ss hs is st ls e =
    let x = border a segs hs in
    let stands = rw (is.annotation, append-nil segs) at (puts hs is.punched) in
    let size : n ≡ length (content x) = omega (arith, len, stands.place, length_field (line-letter x) (content x)) in
    one_more st out out' ls x p r e same count (rw size at (long_more p.long r.long n came)) (λ ok. record { place = stands.place; store = stands.store ok })

-- ---- the border as the row makes it

-- a border of so many segments does not fit a field
unfit : (a : ℕ) (segs : List ℕ) (hs : List Hole) → 65535 ≤ length segs → fits (border a segs hs) ≡ false
unfit a segs [] k = lt-leb (length (content (border a segs []))) 65535 (omega (arith, k))
unfit a segs (h ∷ hs) k = lt-leb (length (content (border a segs (h ∷ hs)))) 65535 (omega (arith, k, length-append segs (holes_bytes (h ∷ hs))))

-- a part of the buffer is no longer than it
pub part_few : (b segs : List ℕ) (n : ℕ) → n ≤ length b → segs ≡ take n b → length b ≡ 65536 → length segs ≤ 65536
part_few b segs n h e k = omega (arith, ap length e, length-take-le n b h)

module _ (out : List ℕ) (p : Lines) (b : Border) (row : Row) (collapse : Bool) (begun made : BorderHoriz) (copies : Copies b.segments.now begun)
    (start : length begun.buffer.now ≡ 65536) (same : length made.buffer.now ≡ length begun.buffer.now) (borders : BordersAbove begun row collapse made) where
  above : (xs : List Slot) (total : ℕ) → RowIs row xs total → (segs : List ℕ) → b.segments.now ≡ segs → Keeps made (border_above collapse xs segs)
  above xs total is segs e = rw e at (borders b.segments.now xs total (copies (omega (arith, start))) is)

  -- It is too long for the buffer, and so for a field.
  pub prev_long : (r : Lines) → length made.buffer.now < made.len → r.count ≡ p.count + 1 → r.long ≡ true → PutsPrev out p b row collapse out r
  prev_long r h count long xs total row-is a segs hs is st ls e =
      let k = above xs total row-is segs is.segments in
      let f : fits (border a (border_above collapse xs segs) hs) ≡ false =
      unfit a (border_above collapse xs segs) hs (omega (arith, same, start, keeps_long made (border_above collapse xs segs) k h)) in
      one_more st out out ls (border a (border_above collapse xs segs) hs) p r e refl count (long ∙ sym (rw f (or_true p.long))) (λ y. absurd (clash y f))

  -- It is put with the holes that stand there.
  pub prev_joined : (out' new : List ℕ) (r : Lines) → made.len ≤ length made.buffer.now → new ≡ take made.len made.buffer.now → PutsJoined out p b new out' r
      → PutsPrev out p b row collapse out' r
  prev_joined out' new r h are puts xs total row-is a segs hs is st ls e =
      rw (are, (keeps_fits made (border_above collapse xs segs) (above xs total row-is segs is.segments) h).0) at (puts a segs hs is st ls e)

-- ---- the old lines

-- a change of a last border
on_border : (f : List ℕ → List ℕ) (before : List RenderLine) (a : ℕ) (segs : List ℕ) (hs : List Hole)
    → on_last f (before ++ (border a segs hs ∷ [])) ≡ before ++ (border a (f segs) hs ∷ [])
unfolding on_last
on_border f [] a segs hs = refl
on_border f (text ps ∷ []) a segs hs = refl
on_border f (border b t gs ∷ []) a segs hs = refl
on_border f (text ps ∷ q ∷ ls) a segs hs = ap (λ (z : List RenderLine). text ps ∷ z) (on_border f (q ∷ ls) a segs hs)
on_border f (border b t gs ∷ q ∷ ls) a segs hs = ap (λ (z : List RenderLine). border b t gs ∷ z) (on_border f (q ∷ ls) a segs hs)

-- where no border is last nothing changes
on_none : (f : List ℕ → List ℕ) (old : List RenderLine) → ends_in_border old ≡ false → on_last f old ≡ old
unfolding on_last ends_in_border
on_none f [] e = refl
on_none f (text ps ∷ []) e = refl
on_none f (border b t gs ∷ []) e = absurd (clash refl e)
on_none f (text ps ∷ q ∷ ls) e = ap (λ (z : List RenderLine). text ps ∷ z) (on_none f (q ∷ ls) e)
on_none f (border b t gs ∷ q ∷ ls) e = ap (λ (z : List RenderLine). border b t gs ∷ z) (on_none f (q ∷ ls) e)

-- The lines before a last border, and the border as the row makes it.
pub old_joined : (out mid out' : List ℕ) (old : OldSheet) (row : Row) (collapse : Bool) (none p r : Lines) (b : Border) → old.last ≡ Some b → none ≡ no_lines
    → CopiesLines out none old.lines.now mid p → PutsPrev mid p b row collapse out' r → AddsOld out old row collapse out' r
old_joined out mid out' old row collapse none p r b there start copies puts xs total row-is ls is =
    let t : LastBorder b old.lines.now ls = subst (λ (o : Option Border). OldLines o old.lines.now ls) there is in
    let f = border_above collapse xs in
    let m : Emitted out t.before [] [] mid p = copies t.before t.before_in.reads out [] (rw start (emitted_none out)) in
    let e : on_last f ls ≡ t.before ++ (border t.annotation (f t.segments) t.holes ∷ []) =
    ap (on_last f) t.are ∙ on_border f t.before t.annotation t.segments t.holes in
    rw e (puts xs total row-is t.annotation t.segments t.holes t.border_is out t.before m)

-- All of them, where the last is no border.
pub old_plain : (out out' : List ℕ) (old : OldSheet) (row : Row) (collapse : Bool) (none r : Lines) → old.last ≡ None → none ≡ no_lines
    → CopiesLines out none old.lines.now out' r → AddsOld out old row collapse out' r
old_plain out out' old row collapse none r there start copies xs total row-is ls is =
    let (lines, no-border) = subst (λ (o : Option Border). OldLines o old.lines.now ls) there is in
    rw (on_none (border_above collapse xs) ls no-border) (copies ls lines.reads out [] (rw start (emitted_none out)))

-- No lines are in bounds.
pub bounds_none : (p : Lines) → p ≡ no_lines → InBounds p × (p.count ≡ 0)
bounds_none p e = rw e (record { at = omega arith; count = omega arith }, refl)

-- A line more stays there.
pub bounds_next : (p r : Lines) → InBounds p → p.count ≤ 65535 → OneLineMore p r → InBounds r × (r.count ≤ 65536)
bounds_next p r b few x = (record { at = omega (arith, b.at, x.at, x.count); count = omega (arith, few, x.count) }, omega (arith, few, x.count))
