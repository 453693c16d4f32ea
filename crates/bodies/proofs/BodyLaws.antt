-- Laws of a cell's lines without a first and a last border.
-- Assumes nothing.
use mathlib.Core.Path.{◌≡◌, refl, sym, ap, ◌∙◌}
use mathlib.Core.Bool.{Bool, true, false}
use mathlib.Core.Option
use mathlib.Core.Option.{Option, none, some}
use mathlib.Core.List.{List, [], ◌∷◌, ◌++◌, append-nil}
use Prim.Native.Nat.{ℕ, zero, suc, ◌+◌, ◌-◌, ◌≤◌, ◌<◌}
use native.Mathlib.Omega.{arith}
use lib.ListN.{length, take, drop, length-append, length-drop, drop_of_length-le}
use lib.Seq.{drop-drop, take_all}
use Rattle.std.proofs.Common.{Option as Maybe, Some, None}
use Rattle.std.specs.Prelude.{IfSome, MatchOption}
use Rattle.characters.proofs.Tests.{and_left, and_right, clash}
use Rattle.fields.specs.Field.{whole, raws, read_all, all}
use Rattle.fields.specs.List.{whole_of}
use Rattle.fields.specs.declared.raw.Field.{Field}
use Rattle.fields.proofs.Readings.{read_on}
use Rattle.fields.proofs.Fields.{raws_nil}
use Rattle.fields.specs.Spans.{RenderLine, text, border, read_line, readable_line, readable_lines}
use Rattle.fields.specs.Places.{LinesIn}
use Rattle.places.specs.declared.border.Border.{Border}
use Rattle.places.specs.Border.{ReadsBorder}
use Rattle.rows.specs.SubRenderer.{is_border, top, without_top, bottom, without_bottom}
use Rattle.rows.specs.Columns.{Slot, column_of}
use Rattle.bodies.specs.Walk.{PassesTop, LastIs, unholed, WalkedIn, Walks}
use Rattle.bodies.specs.Body.{AllLines, StandsAt, BottomIs, BorderThere, BottomThere, FindsBody}
use Rattle.bodies.specs.declared.walk.Walked.{Walked}
use Rattle.bodies.specs.declared.body.Body.{Body}
use Rattle.bodies.proofs.LineLaws.{line_border, line_text}

-- ---- where the lines stand

-- All bytes stand at their beginning.
pub stands_all : (bytes lines : List ℕ) → lines ≡ bytes → StandsAt bytes lines 0
stands_all bytes lines e = rw e (record { room = omega arith; are = sym (take_all (length bytes) bytes (omega arith)) })

-- What stands behind a place stands there.
pub stands_behind : (bytes rest lines : List ℕ) → length rest ≤ length bytes → rest ≡ drop (length bytes - length rest) bytes → lines ≡ rest
    → StandsAt bytes lines (length bytes - length rest)
stands_behind bytes rest lines few tail e =
    rw e (record { room = omega arith; are = sym (take_all (length rest) rest (omega arith)) ∙ ap (take (length rest)) tail })

-- So do its first bytes.
pub stands_first : (bytes rest lines : List ℕ) → length rest ≤ length bytes → rest ≡ drop (length bytes - length rest) bytes
    → length lines ≤ length rest → lines ≡ take (length lines) rest → StandsAt bytes lines (length bytes - length rest)
stands_first bytes rest lines few tail fits first = record { room = omega arith; are = first ∙ ap (take (length lines)) tail }

-- nothing stands behind all bytes
nothing_behind : (bytes lines : List ℕ) (place : ℕ) → length bytes ≤ place + length lines → drop (place + length lines) bytes ≡ []
nothing_behind bytes lines place h = drop_of_length-le bytes h

-- behind the first of the last bytes stand those behind them
still_behind : (bytes rest lines : List ℕ) → rest ≡ drop (length bytes - length rest) bytes
    → drop (length bytes - length rest + length lines) bytes ≡ drop (length lines) rest
still_behind bytes rest lines tail = sym (drop-drop (length lines) (length bytes - length rest) bytes) ∙ ap (drop (length lines)) (sym tail)

-- ---- a last border

-- the last of several lines
bottom_snoc : (ls : List RenderLine) (l : RenderLine) → bottom (ls ++ (l ∷ [])) ≡ bottom (l ∷ [])
unfolding bottom
bottom_snoc [] l = refl
bottom_snoc (text ps ∷ []) l = refl
bottom_snoc (border a segs hs ∷ []) l = refl
bottom_snoc (text ps ∷ k ∷ ls) l = bottom_snoc (k ∷ ls) l
bottom_snoc (border a segs hs ∷ k ∷ ls) l = bottom_snoc (k ∷ ls) l

without_snoc : (ls : List RenderLine) (l : RenderLine) → without_bottom (ls ++ (l ∷ [])) ≡ ls ++ without_bottom (l ∷ [])
unfolding without_bottom
without_snoc [] l = refl
without_snoc (text qs ∷ []) l = refl
without_snoc (border a segs hs ∷ []) l = refl
without_snoc (text qs ∷ k ∷ ls) l = ap (λ (z : List RenderLine). text qs ∷ z) (without_snoc (k ∷ ls) l)
without_snoc (border a segs hs ∷ k ∷ ls) l = ap (λ (z : List RenderLine). border a segs hs ∷ z) (without_snoc (k ∷ ls) l)

-- lines that end in a text, or are none
record Kept (ms : List RenderLine) : Type 0 where
  same : without_bottom ms ≡ ms
  nothing : bottom ms ≡ none

kept_text : (before : List RenderLine) (l : RenderLine) → is_border l ≡ false → Kept (before ++ (l ∷ []))
unfolding bottom without_bottom
kept_text before (border a segs hs) e = absurd (clash refl e)
kept_text before (text ps) e = record { same = without_snoc before (text ps); nothing = bottom_snoc before (text ps) }

kept_of : (last : Maybe Field) (bytes : List ℕ) (ms : List RenderLine) → MatchOption last (ms ≡ []) (λ f. LastIs f bytes ms) → IfSome last (λ f. f.letter ≡ 0x4C) → Kept ms
unfolding bottom without_bottom
kept_of None bytes ms e k = rw e (record { same = refl; nothing = refl })
kept_of (Some f) bytes ms p k = rw p.are (kept_text p.before p.line (line_text f.letter f.content.now p.line p.line_is k))

-- Lines without a last border are some of them.
all_bottom : (p : RenderLine → Bool) (ls : List RenderLine) → all p ls ≡ true → all p (without_bottom ls) ≡ true
unfolding all without_bottom
all_bottom p [] h = refl
all_bottom p (text ps ∷ []) h = h
all_bottom p (border a segs hs ∷ []) h = refl
all_bottom p (text ps ∷ k ∷ ls) h =
    let x = and_left (p (text ps)) (all p (k ∷ ls)) h in
    let y = all_bottom p (k ∷ ls) (and_right (p (text ps)) (all p (k ∷ ls)) h) in
    rw (x, y)
all_bottom p (border a segs hs ∷ k ∷ ls) h =
    let x = and_left (p (border a segs hs)) (all p (k ∷ ls)) h in
    let y = all_bottom p (k ∷ ls) (and_right (p (border a segs hs)) (all p (k ∷ ls)) h) in
    rw (x, y)

-- A cell that is not collapsed has all its lines.
pub body_plain : (bytes : List ℕ) (collapse : Bool) (w : Walked) (b : Body) → collapse ≡ false → AllLines bytes w b → Walks bytes w → FindsBody bytes collapse b
unfolding column_of
body_plain bytes collapse w b e a f x c =
    let q = f x.lines c in
    rw e
    (record {
      place = 0;
      part = stands_all bytes b.lines.now a.lines_are;
      lines_in = rw a.lines_are c;
      count_is = a.count_is ∙ q.count_is;
      bottom_is = rw a.no_bottom refl;
      bottom_there = rw a.no_bottom (nothing_behind bytes b.lines.now 0 (omega (arith, ap length a.lines_are)));
      plain = λ n. q.plain (sym a.holed_is ∙ n);
    })

-- A collapsed cell that ends in text, or has no lines.
pub body_kept : (bytes rest : List ℕ) (collapse : Bool) (w : Walked) (b : Body) → collapse ≡ true → length rest ≤ length bytes
    → rest ≡ drop (length bytes - length rest) bytes → PassesTop bytes rest → AllLines rest w b → Walks rest w
    → IfSome w.last (λ f. f.letter ≡ 0x4C) → FindsBody bytes collapse b
unfolding column_of
body_kept bytes rest collapse w b e few tail p a f k x c =
    let g = p x.lines c in
    let i = f (without_top x.lines) g in
    let q = kept_of w.last w.before.now (without_top x.lines) i.last_is k in
    rw (e, q.same, q.nothing)
    (record {
      place = length bytes - length rest;
      part = stands_behind bytes rest b.lines.now few tail a.lines_are;
      lines_in = rw a.lines_are g;
      count_is = a.count_is ∙ i.count_is;
      bottom_is = rw a.no_bottom refl;
      bottom_there = rw a.no_bottom (nothing_behind bytes b.lines.now (length bytes - length rest) (omega (arith, ap length a.lines_are)));
      plain = λ n. i.plain (sym a.holed_is ∙ n);
    })

-- lines that end in a border, which stands alone in the bytes behind the others
record Off (bytes behind : List ℕ) (r : Border) (count : ℕ) (ms : List RenderLine) : Type 0 where
  lines_in : LinesIn bytes (without_bottom ms)
  count_is : count - 1 ≡ length (without_bottom ms)
  bottom_is : bottom ms ≡ some r.segments.now
  there : BorderThere behind r

off_border : (bytes behind : List ℕ) (r : Border) (count : ℕ) (before : List RenderLine) (l : RenderLine) (letter : ℕ) (t : List ℕ) → is_border l ≡ true → LinesIn bytes before
    → ReadsBorder letter t r → read_line (whole letter t) ≡ some l → count ≡ length (before ++ (l ∷ [])) → 0 < length behind → raws behind ≡ whole letter t ∷ []
    → Off bytes behind r count (before ++ (l ∷ []))
unfolding bottom without_bottom read_all
off_border bytes behind r count before (text ps) letter t e d a o n room alone = absurd (clash e refl)
off_border bytes behind r count before (border b segs hs) letter t e d a o n room alone =
    let w : without_bottom (before ++ (border b segs hs ∷ [])) ≡ before = without_snoc before (border b segs hs) ∙ append-nil before in
    record {
      lines_in = rw w d;
      count_is = rw w (omega (arith, n, length-append before (border b segs hs ∷ [])));
      bottom_is = bottom_snoc before (border b segs hs) ∙ ap some (sym (a b segs hs o).segments);
      there =
          record {
            annotation = b;
            segments = segs;
            holes = hs;
            is = a b segs hs o;
            room = room;
            line = record { reads = rw alone (read_on read_line (whole letter t) [] (border b segs hs) [] o refl) };
          };
    }

-- A collapsed cell that ends in a border.
pub body_off : (bytes rest : List ℕ) (collapse : Bool) (w : Walked) (f : Field) (r : Border) (b : Body) → collapse ≡ true → length rest ≤ length bytes
    → rest ≡ drop (length bytes - length rest) bytes → PassesTop bytes rest → WalkedIn rest w → Walks rest w
    → w.last ≡ Some f → (f.letter ≡ 0x4C → ⊥) → ReadsBorder f.letter f.content.now r → b.lines.now ≡ w.before.now → b.bottom ≡ Some r → b.count ≡ w.count - 1
    → b.holed ≡ w.holed → FindsBody bytes collapse b
unfolding column_of
body_off bytes rest collapse w f r b e few tail p within walks l k reads lines_are bottom_are count_are holed_are x c =
    let ms = without_top x.lines in
    let i = walks ms (p x.lines c) in
    let last : LastIs f w.before.now ms = rw l at i.last_is in
    let behind = drop (length w.before.now) rest in
    let inside : length w.before.now + 3 ≤ length rest = rw l at within.inside in
    let alone : raws behind ≡ whole_of f ∷ [] = rw l at within.behind in
    let q : Off w.before.now behind r w.count ms =
    rw last.are
    (off_border w.before.now behind r w.count last.before last.line f.letter f.content.now (line_border f.letter f.content.now last.line last.line_is k) last.before_in reads last.line_is
    (i.count_is ∙ ap length last.are) (omega (arith, inside, length-drop (length w.before.now) rest)) alone)
    in
    rw e
    (record {
      place = length bytes - length rest;
      part = rw lines_are (stands_first bytes rest w.before.now few tail within.shorter within.front);
      lines_in = rw lines_are q.lines_in;
      count_is = count_are ∙ q.count_is;
      bottom_is = rw bottom_are q.bottom_is;
      bottom_there = rw (bottom_are, lines_are, still_behind bytes rest w.before.now tail) q.there;
      plain = λ n. all_bottom unholed ms (i.plain (sym holed_are ∙ n));
    })

-- ---- the line that was taken off, and lines that passed refusal 3

-- THE LINES BEHIND A BODY: the border that was taken off, or none.
pub bottom_lines : (behind : List ℕ) (r : Maybe Border) (o : Option (List ℕ)) → BottomThere behind r → BottomIs r o
    → (ls : List RenderLine) × LinesIn behind ls × (top ls ≡ Option.get_or o [])
unfolding read_all
bottom_lines behind None o h e = ([], record { reads = rw (h, raws_nil) refl }, rw e refl)
bottom_lines behind (Some b) o h e =
    (border h.annotation h.segments h.holes ∷ [], h.line, sym (ap (λ (x : Option (List ℕ)). Option.get_or x []) e ∙ h.is.segments))

-- Those without a first border passed too.
pub readable_top : (ls : List RenderLine) → readable_lines ls ≡ true → readable_lines (without_top ls) ≡ true
unfolding readable_lines all
readable_top [] h = refl
readable_top (text ps ∷ ls) h = h
readable_top (border a segs hs ∷ ls) h = and_right (readable_line (border a segs hs)) (readable_lines ls) h

readable_bottom : (ls : List RenderLine) → readable_lines ls ≡ true → readable_lines (without_bottom ls) ≡ true
unfolding readable_lines
readable_bottom ls h = all_bottom readable_line ls h

-- A COLUMN'S LINES ARE LINES OF ITS CELL.
pub column_readable : (collapse : Bool) (x : Slot) → readable_lines x.lines ≡ true → readable_lines (column_of collapse x).lines ≡ true
unfolding column_of
column_readable false x h = h
column_readable true x h = readable_bottom (without_top x.lines) (readable_top x.lines h)

-- Nor do lines from a number on.
pub readable_drop : (n : ℕ) (ls : List RenderLine) → readable_lines ls ≡ true → readable_lines (drop n ls) ≡ true
unfolding readable_lines all
readable_drop zero ls h = h
readable_drop (suc n) [] h = h
readable_drop (suc n) (l ∷ ls) h = readable_drop n ls (and_right (readable_line l) (readable_lines ls) h)
