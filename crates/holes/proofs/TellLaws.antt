-- Lines that cannot be drawn, since their holes overlap.
-- Assumes nothing.
use mathlib.Core.Path.{◌≡◌, refl, sym, ap, ap₂, ◌∙◌}
use mathlib.Core.Bool.{Bool, true, false, ◌||◌}
use mathlib.Core.Option.{Option, none, some, map}
use mathlib.Core.List.{List, [], ◌∷◌}
use Prim.Native.Nat.{ℕ, zero, suc, ◌+◌, ◌<◌, max}
use native.Mathlib.Omega.{arith}
use lib.Dec.{eqb}
use lib.ListN.{length}
use borrow.Author.Tests.{ne_eqb}
use Rattle.characters.proofs.Tests.{by_if}
use Rattle.fields.specs.Field.{Raw, whole, broken, raws, read_all, all}
use Rattle.fields.specs.Sheet.{Piece, read_piece, is_segment}
use Rattle.fields.proofs.Readings.{read_first, read_none}
use Rattle.borders.specs.BorderHoriz.{stretch_to}
use Rattle.rows.proofs.Reading.{OnSome, some_of}
use Rattle.fields.specs.Spans.{RenderLine, text, border, read_border, read_line}
use Rattle.fields.specs.Places.{LinesIn}
use Rattle.rows.specs.Columns.{overlaps}
use Rattle.places.specs.declared.border.Border.{Border}
use Rattle.places.specs.Border.{ReadsBorder}
use Rattle.places.proofs.BorderLaws.{broken_line}
use Rattle.holes.specs.Overlap.{FindsOverlap, line_overlaps, any_overlaps, TellsLine, TellsLines}
use Rattle.holes.proofs.Segments.{stretch_length}
use Rattle.holes.proofs.LineLaws.{IsBorder, line_border}

-- ---- one line

abbrev Drawable : ℕ → RenderLine → Type 0
Drawable to l = false ≡ line_overlaps to l

drawn_text : (to : ℕ) (o : Option (List Piece)) → OnSome (Drawable to) (map text o)
drawn_text to none = tt
drawn_text to (some ps) = refl

drawn_plain : (to : ℕ) (t : List ℕ) → OnSome (Drawable to) (read_border t)
unfolding overlaps
drawn_plain to [] = tt
drawn_plain to (a ∷ segs) = by_if (OnSome (Drawable to)) (all is_segment segs) (λ _. refl) (λ _. tt)

drawn_other : (to letter : ℕ) (t : List ℕ) → (letter ≡ 0x47 → ⊥) → OnSome (Drawable to) (read_line (whole letter t))
unfolding read_line
drawn_other to letter t n =
    rw (ne_eqb letter 0x47 n)
    (by_if (OnSome (Drawable to)) (eqb letter 0x4C) (λ _. drawn_text to (read_all read_piece (raws t)))
    (λ _. by_if (OnSome (Drawable to)) (eqb letter 0x42) (λ _. drawn_plain to t) (λ _. tt)))

-- A line that is no G can be drawn.
pub tells_plain : (letter : ℕ) (t : List ℕ) (to : ℕ) → (letter ≡ 0x47 → ⊥) → TellsLine (whole letter t) to false
tells_plain letter t to n l e = some_of (Drawable to) (read_line (whole letter t)) l e (drawn_other to letter t n)

-- A G can be drawn unless its holes overlap.
pub tells_holed : (letter : ℕ) (t : List ℕ) (to : ℕ) (b : Border) (count : ℕ) (r : Bool) → letter ≡ 0x47 → ReadsBorder letter t b
    → count ≡ max (length b.segments.now) to → FindsOverlap b.holes.now count r → TellsLine (whole letter t) to r
tells_holed letter t to b count r k f n g (text ps) e =
    absurd (some_of IsBorder (read_line (whole letter t)) (text ps) e (line_border letter t (λ z. absurd (omega (arith, k, z)))))
tells_holed letter t to b count r k f n g (border a ss hs) e =
    let x = f a ss hs e in
    g (stretch_to ss to) hs x.punched (stretch_length ss to ∙ omega (arith, n, ap length x.segments))

-- ---- the first lines

pub none_overlap : (to m : ℕ) → any_overlaps to m [] ≡ false
unfolding any_overlaps
none_overlap to zero = refl
none_overlap to (suc m) = refl

-- what is left of the first n lines, as k of the fields that are left
pub record LinesLeft (n to k : ℕ) (left : List Raw) (ls : List RenderLine) : Type 0 where
  pub more : List RenderLine
  pub reads : read_all read_line left ≡ some more
  pub same : any_overlaps to n ls ≡ any_overlaps to k more

-- of all lines that bytes are
abbrev pub Telling : List ℕ → ℕ → ℕ → ℕ → List Raw → Type 0
Telling bytes n to k left = (ls : List RenderLine) → LinesIn bytes ls → LinesLeft n to k left ls

pub tell_start : (bytes : List ℕ) (n to k : ℕ) (left : List Raw) → k ≡ n → left ≡ raws bytes → Telling bytes n to k left
tell_start bytes n to k left e f ls c = record { more = ls; reads = rw f c.reads; same = ap (λ (i : ℕ). any_overlaps to i ls) (sym e) }

-- the first of the lines that are left
record FirstLeft (n to m : ℕ) (line : Raw) (others : List Raw) (ls : List RenderLine) : Type 0 where
  one : RenderLine
  more : List RenderLine
  reads : read_line line ≡ some one
  goes : read_all read_line others ≡ some more
  same : any_overlaps to n ls ≡ (line_overlaps to one || any_overlaps to m more)

tell_first : (bytes : List ℕ) (n to k m : ℕ) (left others : List Raw) (line : Raw) → Telling bytes n to k left → left ≡ line ∷ others → m + 1 ≡ k
    → (ls : List RenderLine) → LinesIn bytes ls → FirstLeft n to m line others ls
unfolding any_overlaps
tell_first bytes n to k m left others line inv e h ls c =
    let q = inv ls c in
    let f = read_first read_line line others q.more (rw e at q.reads) in
    let z : k ≡ suc m = omega arith in
    record {
      one = f.one;
      more = f.more;
      reads = f.first;
      goes = f.later;
      same = q.same ∙ ap₂ (λ (i : ℕ) (y : List RenderLine). any_overlaps to i y) z f.are;
    }

-- A line that can be drawn is passed.
pub tell_on : (bytes : List ℕ) (n to k m : ℕ) (left others : List Raw) (line : Raw) (r : Bool) → Telling bytes n to k left → left ≡ line ∷ others → m + 1 ≡ k
    → r ≡ false → TellsLine line to r → Telling bytes n to m others
tell_on bytes n to k m left others line r inv e h t g ls c =
    let f = tell_first bytes n to k m left others line inv e h ls c in
    let z : line_overlaps to f.one ≡ false = sym (g f.one f.reads) ∙ t in
    record { more = f.more; reads = f.goes; same = f.same ∙ ap (λ (b : Bool). b || any_overlaps to m f.more) z }

-- One that cannot ends the walk.
pub tell_found : (bytes : List ℕ) (n to k m : ℕ) (left others : List Raw) (line : Raw) (r : Bool) → Telling bytes n to k left → left ≡ line ∷ others → m + 1 ≡ k
    → r ≡ true → TellsLine line to r → TellsLines bytes n to true
tell_found bytes n to k m left others line r inv e h t g ls c =
    let f = tell_first bytes n to k m left others line inv e h ls c in
    let z : line_overlaps to f.one ≡ true = sym (g f.one f.reads) ∙ t in
    sym (f.same ∙ ap (λ (b : Bool). b || any_overlaps to m f.more) z)

-- A rest that is no field is no line.
pub tell_broken : (bytes : List ℕ) (n to k : ℕ) (left others : List Raw) (r : Bool) → Telling bytes n to k left → left ≡ broken ∷ others → TellsLines bytes n to r
tell_broken bytes n to k left others r inv e ls c = let q = inv ls c in absurd (broken_line others q.more (rw e at q.reads))

-- All lines are passed, or as many as were asked for.
pub tell_end : (bytes : List ℕ) (n to k : ℕ) (left : List Raw) → Telling bytes n to k left → (0 < k → left ≡ []) → TellsLines bytes n to false
unfolding any_overlaps
tell_end bytes n to zero left inv e ls c = sym (inv ls c).same
tell_end bytes n to (suc k) left inv e ls c =
    let q = inv ls c in
    let none : q.more ≡ [] = read_none read_line q.more (rw (e (omega arith)) at q.reads) in
    sym (q.same ∙ ap (any_overlaps to (suc k)) none)
