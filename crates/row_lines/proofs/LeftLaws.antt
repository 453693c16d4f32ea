-- Laws of what a seat has left of its lines.
-- Assumes nothing.
use mathlib.Core.Path.{◌≡◌, refl, sym, ap, ◌∙◌}
use mathlib.Core.Bool.{Bool, true, false, not, ◌&&◌}
use mathlib.Core.Option.{none, some}
use mathlib.Core.List.{List, [], ◌∷◌}
use Prim.Native.Nat.{ℕ, ◌+◌, ◌*◌, ◌<◌}
use native.Mathlib.Omega.{arith}
use native.Mathlib.Numerals.{add-one}
use lib.Dec.{eqb, leb}
use lib.ListN.{length}
use borrow.Author.Tests.{eq-eqb, eqb-true}
use Rattle.characters.proofs.Tests.{by_if, and_left, and_right, clash}
use Rattle.fields.specs.Field.{Raw, broken, raws_f, raws, all}
use Rattle.fields.specs.List.{whole_of}
use Rattle.fields.specs.declared.raw.Field.{Field}
use Rattle.fields.specs.Spans.{Hole, RenderLine, text, border, read_line, readable_line, readable_lines}
use Rattle.fields.specs.Places.{LinesIn}
use Rattle.fields.proofs.Readings.{read_size}
use Rattle.rows.specs.SubRenderer.{is_border, rest, without_top, bottom, without_bottom}
use Rattle.rows.specs.Columns.{Column, column_of, next_column}
use Rattle.bodies.specs.Walk.{PassesTop}
use Rattle.bodies.proofs.LineLaws.{first_line, no_lines, none_first, line_border, line_text}
use Rattle.bodies.proofs.BodyLaws.{readable_top}
use Rattle.row_lines.specs.Seat.{leaves_pattern, Collapsed, LeftIn}
use Rattle.row_lines.specs.Left.{down, FindsFirst, MovesOn, FindsLeft}

-- ---- a column and its lines

-- no lines are left, and no border was taken off
none_left : (collapse : Bool) (ms : List RenderLine) (c : Column) → ms ≡ [] → Collapsed collapse ms c → (c.lines ≡ []) × (c.bottom ≡ none)
unfolding without_bottom bottom
none_left false ms c e k = (k.0 ∙ e, k.1)
none_left true ms c e k = (k.0 ∙ ap without_bottom e, k.1 ∙ ap bottom e)

-- a column without lines has none after that
stays : (collapse : Bool) (ms : List RenderLine) (c : Column) → c.lines ≡ [] → Collapsed collapse ms c → Collapsed collapse ms (next_column c)
unfolding next_column
stays false ms c e k = (ap rest e ∙ sym e ∙ k.0, k.1)
stays true ms c e k = (ap rest e ∙ sym e ∙ k.0, k.1)

-- the first line stays a line: it is no last border
first_stays : (g : RenderLine) (more : List RenderLine) → (more ≡ [] → is_border g ≡ false)
    → (without_bottom (g ∷ more) ≡ g ∷ without_bottom more) × (bottom (g ∷ more) ≡ bottom more)
unfolding without_bottom bottom
first_stays (text ps) [] f = (refl, refl)
first_stays (border a segs hs) [] f = let x = f refl in absurd (let z : ◌≡◌ {A = ℕ} 0 1 = cc in omega arith)
first_stays (text ps) (k ∷ more) f = (refl, refl)
first_stays (border a segs hs) (k ∷ more) f = (refl, refl)

-- the first line of a column, and the column behind it
pub record FirstOf (collapse : Bool) (g : RenderLine) (more : List RenderLine) (c : Column) : Type 0 where
  pub tail : List RenderLine
  pub are : c.lines ≡ g ∷ tail
  pub goes : Collapsed collapse more (next_column c)

first_of_lem : (collapse : Bool) (g : RenderLine) (ms more : List RenderLine) (c : Column) → ms ≡ g ∷ more → (collapse ≡ true → more ≡ [] → is_border g ≡ false)
    → Collapsed collapse ms c → FirstOf collapse g more c
unfolding next_column
first_of_lem false g ms more c e f k = let x : c.lines ≡ g ∷ more = k.0 ∙ e in record { tail = more; are = x; goes = (ap rest x, k.1) }
first_of_lem true g ms more c e f k =
    let y = first_stays g more (f refl) in
    let x : c.lines ≡ g ∷ without_bottom more = k.0 ∙ ap without_bottom e ∙ y.0 in
    record { tail = without_bottom more; are = x; goes = (ap rest x, k.1 ∙ ap bottom e ∙ y.1) }

-- a line is a last border that is taken off
taken_off : (collapse : Bool) (letter : ℕ) (behind : List ℕ) → leaves_pattern collapse letter behind ≡ true
    → (collapse ≡ true) × (length behind ≡ 0) × (letter ≡ 0x4C → ⊥)
taken_off collapse letter behind e =
    let x = and_left (collapse && eqb (length behind) 0) (not (eqb letter 0x4C)) e in
    let y = and_right (collapse && eqb (length behind) 0) (not (eqb letter 0x4C)) e in
    (and_left collapse (eqb (length behind) 0) x, eqb-true (length behind) 0 (and_right collapse (eqb (length behind) 0) x), λ k. clash y (rw (eq-eqb letter 0x4C k)))

-- or it is none: a line with nothing behind it is a text
stays_on : (collapse : Bool) (letter : ℕ) (behind : List ℕ) → leaves_pattern collapse letter behind ≡ false → collapse ≡ true → length behind ≡ 0
    → letter ≡ 0x4C
stays_on collapse letter behind e k n = go (eqb letter 0x4C) refl
  where
    go : (b : Bool) → eqb letter 0x4C ≡ b → letter ≡ 0x4C
    go true x = eqb-true letter 0x4C x
    go false x = absurd (clash (sym (rw (k, eq-eqb (length behind) 0 n, x))) e)

-- a border, by its parts
border_of_lem : (g : RenderLine) → is_border g ≡ true → (a : ℕ) × (segs : List ℕ) × (hs : List Hole) × (g ≡ border a segs hs)
border_of_lem (text ps) e = absurd (let z : ◌≡◌ {A = ℕ} 0 1 = cc in omega arith)
border_of_lem (border a segs hs) e = (a, segs, hs, refl)

-- a last border that is alone is taken off
alone_off : (ms : List RenderLine) (c : Column) (a : ℕ) (segs : List ℕ) (hs : List Hole) → ms ≡ border a segs hs ∷ [] → Collapsed true ms c
    → (c.lines ≡ []) × (c.bottom ≡ some segs)
unfolding without_bottom bottom
alone_off ms c a segs hs e k = (k.0 ∙ ap without_bottom e, k.1 ∙ ap bottom e)

-- lines that passed refusal 3
readable_first : (g : RenderLine) (ms more : List RenderLine) → ms ≡ g ∷ more → readable_lines ms ≡ true → (readable_line g ≡ true) × (readable_lines more ≡ true)
unfolding readable_lines all
readable_first g ms more e k =
    let x : readable_lines (g ∷ more) ≡ true = sym (ap readable_lines e) ∙ k in
    (and_left (readable_line g) (readable_lines more) x, and_right (readable_line g) (readable_lines more) x)

-- ---- what is left

-- no lines have no bytes
no_bytes : (bs : List ℕ) → raws bs ≡ [] → length bs ≡ 0
unfolding raws raws_f
no_bytes [] e = refl
no_bytes (l ∷ []) e = absurd (let z : ◌≡◌ {A = ℕ} 0 1 = cc in omega arith)
no_bytes (l ∷ h ∷ []) e = absurd (let z : ◌≡◌ {A = ℕ} 0 1 = cc in omega arith)
no_bytes (l ∷ h ∷ o ∷ bs) e =
    absurd (by_if (λ (rs : List Raw). rs ≡ [] → ⊥) (leb (h * 256 + o) (length bs)) (λ _ x. let z : ◌≡◌ {A = ℕ} 0 1 = cc in omega arith)
    (λ _ x. let z : ◌≡◌ {A = ℕ} 0 1 = cc in omega arith) e)

end_of_bytes : (bs : List ℕ) (ls : List RenderLine) → LinesIn bs ls → ls ≡ [] → length bs ≡ 0
end_of_bytes bs ls l e = no_bytes bs (none_read (raws bs) (read_size read_line (raws bs) ls l.reads ∙ ap length e))
  where
    none_read : (rs : List Raw) → length rs ≡ 0 → rs ≡ []
    none_read [] x = refl
    none_read (r ∷ rs) x = absurd (omega arith)

module _ (bytes : List ℕ) (w to : ℕ) (collapse : Bool) (c : Column) (is : LeftIn bytes w to collapse c) where
  -- a column without lines has the same left after that
  left_stays : c.lines ≡ [] → LeftIn bytes w to collapse (next_column c)
  unfolding next_column
  left_stays e =
      record { ms = is.ms; lines_in = is.lines_in; readable = is.readable; width_is = is.width_is; to_is = is.to_is; are = stays collapse is.ms c e is.are }

  -- Nothing is left, and no border was taken off.
  pub left_none : (0 < length bytes → raws bytes ≡ broken ∷ []) → (c.lines ≡ []) × (c.bottom ≡ none) × LeftIn bytes w to collapse (next_column c)
  left_none e =
      let z = none_left collapse is.ms c (no_lines bytes is.ms (none_first bytes is.ms e is.lines_in) is.lines_in) is.are in
      (z.0, z.1, left_stays z.0)

  module _ (f : Field) (behind : List ℕ) (e : raws bytes ≡ whole_of f ∷ raws behind) where
    -- the last border is left, which was taken off
    pub record PatternLeft : Type 0 where
      pub a : ℕ
      pub segs : List ℕ
      pub hs : List Hole
      pub reads : read_line (whole_of f) ≡ some (border a segs hs)
      pub no_more : c.lines ≡ []
      pub bottom_is : c.bottom ≡ some segs
      pub goes : LeftIn bytes w to collapse (next_column c)

    pub left_off : leaves_pattern collapse f.letter behind ≡ true → PatternLeft
    left_off off =
        let (co, end, d) = taken_off collapse f.letter behind off in
        let t = first_line bytes behind f is.ms e is.lines_in in
        let (a, segs, hs, one) = border_of_lem t.one (line_border f.letter f.content.now t.one t.reads d) in
        let m : is.ms ≡ border a segs hs ∷ [] = t.are ∙ ap (λ (x : List RenderLine). t.one ∷ x) (no_lines behind t.more end t.goes) ∙ ap (λ (x : RenderLine). x ∷ []) one in
        let z = alone_off is.ms c a segs hs m (rw co at is.are) in
        record { a = a; segs = segs; hs = hs; reads = t.reads ∙ ap some one; no_more = z.0; bottom_is = z.1; goes = left_stays z.0 }

    -- a line is left
    pub record LineLeft : Type 0 where
      pub one : RenderLine
      pub tail : List RenderLine
      pub reads : read_line (whole_of f) ≡ some one
      pub ok : readable_line one ≡ true
      pub are : c.lines ≡ one ∷ tail
      pub goes : LeftIn behind w to collapse (next_column c)

    pub left_line : leaves_pattern collapse f.letter behind ≡ false → LineLeft
    unfolding next_column
    left_line on =
        let t = first_line bytes behind f is.ms e is.lines_in in
        let ok = readable_first t.one is.ms t.more t.are is.readable in
        let last_text : collapse ≡ true → t.more ≡ [] → is_border t.one ≡ false =
        λ co end. line_text f.letter f.content.now t.one t.reads (stays_on collapse f.letter behind on co (end_of_bytes behind t.more t.goes end)) in
        let x = first_of_lem collapse t.one is.ms t.more c t.are last_text is.are in
        record {
          one = t.one;
          tail = x.tail;
          reads = t.reads;
          ok = ok.0;
          are = x.are;
          goes = record { ms = t.more; lines_in = t.goes; readable = ok.1; width_is = is.width_is; to_is = is.to_is; are = x.goes };
        }

module _ (bytes : List ℕ) (collapse : Bool) where
  -- Nothing is left.
  pub moves_none : (0 < length bytes → raws bytes ≡ broken ∷ []) → MovesOn bytes collapse bytes
  moves_none e w to c is = (left_none bytes w to collapse c is e).2

  -- The last border is left, which was taken off.
  pub moves_off : (f : Field) (behind : List ℕ) → raws bytes ≡ whole_of f ∷ raws behind → leaves_pattern collapse f.letter behind ≡ true → MovesOn bytes collapse bytes
  moves_off f behind e off w to c is = (left_off bytes w to collapse c is f behind e off).goes

  -- A line is left.
  pub moves_line : (f : Field) (behind : List ℕ) → raws bytes ≡ whole_of f ∷ raws behind → leaves_pattern collapse f.letter behind ≡ false → MovesOn bytes collapse behind
  moves_line f behind e on w to c is = (left_line bytes w to collapse c is f behind e on).goes

-- ---- all lines

-- Without collapsing they stand as they are.
pub first_plain : (bytes : List ℕ) (collapse : Bool) → collapse ≡ false → FindsFirst bytes collapse bytes
unfolding down column_of
first_plain bytes false e x l = record { ms = x.lines; lines_in = l.lines_in; readable = l.readable; width_is = refl; to_is = refl; are = (refl, refl) }
first_plain bytes true e x l = absurd (clash refl e)

-- With it, behind a first border.
pub first_off : (bytes : List ℕ) (collapse : Bool) (r : List ℕ) → collapse ≡ true → PassesTop bytes r → FindsFirst bytes collapse r
unfolding down column_of
first_off bytes true r e f x l =
    record { ms = without_top x.lines; lines_in = f x.lines l.lines_in; readable = readable_top x.lines l.readable; width_is = refl; to_is = refl; are = (refl, refl) }
first_off bytes false r e f x l = absurd (clash e refl)

-- One line further down.
pub left_on : (bytes left : List ℕ) (collapse : Bool) (i : ℕ) (r : List ℕ) → FindsLeft bytes collapse i left → MovesOn left collapse r
    → FindsLeft bytes collapse (i + 1) r
unfolding down
left_on bytes left collapse i r f g x l = rw (add-one i) (g x.width x.to (down i (column_of collapse x)) (f x l))
