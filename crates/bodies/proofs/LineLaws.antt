-- Laws of the lines that bytes are, one after the other.
-- Assumes nothing.
use mathlib.Core.Path.{◌≡◌, refl, ◌∙◌}
use mathlib.Core.Bool.{true, false, not, ◌&&◌}
use mathlib.Core.Option.{Option, none, some, map}
use mathlib.Core.List.{List, [], ◌∷◌}
use Prim.Native.Nat.{ℕ, ◌+◌, ◌*◌, ◌<◌}
use native.Mathlib.Omega.{arith}
use lib.Dec.{eqb, leb}
use lib.ListN.{length, take, drop}
use borrow.Author.Tests.{eq-eqb, ne_eqb}
use Rattle.characters.proofs.Tests.{by_if, clash}
use Rattle.fields.specs.Field.{whole, broken, raws, read_all, all}
use Rattle.fields.specs.Sheet.{Piece, read_piece, is_segment}
use Rattle.fields.specs.List.{whole_of}
use Rattle.fields.specs.declared.raw.Field.{Field}
use Rattle.fields.proofs.Readings.{read_first, read_none}
use Rattle.fields.proofs.Fields.{raws_empty}
use Rattle.fields.specs.Spans.{Hole, RenderLine, text, ends_within, holed, read_holes, raw_holes, read_holed, read_border, read_line}
use Rattle.fields.specs.Places.{LinesIn}
use Rattle.rows.proofs.Reading.{OnSome, some_of}
use Rattle.rows.specs.SubRenderer.{is_border}
use Rattle.bodies.specs.Walk.{unholed}
use Rattle.places.proofs.BorderLaws.{broken_line}

-- ---- the first of some lines

-- the line that a field is, and those in the bytes behind it
pub record FirstLine (f : Field) (rest : List ℕ) (ls : List RenderLine) : Type 0 where
  pub one : RenderLine
  pub more : List RenderLine
  pub are : ls ≡ one ∷ more
  pub reads : read_line (whole_of f) ≡ some one
  pub goes : LinesIn rest more

-- A field that bytes begin with is the first line.
pub first_line : (bytes rest : List ℕ) (f : Field) (ls : List RenderLine) → raws bytes ≡ whole_of f ∷ raws rest → LinesIn bytes ls → FirstLine f rest ls
first_line bytes rest f ls e c =
    let r = read_first read_line (whole_of f) (raws rest) ls (rw e at c.reads) in
    record { one = r.one; more = r.more; are = r.are; reads = r.first; goes = record { reads = r.later } }

-- No bytes are no lines.
pub no_lines : (bytes : List ℕ) (ls : List RenderLine) → length bytes ≡ 0 → LinesIn bytes ls → ls ≡ []
no_lines bytes ls h c = read_none read_line ls (rw (raws_empty bytes h) at c.reads)

-- Where no field stands first there are no bytes.
pub none_first : (bytes : List ℕ) (ls : List RenderLine) → (0 < length bytes → raws bytes ≡ broken ∷ []) → LinesIn bytes ls → length bytes ≡ 0
none_first [] ls e c = refl
none_first (x ∷ bytes) ls e c = absurd (broken_line [] ls (rw (e (omega arith)) at c.reads))

-- ---- a line's letter

-- a border unless the letter is L
abbrev Kind : ℕ → RenderLine → Type 0
Kind letter l = is_border l ≡ not (eqb letter 0x4C)

kind_text : (letter : ℕ) (o : Option (List Piece)) → eqb letter 0x4C ≡ true → OnSome (Kind letter) (map text o)
kind_text letter none e = tt
kind_text letter (some ps) e = rw e

kind_plain : (letter : ℕ) (t : List ℕ) → eqb letter 0x4C ≡ false → OnSome (Kind letter) (read_border t)
kind_plain letter [] e = tt
kind_plain letter (a ∷ segs) e = by_if (OnSome (Kind letter)) (all is_segment segs) (λ _. rw e) (λ _. tt)

kind_held : (letter a : ℕ) (segs : List ℕ) (o : Option (List Hole)) → eqb letter 0x4C ≡ false → OnSome (Kind letter) (holed a segs o)
kind_held letter a segs none e = tt
kind_held letter a segs (some []) e = tt
kind_held letter a segs (some (h ∷ hs)) e =
    by_if (OnSome (Kind letter)) (all is_segment segs && all (ends_within (length segs)) (h ∷ hs)) (λ _. rw e) (λ _. tt)

kind_holed : (letter : ℕ) (t : List ℕ) → eqb letter 0x4C ≡ false → OnSome (Kind letter) (read_holed t)
unfolding read_holed
kind_holed letter [] e = tt
kind_holed letter (a ∷ []) e = tt
kind_holed letter (a ∷ h ∷ []) e = tt
kind_holed letter (a ∷ h ∷ o ∷ rest) e =
    by_if (OnSome (Kind letter)) (leb (h * 256 + o) (length rest))
    (λ _. kind_held letter a (take (h * 256 + o) rest) (read_holes (raw_holes (drop (h * 256 + o) rest))) e) (λ _. tt)

kind_of : (letter : ℕ) (t : List ℕ) → OnSome (Kind letter) (read_line (whole letter t))
unfolding read_line
kind_of letter t =
    by_if (OnSome (Kind letter)) (eqb letter 0x4C) (λ e. kind_text letter (read_all read_piece (raws t)) e)
    (λ e.
    by_if (OnSome (Kind letter)) (eqb letter 0x42) (λ _. kind_plain letter t e)
    (λ _. by_if (OnSome (Kind letter)) (eqb letter 0x47) (λ _. kind_holed letter t e) (λ _. tt)))

-- A LINE THAT IS READ IS A BORDER UNLESS ITS LETTER IS L.
pub line_kind : (letter : ℕ) (t : List ℕ) (l : RenderLine) → read_line (whole letter t) ≡ some l → is_border l ≡ not (eqb letter 0x4C)
line_kind letter t l e = some_of (Kind letter) (read_line (whole letter t)) l e (kind_of letter t)

pub line_border : (letter : ℕ) (t : List ℕ) (l : RenderLine) → read_line (whole letter t) ≡ some l → (letter ≡ 0x4C → ⊥) → is_border l ≡ true
line_border letter t l e n = line_kind letter t l e ∙ rw (ne_eqb letter 0x4C n)

pub line_text : (letter : ℕ) (t : List ℕ) (l : RenderLine) → read_line (whole letter t) ≡ some l → letter ≡ 0x4C → is_border l ≡ false
line_text letter t l e n = line_kind letter t l e ∙ rw (eq-eqb letter 0x4C n)

unholed_text : (o : Option (List Piece)) → OnSome (λ (l : RenderLine). unholed l ≡ true) (map text o)
unholed_text none = tt
unholed_text (some ps) = refl

unholed_border : (t : List ℕ) → OnSome (λ (l : RenderLine). unholed l ≡ true) (read_border t)
unholed_border [] = tt
unholed_border (a ∷ segs) = by_if (OnSome (λ (l : RenderLine). unholed l ≡ true)) (all is_segment segs) (λ _. refl) (λ _. tt)

unholed_of : (letter : ℕ) (t : List ℕ) → eqb letter 0x47 ≡ false → OnSome (λ (l : RenderLine). unholed l ≡ true) (read_line (whole letter t))
unfolding read_line
unholed_of letter t g =
    by_if (OnSome (λ (l : RenderLine). unholed l ≡ true)) (eqb letter 0x4C) (λ _. unholed_text (read_all read_piece (raws t)))
    (λ _.
    by_if (OnSome (λ (l : RenderLine). unholed l ≡ true)) (eqb letter 0x42) (λ _. unholed_border t)
    (λ _. by_if (OnSome (λ (l : RenderLine). unholed l ≡ true)) (eqb letter 0x47) (λ e. absurd (clash e g)) (λ _. tt)))

-- A LINE THAT IS READ HAS NO HOLES UNLESS ITS LETTER IS G.
pub line_unholed : (letter : ℕ) (t : List ℕ) (l : RenderLine) → read_line (whole letter t) ≡ some l → eqb letter 0x47 ≡ false → unholed l ≡ true
line_unholed letter t l e g = some_of (λ (l : RenderLine). unholed l ≡ true) (read_line (whole letter t)) l e (unholed_of letter t g)
