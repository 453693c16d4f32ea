-- The columns of a line's pieces, field by field, and of a border with holes, hole by hole.
-- Assumes nothing.
use mathlib.Core.Path.{◌≡◌, refl, sym, ap, ◌∙◌}
use mathlib.Core.Bool.{true}
use mathlib.Core.Logic.{⊎_elim}
use mathlib.Core.Option.{none, some}
use mathlib.Core.List.{List, [], ◌∷◌, map}
use Prim.Native.Nat.{ℕ, ◌+◌, ◌-◌, ◌*◌, ◌≤◌, min, max}
use native.Mathlib.Omega.{arith}
use lib.ListN.{length, drop, length-drop}
use borrow.Author.Tests.{lt-ltb, le-ltb}
use Rattle.characters.specs.Utf8.{chars}
use Rattle.characters.proofs.Tests.{and_left, and_right, lt_or_le}
use Rattle.fields.specs.Field.{Raw, whole, broken, raws, read_all, part, all}
use Rattle.fields.specs.Sheet.{Piece, read_piece}
use Rattle.fields.specs.Widths.{text_width, piece_width, width}
use Rattle.fields.proofs.Back.{Every}
use Rattle.fields.proofs.Sizes.{raws_size, raws_bytes}
use Rattle.fields.proofs.Parts.{part_length}
use Rattle.fields.proofs.Readings.{read_first, read_none}
use Rattle.borders.specs.declared.draw.Drawing.TheVariants.{Segments}
use Rattle.borders.specs.BorderHoriz.{to_string, glyph, up_to_hole, at_hole, into_tagged_from}
use Rattle.borders.proofs.Drawing.{drawn_string, drawn_chars}
use Rattle.fields.specs.Text.{WellFormed}
use Rattle.fields.specs.TaggedLine.{WellFormedPiece, push, add_piece}
use Rattle.rows.proofs.Lines.{push_width, push_formed, add_width, add_formed}
use Rattle.fields.specs.Spans.{Hole, RawHole, punched, torn, raw_holes, ends_within, readable_hole}
use Rattle.places.proofs.HolesLaws.{read_torn, read_no_holes, raw_size}
use Rattle.tagged_line.specs.Pieces.{PiecesOf}
use Rattle.tagged_line.proofs.Holding.{drawn_width}
use Rattle.tagged_line.proofs.Laying.{formed}
use Rattle.holes.specs.Cols.{CountsPiece, CountsPieces, walk_end, EndsAt}
use Rattle.holes.specs.Drawing.{Fits}
use Rattle.holes.proofs.Segments.{at_hole_lem}
use Rattle.holes.proofs.DrawLaws.{FitsLeft, fits_left, fits_first, ends_in, begin_most, few_next, passed, passed_hole, left_in}

-- ---- the pieces of a content

-- The columns of some fields are counted, and the others are left.
pub record Counted (content : List ℕ) (cols : ℕ) (left : List Raw) : Type 0 where
  pub few : cols + 2 * raws_size left ≤ 2 * length content
  pub pieces : (ps : List Piece) → PiecesOf content ps → (rs : List Piece) × (read_all read_piece left ≡ some rs) × (cols + width rs ≡ width ps)

pub count_start : (content : List ℕ) (left : List Raw) → left ≡ raws content → Counted content 0 left
count_start content left e = rw e (record { few = omega (arith, raws_bytes content); pieces = λ ps r. (ps, r, omega arith) })

module _ (content : List ℕ) (cols : ℕ) (left : List Raw) (w : Counted content cols left) where
  -- a field
  pub count_on : (l c : ℕ) (t : List ℕ) (rest : List Raw) → left ≡ whole l t ∷ rest → c ≤ 2 * length t → CountsPiece (whole l t) c
      → Counted content (cols + c) rest
  unfolding width
  count_on l c t rest e few one =
      let n : raws_size left ≡ 3 + length t + raws_size rest = ap raws_size e in
      record {
        few = omega (arith, w.few);
        pieces = λ ps read.
            let (rs, er, eq) = w.pieces ps read in
            let x = read_first read_piece (whole l t) rest rs (rw e at er) in
            let k : width rs ≡ piece_width x.one + width x.more = ap width x.are in
            (x.more, x.later, omega (arith, k, one x.one x.first, eq));
      }

  -- a rest that is no field
  pub count_broken : (rest : List Raw) → left ≡ broken ∷ rest → Counted content cols rest
  unfolding read_piece
  count_broken rest e =
      let n : raws_size left ≡ raws_size rest = ap raws_size e in
      record {
        few = omega (arith, w.few);
        pieces = λ ps read.
            let (rs, er, eq) = w.pieces ps read in
            let x = read_first read_piece broken rest rs (rw e at er) in
            let none_is : none ≡ some x.one = x.first in
            let z : ◌≡◌ {A = ℕ} 0 1 = cc in absurd (omega arith);
      }

  -- past the last
  pub count_end : left ≡ [] → CountsPieces content cols
  unfolding width
  count_end e ps read =
      let (rs, er, eq) = w.pieces ps read in
      let k : width rs ≡ 0 = ap width (read_none read_piece rs (rw e at er)) in
      omega (arith, k, eq)

-- ---- the walk over the holes

pub record Walked (holes : List ℕ) (end pos : ℕ) (left : List RawHole) : Type 0 where
  pub inside : raw_size left ≤ length holes
  pub few : pos ≤ end + 2 * passed (length holes) left
  pub left_is : (n : ℕ) (hs : List Hole) → Fits n holes hs → n ≤ end → (rs : List Hole) × FitsLeft n left rs × (walk_end end pos rs ≡ walk_end end 0 hs)

pub walk_start : (holes : List ℕ) (end : ℕ) (left : List RawHole) → left ≡ raw_holes holes → Walked holes end 0 left
walk_start holes end left e =
    record { inside = left_in holes left e; few = omega arith; left_is = λ n hs f k. (hs, fits_left n holes hs left e f, refl) }

module _ (holes : List ℕ) (end pos : ℕ) (left : List RawHole) (w : Walked holes end pos left) where
  pub walk_on : (place m b l : ℕ) (t : List ℕ) (more : List RawHole) (c : ℕ) → m ≡ min place end → b ≡ max pos m → left ≡ punched place (whole l t) ∷ more
      → c ≤ 2 * length t → CountsPiece (whole l t) c → Walked holes end (b + c) more
  unfolding walk_end
  walk_on place m b l t more c em eb x fc ec =
      let d = passed (length holes) left in
      let h = passed_hole (length holes) place l t left more w.inside x in
      record {
        inside = h.size;
        few = few_next b c d (passed (length holes) more) (length t) end (begin_most pos place end m b (2 * d) em eb w.few) fc h.on;
        left_is = λ n hs fits k.
            let (rs, fr, eq) = w.left_is n hs fits k in
            let f = fits_first n place l t left more rs x fr in
            let hp = f.one.place in
            let inner : hp ≤ end = omega (arith, f.ends, k) in
            let eh : b ≡ max pos (min hp end) = rw (f.place_is, ← em) eb in
            let e : b + c ≡ at_hole pos hp + piece_width f.one.piece = omega (arith, at_hole_lem pos hp end b inner eh, ec f.one.piece f.reads) in
            (f.rest, f.goes, ap (λ (i : ℕ). walk_end end i f.rest) e ∙ sym (ap (walk_end end pos) f.are) ∙ eq);
      }

  pub walk_torn : (more : List RawHole) → left ≡ torn ∷ more → EndsAt holes end pos
  walk_torn more x n hs fits k = let (rs, fr, eq) = w.left_is n hs fits k in absurd (read_torn more rs (rw x at fr.reads))

  pub walk_done : (r : ℕ) → left ≡ [] → r ≡ max pos end → EndsAt holes end r
  unfolding walk_end
  walk_done r x e n hs fits k =
      let (rs, fr, eq) = w.left_is n hs fits k in
      let d : r ≡ pos + (end - pos) = omega arith in
      d ∙ sym (ap (walk_end end pos) (read_no_holes rs (rw x at fr.reads))) ∙ eq

-- ---- it is the columns of `into_tagged_line`

-- A border's text has a column for each segment.
pub string_width : (b : List ℕ) → text_width (to_string b) ≡ length b
string_width b = ap text_width (sym (drawn_string b)) ∙ drawn_width Segments b

-- It is well-formed.
pub string_formed : (b : List ℕ) → WellFormed (to_string b)
string_formed b = (map (glyph Segments) b, ap chars (sym (drawn_string b)) ∙ drawn_chars Segments b)

-- a line of well-formed pieces that has so many columns
abbrev pub Wide : ℕ → List Piece → Type 0
Wide n l = Every WellFormedPiece l × (width l ≡ n)

-- The segments up to a hole bring a line to its place.
pub up_to_wide : (a : ℕ) (segs : List ℕ) (l : List Piece) (pos place : ℕ) → Wide pos l → place ≤ length segs → Wide (at_hole pos place) (up_to_hole a segs l pos place)
up_to_wide a segs l pos place (f, e) h =
    ⊎_elim
    (λ k. rw (lt-ltb pos place k) (
      push_formed l a (to_string (part pos place segs)) f (string_formed (part pos place segs)),
      push_width l a (to_string (part pos place segs)) f (string_formed (part pos place segs))
          ∙ omega (arith, e, string_width (part pos place segs), part_length pos place segs h),
    ))
    (λ k. rw (le-ltb pos place k) (f, e)) (lt_or_le pos place)

-- THE COLUMNS OF A BORDER'S PIECES are where its walk ends.
pub walk_width : (a : ℕ) (segs : List ℕ) (n : ℕ) (l : List Piece) (pos : ℕ) (hs : List Hole) → n ≤ length segs → all (ends_within n) hs ≡ true
    → all readable_hole hs ≡ true → Every WellFormedPiece l → width l ≡ pos → width (into_tagged_from a segs l pos hs) ≡ walk_end (length segs) pos hs
unfolding into_tagged_from walk_end all add_piece
walk_width a segs n l pos [] h w r f e =
    push_width l a (to_string (drop pos segs)) f (string_formed (drop pos segs)) ∙ omega (arith, e, string_width (drop pos segs), length-drop pos segs)
walk_width a segs n l pos (x ∷ hs) h w r f e =
    let ok = and_left (readable_hole x) (all readable_hole hs) r in
    let ends = ends_in n x (and_left (ends_within n x) (all (ends_within n) hs) w) ok in
    let (g, d) = up_to_wide a segs l pos x.place (f, e) (omega (arith, ends, h)) in
    let m = up_to_hole a segs l pos x.place in
    walk_width a segs n (push m x.piece) (at_hole pos x.place + piece_width x.piece) hs h (and_right (ends_within n x) (all (ends_within n) hs) w)
    (and_right (readable_hole x) (all readable_hole hs) r) (add_formed true m x.piece g (formed x.piece ok))
    (add_width true m x.piece g (formed x.piece ok) ∙ ap (λ (i : ℕ). i + piece_width x.piece) d)
