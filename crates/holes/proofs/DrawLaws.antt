-- The walk over a border's segments and holes that draws them on a line.
-- Assumes nothing.
use mathlib.Core.Path.{◌≡◌, refl, sym, ap, ap₂, ◌∙◌}
use mathlib.Core.Bool.{Bool, true, false, not, ◌&&◌}
use mathlib.Core.List.{List, [], ◌∷◌, ◌++◌, map}
use mathlib.Core.Option.{some}
use Prim.Native.Nat.{ℕ, ◌+◌, ◌-◌, ◌*◌, ◌≤◌, min, max}
use native.Mathlib.Omega.{arith}
use lib.Dec.{leb}
use lib.ListN.{length, drop, length-drop}
use lib.Seq.{take_all}
use borrow.Author.Tests.{leb-true}
use Rattle.characters.proofs.Tests.{and_left, and_right, or_left, or_right}
use Rattle.fields.specs.Field.{whole, part, all}
use Rattle.fields.specs.Sheet.{Piece, str, read_piece, readable_piece}
use Rattle.fields.specs.Widths.{piece_width}
use Rattle.borders.specs.BorderHoriz.{stretch_to, to_string, as_str, sliceable, up_to_hole, at_hole, into_tagged_from}
use Rattle.fields.specs.TaggedLine.{push_str, push}
use Rattle.rows.proofs.Lines.{push_twice}
use Rattle.fields.specs.Spans.{Hole, RawHole, punched, torn, raw_holes, read_holes, ends_within, readable_hole}
use Rattle.rows.specs.Columns.{overlaps, holed_text}
use Rattle.places.proofs.HolesLaws.{read_first_hole, read_torn, read_no_holes, raw_size, raw_size-cons, raw_size_in}
use Rattle.tagged_line.specs.Held.{Within, LineGrown, Held}
use Rattle.places.specs.declared.border.Border.{Border}
use Rattle.tagged_line.specs.declared.line.Line.{Line}
use Rattle.holes.specs.declared.draw.Shown.{Shown}
use Rattle.holes.specs.declared.draw.Shown.TheVariants.{AsText, AsItStands}
use Rattle.tagged_line.proofs.Laying.{grown_none}
use Rattle.holes.specs.Cols.{CountsPiece}
use Rattle.holes.specs.Drawing.{drawn_most, DrawsPart, shown_piece, shown_hole, PushesPiece, Fits, DrawsHoles, PushesHoled, PushesTagged}
use Rattle.holes.proofs.Segments.{stretch_length, shown_width, at_hole_lem, up_to_hole_lem}

-- ---- the first of holes that fit

-- the holes that are left, each within n segments, whose texts and names passed refusal 3
pub record FitsLeft (n : ℕ) (left : List RawHole) (hs : List Hole) : Type 0 where
  pub reads : read_holes left ≡ some hs
  pub within : all (ends_within n) hs ≡ true
  pub readable : all readable_hole hs ≡ true

pub fits_left : (n : ℕ) (holes : List ℕ) (hs : List Hole) (left : List RawHole) → left ≡ raw_holes holes → Fits n holes hs → FitsLeft n left hs
fits_left n holes hs left e f = record { reads = rw e f.reads.reads; within = f.within; readable = f.readable }

pub record FitsFirst (n p l : ℕ) (t : List ℕ) (more : List RawHole) (hs : List Hole) : Type 0 where
  pub one : Hole
  pub rest : List Hole
  pub are : hs ≡ one ∷ rest
  pub place_is : one.place ≡ p
  pub reads : read_piece (whole l t) ≡ some one.piece
  pub readable : readable_piece one.piece ≡ true
  pub ends : one.place + piece_width one.piece ≤ n
  pub goes : FitsLeft n more rest

pub ends_in : (n : ℕ) (h : Hole) → ends_within n h ≡ true → readable_piece h.piece ≡ true → h.place + piece_width h.piece ≤ n
ends_in n h e r = leb-true (h.place + piece_width h.piece) n (rw r at e)

pub fits_first : (n p l : ℕ) (t : List ℕ) (left more : List RawHole) (hs : List Hole) → left ≡ punched p (whole l t) ∷ more → FitsLeft n left hs
    → FitsFirst n p l t more hs
unfolding all
fits_first n p l t left more hs x g =
    let f = read_first_hole p l t more hs (rw x at g.reads) in
    let w : (ends_within n f.one && all (ends_within n) f.more) ≡ true = rw f.are at g.within in
    let q : (readable_hole f.one && all readable_hole f.more) ≡ true = rw f.are at g.readable in
    let ok : readable_hole f.one ≡ true = and_left (readable_hole f.one) (all readable_hole f.more) q in
    record {
      one = f.one;
      rest = f.more;
      are = f.are;
      place_is = f.place_is;
      reads = f.reads;
      readable = ok;
      ends = ends_in n f.one (and_left (ends_within n f.one) (all (ends_within n) f.more) w) ok;
      goes = record { reads = f.goes; within = and_right (ends_within n f.one) (all (ends_within n) f.more) w; readable = and_right (readable_hole f.one) (all readable_hole f.more) q };
    }

-- ---- numbers

pub grown_on : (p q r : Line) (n k m : ℕ) → LineGrown p q n → LineGrown q r k → n + k ≤ m → LineGrown p r m
grown_on p q r n k m g h l =
    record {
      base = h.base ∙ g.base;
      piece = h.piece;
      on = omega (arith, g.on, h.on);
      at = omega (arith, g.at, h.at);
      wider = omega (arith, g.wider, h.wider);
      cols = omega (arith, g.cols, h.cols);
    }

pub within_on : (p q : Line) (n k m : ℕ) → Within p m → LineGrown p q n → n + k ≤ m → Within q k
within_on p q n k m w g l =
    record {
      base = omega (arith, w.base, g.base, g.on);
      piece = g.piece;
      room = omega (arith, w.room, g.at);
      cols = omega (arith, w.cols, g.cols);
    }

-- where a hole begins: at least pos, and no further than the border's end unless pos is
begin_low : (pos m b : ℕ) → b ≡ max pos m → pos ≤ b
begin_low pos m b e = omega arith

min_most : (place end m : ℕ) → m ≡ min place end → m ≤ end
min_most place end m e = omega arith

pub begin_most : (pos place end m b x : ℕ) → m ≡ min place end → b ≡ max pos m → pos ≤ end + x → b ≤ end + x
begin_most pos place end m b x em eb h = let k = min_most place end m em in omega arith

reaches : (pos m end b : ℕ) → b ≡ max pos m → m ≤ end → b - pos ≤ end - pos
reaches pos m end b e h = omega arith

-- what the bytes passed add up to
sum_segments : (pos b d : ℕ) → pos ≤ b → 8 * pos + 3 * d + (4 + 8 * (b - pos)) ≤ 8 * b + 3 * d + 4
sum_segments pos b d h = omega arith

room_piece : (b d x k n to end : ℕ) → b ≤ end + 2 * d → end ≤ k + to → d + x + 5 ≤ n → 8 * b + 3 * d + 4 + (4 + 3 * x) ≤ drawn_most (k + n) to
room_piece b d x k n to end h i j = omega arith

pub few_next : (b c d e x end : ℕ) → b ≤ end + 2 * d → c ≤ 2 * x → d + x + 5 ≡ e → b + c ≤ end + 2 * e
few_next b c d e x end h i j = omega arith

grown_next : (b c d e x : ℕ) → d + x + 5 ≡ e → 8 * b + 3 * d + 4 + (3 + 3 * x) ≤ 8 * (b + c) + 3 * e
grown_next b c d e x j = omega arith

-- of so many bytes those that are not of the holes left
abbrev pub passed : ℕ → List RawHole → ℕ
passed n left = n - raw_size left

-- a hole's bytes
pub record PassedHole (n x : ℕ) (left more : List RawHole) : Type 0 where
  pub on : passed n left + x + 5 ≡ passed n more
  pub size : raw_size more ≤ n
  pub fits : x + 5 ≤ n
  pub all_fit : passed n left + x + 5 ≤ n

pub passed_hole : (n p l : ℕ) (t : List ℕ) (left more : List RawHole) → raw_size left ≤ n → left ≡ punched p (whole l t) ∷ more → PassedHole n (length t) left more
passed_hole n p l t left more h e =
    let k : raw_size left ≡ 5 + length t + raw_size more = rw e (raw_size-cons p l t more) in
    record { on = omega arith; size = omega arith; fits = omega arith; all_fit = omega arith }

pub left_in : (holes : List ℕ) (left : List RawHole) → left ≡ raw_holes holes → raw_size left ≤ length holes
left_in holes left e = rw e (raw_size_in holes)

-- ---- the walk

-- over segments and the bytes of holes
abbrev pub DrawsWalk : List ℕ → Line → ℕ → List ℕ → List ℕ → ℕ → Shown → List ℕ → Line → Type 0
DrawsWalk out p a segs holes to shown out' r =
    (hs : List Hole) → Fits (length segs) holes hs → (st : List ℕ) (l : List Piece) → Held st l out p
    → Held st (into_tagged_from a (stretch_to segs to) l 0 (map (shown_hole shown a) hs)) out' r

module _ (out₀ : List ℕ) (p₀ : Line) (a : ℕ) (segs holes : List ℕ) (to : ℕ) (shown : Shown) (end : ℕ) where
  -- up to the holes that are left, and to a column, the border is drawn
  pub record Drawing (out : List ℕ) (p : Line) (pos : ℕ) (left : List RawHole) : Type 0 where
    pub inside : raw_size left ≤ length holes
    pub size : length out ≡ length out₀
    pub few : pos ≤ end + 2 * passed (length holes) left
    pub grown : LineGrown p₀ p (8 * pos + 3 * passed (length holes) left)
    pub left_is : (hs : List Hole) → Fits (length segs) holes hs → (st : List ℕ) (l : List Piece) → Held st l out₀ p₀
        → (m : List Piece) × (rs : List Hole) × FitsLeft (length segs) left rs × Held st m out p
        × (into_tagged_from a (stretch_to segs to) m pos (map (shown_hole shown a) rs)
        ≡ into_tagged_from a (stretch_to segs to) l 0 (map (shown_hole shown a) hs))

  -- before the first hole
  pub draw_start : (n : ℕ) (left : List RawHole) → left ≡ raw_holes holes → Within p₀ n → Drawing out₀ p₀ 0 left
  draw_start n left e w =
      record {
        inside = left_in holes left e;
        size = refl;
        few = omega arith;
        grown = grown_none p₀ n (8 * 0 + 3 * passed (length holes) left) w;
        left_is = λ hs f st l g. (l, hs, fits_left (length segs) holes hs left e f, g, refl);
      }

  -- where the border is stretched to
  module _ (ee : end ≡ max to (length segs)) where
    end_length : length (stretch_to segs to) ≡ end
    end_length = stretch_length segs to ∙ omega arith

    pub end_most : end ≤ length segs + to
    end_most = omega arith

    pub own_length : length segs ≤ end
    own_length = omega arith

    module _ (out : List ℕ) (p : Line) (pos : ℕ) (left : List RawHole) (w : Drawing out p pos left) where
      module _ (place m b l : ℕ) (t : List ℕ) (more : List RawHole) (em : m ≡ min place end) (eb : b ≡ max pos m) (x : left ≡ punched place (whole l t) ∷ more) where
        -- a hole
        pub draw_piece_room : (q : Line) → Within p₀ (drawn_most (length segs + length holes) to) → LineGrown p q (4 + 8 * (b - pos)) → Within q (4 + 3 * length t)
        draw_piece_room q ww g =
            let d = passed (length holes) left in
            let most = begin_most pos place end m b (2 * d) em eb w.few in
            within_on p₀ q (8 * b + 3 * d + 4) (4 + 3 * length t) (drawn_most (length segs + length holes) to) ww
            (grown_on p₀ p q (8 * pos + 3 * d) (4 + 8 * (b - pos)) (8 * b + 3 * d + 4) w.grown g (sum_segments pos b d (begin_low pos m b eb)))
            (room_piece b d (length t) (length segs) (length holes) to end most end_most (passed_hole (length holes) place l t left more w.inside x).all_fit)

        module _ (c : ℕ) (out1 out2 : List ℕ) (p1 p2 : Line) (g1 : LineGrown p p1 (4 + 8 * (b - pos))) (d1 : DrawsPart out p a segs pos b out1 p1)
            (g2 : LineGrown p1 p2 (3 + 3 * length t)) (d2 : PushesPiece out1 p1 a (whole l t) shown out2 p2)
            (fc : c ≤ 2 * length t) (ec : CountsPiece (whole l t) c) where
          next_few : b + c ≤ end + 2 * passed (length holes) more
          next_few =
              let d = passed (length holes) left in
              few_next b c d (passed (length holes) more) (length t) end (begin_most pos place end m b (2 * d) em eb w.few) fc
              (passed_hole (length holes) place l t left more w.inside x).on

          next_grown : LineGrown p₀ p2 (8 * (b + c) + 3 * passed (length holes) more)
          next_grown =
              let d = passed (length holes) left in
              grown_on p₀ p1 p2 (8 * b + 3 * d + 4) (3 + 3 * length t) (8 * (b + c) + 3 * passed (length holes) more)
              (grown_on p₀ p p1 (8 * pos + 3 * d) (4 + 8 * (b - pos)) (8 * b + 3 * d + 4) w.grown g1 (sum_segments pos b d (begin_low pos m b eb)))
              g2 (grown_next b c d (passed (length holes) more) (length t) (passed_hole (length holes) place l t left more w.inside x).on)

          -- one hole on
          pub draw_on : length out2 ≡ length out₀ → Drawing out2 p2 (b + c) more
          unfolding into_tagged_from
          draw_on same =
              record {
                inside = (passed_hole (length holes) place l t left more w.inside x).size;
                size = same;
                few = next_few;
                grown = next_grown;
                left_is = λ hs fits st₀ l₀ held.
                    let (m₁, rs, fr, hm, eq) = w.left_is hs fits st₀ l₀ held in
                    let f = fits_first (length segs) place l t left more rs x fr in
                    let S = stretch_to segs to in
                    let hp = f.one.place in
                    let q = f.one.piece in
                    let inner : hp ≤ end = omega (arith, f.ends, own_length) in
                    let eh : b ≡ max pos (min hp end) = rw (f.place_is, ← em) eb in
                    let far : b - pos ≤ length S - pos = rw end_length (reaches pos m end b eb (min_most place end m em)) in
                    let held1 : Held st₀ (up_to_hole a S m₁ pos hp) out1 p1 = rw (up_to_hole_lem a S m₁ pos hp end b inner eh) at (d1 to far st₀ m₁ hm) in
                    let held2 = d2 q f.reads f.readable st₀ (up_to_hole a S m₁ pos hp) held1 in
                    let n : b + c ≡ at_hole pos hp + piece_width (shown_piece shown a q) =
                    omega (arith, at_hole_lem pos hp end b inner eh, shown_width shown a q, ec q f.reads) in (
                      push (up_to_hole a S m₁ pos hp) (shown_piece shown a q),
                      f.rest,
                      f.goes,
                      held2,
                      ap (λ (i : ℕ). into_tagged_from a S (push (up_to_hole a S m₁ pos hp) (shown_piece shown a q)) i (map (shown_hole shown a) f.rest)) n
                          ∙ sym (ap (λ (k : List Hole). into_tagged_from a S m₁ pos (map (shown_hole shown a) k)) f.are)
                          ∙ eq,
                    );
              }

      -- a rest that is no hole is not there
      pub draw_torn : (more : List RawHole) → left ≡ torn ∷ more → DrawsWalk out₀ p₀ a segs holes to shown out p
      draw_torn more x hs fits st l held =
          let (m, rs, fr, hm, eq) = w.left_is hs fits st l held in absurd (read_torn more rs (rw x at fr.reads))

      -- past the last hole
      pub draw_end : (out1 : List ℕ) (p1 : Line) → left ≡ [] → DrawsPart out p a segs pos end out1 p1
          → DrawsWalk out₀ p₀ a segs holes to shown out1 p1
      unfolding into_tagged_from
      draw_end out1 p1 x d hs fits st l held =
          let (m, rs, fr, hm, eq) = w.left_is hs fits st l held in
          let S = stretch_to segs to in
          let far : end - pos ≤ length S - pos = rw end_length (omega arith) in
          let rest : part pos end S ≡ drop pos S = take_all (end - pos) (drop pos S) (rw (length-drop, end_length) (omega arith)) in
          let done : push_str m a (to_string (drop pos S)) ≡ into_tagged_from a S l 0 (map (shown_hole shown a) hs) =
          sym (ap (λ (k : List Hole). into_tagged_from a S m pos (map (shown_hole shown a) k)) (read_no_holes rs (rw x at fr.reads))) ∙ eq in
          rw (← done, ← rest) (d to far st m hm)

-- ---- `to_string` and `into_tagged_line`

-- holes shown as they stand
as_stands : (a : ℕ) (hs : List Hole) → map (shown_hole AsItStands a) hs ≡ hs
as_stands a [] = refl
as_stands a (h ∷ hs) = ap (λ (l : List Hole). h ∷ l) (as_stands a hs)

not_false : (b : Bool) → not b ≡ false → b ≡ true
not_false true e = refl
not_false false e = sym e

-- WHERE NO HOLES OVERLAP, the walk with texts under one annotation pushes what `to_string` gives.
pub holed_walk : (a : ℕ) (segs : List ℕ) (l : List Piece) (pos : ℕ) (hs : List Hole) → overlaps segs pos hs ≡ false
    → into_tagged_from a segs l pos (map (shown_hole AsText a) hs) ≡ push_str l a (holed_text segs pos hs)
unfolding into_tagged_from overlaps holed_text push
holed_walk a segs l pos [] e = refl
holed_walk a segs l pos (h ∷ hs) e =
    let k = piece_width h.piece in
    let X = to_string (part pos h.place segs) in
    let Y = as_str h.piece in
    let Z = holed_text segs (h.place + k) hs in
    let ok = not_false (sliceable pos h.place segs) (or_left (not (sliceable pos h.place segs)) (overlaps segs (h.place + k) hs) e) in
    let lo : pos ≤ h.place = leb-true pos h.place (and_left (leb pos h.place) (leb h.place (length segs)) ok) in
    let eh : h.place ≡ max pos (min h.place h.place) = omega arith in
    let le : h.place ≤ h.place = omega arith in
    let u : push_str l a X ≡ up_to_hole a segs l pos h.place = up_to_hole_lem a segs l pos h.place h.place h.place le eh in
    let n : at_hole pos h.place + piece_width (str a Y) ≡ h.place + k = omega (arith, at_hole_lem pos h.place h.place h.place le eh, shown_width AsText a h.piece) in
    ap₂ (λ (m : List Piece) (i : ℕ). into_tagged_from a segs (push_str m a Y) i (map (shown_hole AsText a) hs)) (sym u) n
    ∙ holed_walk a segs (push_str (push_str l a X) a Y) (h.place + k) hs (or_right (not (sliceable pos h.place segs)) (overlaps segs (h.place + k) hs) e)
    ∙ push_twice (push_str l a X) a Y Z
    ∙ push_twice l a X (Y ++ Z)

pub pushed_holed : (out out' : List ℕ) (p r : Line) (c : ℕ) (border : Border) (to : ℕ) → DrawsHoles out p c border to AsText out' r
    → PushesHoled out p c border to out' r
pushed_holed out out' p r c border to d a ss hs b ok apart st l h =
    rw (← holed_walk c (stretch_to ss to) l 0 hs apart)
    (rw b.segments at (d hs (record { reads = b.punched; within = rw b.segments b.within; readable = ok }) st l h))

pub pushed_tagged : (out out' : List ℕ) (p r : Line) (border : Border) (to : ℕ) → DrawsHoles out p border.annotation border to AsItStands out' r
    → PushesTagged out p border to out' r
pushed_tagged out out' p r border to d a ss hs b ok st l h =
    rw (as_stands border.annotation hs, b.segments, b.annotation)
    at (d hs (record { reads = b.punched; within = rw b.segments b.within; readable = ok }) st l h)
