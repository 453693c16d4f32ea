-- The line of a seat that comes where the border below the row is, and its pieces.
-- Assumes nothing.
use mathlib.Core.Path.{◌≡◌, refl, sym, ap, ◌∙◌}
use mathlib.Core.Bool.{Bool, true}
use mathlib.Core.Option.{some}
use mathlib.Core.List.{List, [], ◌∷◌, ◌++◌, append_assoc}
use Prim.Native.Nat.{ℕ, ◌+◌, ◌-◌, ◌≤◌}
use native.Mathlib.Omega.{arith}
use lib.Dec.{eqb, ltb}
use lib.ListN.{length, take, drop, replicate, length-append}
use lib.Seq.{sets, sets-eq, length-take-le, drop-append_seam, take-append_seam}
use Rattle.std.specs.Prelude.{Option as Maybe, Some, None, Result, Ok, Err, MatchOption}
use Rattle.characters.proofs.Tests.{by_if, and_left, clash}
use Rattle.fields.specs.Field.{Raw, raws, read_all, part, all}
use Rattle.fields.specs.List.{whole_of, raw}
use Rattle.fields.specs.declared.raw.Field.{Field}
use Rattle.fields.specs.declared.raw.Broken.{Broken}
use Rattle.fields.specs.Sheet.{Piece, str, fragment, read_piece, pieces_bytes, piece_bytes}
use Rattle.fields.specs.Widths.{piece_width}
use Rattle.fields.proofs.Back.{Every, every_append, GoodPiece, pieces_back}
use Rattle.fields.proofs.Fields.{raws_nil}
use Rattle.fields.proofs.Readings.{read_first, read_none}
use Rattle.borders.specs.BorderHoriz.{stretch_to, to_string, up_to_hole, into_tagged_from, border_into_tagged_line}
use Rattle.fields.specs.TaggedLine.{WellFormedPiece, join, push_str, push, consume, pad_to}
use Rattle.rows.specs.declared.RenderOptions.{RenderOptions}
use Rattle.fields.specs.Spans.{Hole, RenderLine, text, border, read_line, readable_line, readable_lines, holes_bytes}
use Rattle.rows.specs.SubRenderer.{filled, into_tagged_line, is_border}
use Rattle.rows.specs.Columns.{Slot, column_of, through_of, punch}
use Rattle.bodies.specs.Body.{FindsBody}
use Rattle.bodies.specs.Walk.{Skips}
use Rattle.bodies.specs.declared.body.Body.{Body}
use Rattle.bodies.proofs.LineLaws.{line_border}
use Rattle.bodies.proofs.BodyLaws.{column_readable, readable_drop}
use Rattle.places.specs.Border.{ReadsBorder}
use Rattle.places.specs.declared.border.Border.{Border}
use Rattle.places.proofs.BorderLaws.{broken_line}
use Rattle.slots.specs.Seat.{SeatIs}
use Rattle.slots.specs.declared.seat.Seat.{Seat}
use Rattle.extend_lines.proofs.Emitting.{held_new}
use Rattle.tagged_line.specs.Held.{Held, new_line}
use Rattle.tagged_line.specs.Pieces.{PiecesOf}
use Rattle.tagged_line.specs.declared.line.Line.{Line}
use Rattle.tagged_line.proofs.Laying.{all_formed}
use Rattle.holes.specs.Drawing.{PushesTagged}
use Rattle.row_holes.specs.Through.{LaidTo, LaysBorder, ThroughIs, FindsThrough, seat_through}
use Rattle.row_holes.proofs.FilledLaws.{fill_none, pad_none}
use Rattle.row_holes.proofs.Pushing.{consume_tagged}
use Rattle.seats.proofs.SurveyLaws.{column_width, column_to}
use Rattle.row_lines.proofs.SeatLaws.{text_pieces}

-- ---- pieces that were pushed have text

good_join : (l : List Piece) (a b : ℕ) (t : List ℕ) → Every GoodPiece l → Every GoodPiece (join l a (b ∷ t))
unfolding join
good_join [] a b t g = (omega arith, tt)
good_join (fragment n ∷ []) a b t g = (tt, (omega arith, tt))
good_join (str c s ∷ []) a b t g =
    by_if (λ (m : List Piece). Every GoodPiece m) (eqb c a) (λ _. (rw length-append (omega (arith, g.0)), tt)) (λ _. (g.0, (omega arith, tt)))
good_join (p ∷ q ∷ l) a b t g = (g.0, good_join (q ∷ l) a b t g.1)

good_str : (l : List Piece) (a : ℕ) (t : List ℕ) → Every GoodPiece l → Every GoodPiece (push_str l a t)
unfolding push_str
good_str l a [] g = g
good_str l a (b ∷ t) g = good_join l a b t g

good_push : (l : List Piece) (p : Piece) → Every GoodPiece l → Every GoodPiece (push l p)
unfolding push
good_push l (str a t) g = good_str l a t g
good_push l (fragment n) g = every_append GoodPiece l (fragment n ∷ []) g (tt, tt)

good_tagged : (a : ℕ) (segs : List ℕ) (l : List Piece) (pos : ℕ) (hs : List Hole) → Every GoodPiece l → Every GoodPiece (into_tagged_from a segs l pos hs)
unfolding into_tagged_from
good_tagged a segs l pos [] g = good_str l a (to_string (drop pos segs)) g
good_tagged a segs l pos (h ∷ hs) g =
    good_tagged a segs (push (up_to_hole a segs l pos h.place) h.piece) _ hs
    (good_push (up_to_hole a segs l pos h.place) h.piece
    (by_if (λ (m : List Piece). Every GoodPiece m) (ltb pos h.place) (λ _. good_str l a (to_string (part pos h.place segs)) g) (λ _. g)))

-- ---- what was laid stands there

part_sets : (l : List ℕ) (i : ℕ) (xs : List ℕ) (end : ℕ) → end ≡ i + length xs → end ≤ length l → part i end (sets l i xs) ≡ xs
part_sets l i xs end e h =
    let n : i ≡ length (take i l) = sym (length-take-le i l (omega arith)) in
    let z : i + length xs ≤ length l = omega arith in
    let m : end - i ≡ length xs = omega arith in
    let rest = xs ++ drop (i + length xs) l in
    let e₁ : sets l i xs ≡ take i l ++ rest = sets-eq xs l i z ∙ append_assoc (take i l) xs (drop (i + length xs) l) in
    let front : drop i (take i l ++ rest) ≡ rest = ap (λ (j : ℕ). drop j (take i l ++ rest)) n ∙ drop-append_seam (take i l) rest in
    rw (e₁, m) (ap (take (length xs)) front ∙ take-append_seam xs (drop (i + length xs) l))

use_held : (st laid : List ℕ) (ps : List Piece) (p : Line) → Held st ps laid p → p.base ≡ 3 → length laid ≡ length st → Every GoodPiece ps → consume [] ps ≡ ps → LaidTo laid p.at ps
use_held st laid ps p h b k g again =
    record {
      valid = h.valid;
      pushed = again;
      size = omega (arith, h.place, b);
      reads = λ small fits.
          let e = h.bytes (omega (arith, h.place, b, small, fits)) in
          let e3 : laid ≡ sets st 3 (pieces_bytes ps) = rw b at e in
          let q : part 3 p.at laid ≡ pieces_bytes ps =
          ap (part 3 p.at) e3 ∙ part_sets st 3 (pieces_bytes ps) p.at (omega (arith, h.place, b)) (omega (arith, fits, k)) in
          ap (λ (z : List ℕ). read_all read_piece (raws z)) q ∙ pieces_back ps g;
    }

pub lays_border : (st laid : List ℕ) (new line : Line) (r : Border) (to : ℕ) → new ≡ new_line 0 → line.base ≡ new.base → length laid ≡ length st
    → PushesTagged st new r to laid line → LaysBorder r to laid line.at
unfolding border_into_tagged_line consume
lays_border st laid new line r to e b k p a ss hs is ok =
    let base : line.base ≡ 3 = b ∙ ap (λ (l : Line). l.base) e in
    use_held st laid (into_tagged_from a (stretch_to ss to) [] 0 hs) line
    (p a ss hs is ok st [] (rw e (held_new st 0))) base k (good_tagged a (stretch_to ss to) [] 0 hs tt)
    (consume_tagged a (stretch_to ss to) [] [] 0 hs)

-- ---- `line_through`

-- THE LINE IS THE FIRST OF THOSE FROM THE HEIGHT ON.
pub finds_through : (seat : Seat) (collapse : Bool) (height : ℕ) (b : Body) (rest : List ℕ) (r : Maybe (Result Field Broken)) (left behind : List Raw)
    → FindsBody seat.lines.now collapse b → Skips b.lines.now height rest → left ≡ raws rest → MatchOption r ((left ≡ []) × (behind ≡ [])) (λ x. left ≡ raw x ∷ behind)
    → FindsThrough seat collapse height r
unfolding readable_lines all
finds_through seat collapse height b rest r left behind fb sk here gives x s = go r gives
  where
    ls : List RenderLine
    ls = drop height (column_of collapse x).lines

    reads : read_all read_line left ≡ some ls
    reads = ap (read_all read_line) here ∙ (sk (column_of collapse x).lines (fb x s.lines_in).lines_in).reads

    ok : readable_lines ls ≡ true
    ok = readable_drop height (column_of collapse x).lines (column_readable collapse x s.readable)

    go : (r : Maybe (Result Field Broken)) → MatchOption r ((left ≡ []) × (behind ≡ [])) (λ x. left ≡ raw x ∷ behind) → ThroughIs ls r
    go None g = read_none read_line ls (rw g.0 at reads)
    go (Some (Ok f)) g =
        let y = read_first read_line (whole_of f) behind ls (rw g at reads) in
        record { one = y.one; more = y.more; are = y.are; reads = y.first; readable = and_left (readable_line y.one) (all readable_line y.more) (rw y.are at ok) }
    go (Some (Err e)) g = broken_line behind ls (rw g at reads)

-- ---- the pieces of the line, where they stand

-- no line is left: spaces over the width
pub through_none : (o : RenderOptions) (collapse : Bool) (height : ℕ) (x : Slot) → drop height (column_of collapse x).lines ≡ []
    → seat_through o collapse height x ≡ str o.annotation (replicate x.width 0x20) ∷ []
through_none o collapse height x e =
    ap (through_of o (column_of collapse x)) e ∙ ap (λ (n : ℕ). str o.annotation (replicate n 0x20) ∷ []) (column_width collapse x)

-- the first line, filled
pub through_line : (o : RenderOptions) (collapse : Bool) (height : ℕ) (x : Slot) (one : RenderLine) (more : List RenderLine) → drop height (column_of collapse x).lines ≡ one ∷ more
    → seat_through o collapse height x ≡ into_tagged_line (filled o x.to one)
through_line o collapse height x one more e =
    ap (through_of o (column_of collapse x)) e ∙ ap (λ (n : ℕ). into_tagged_line (filled o n one)) (column_to collapse x)

-- pieces in bytes, filled to a width
pub record FilledIn (s : List ℕ) (to a : ℕ) (through : List Piece) : Type 0 where
  pub pieces : List Piece
  pub reads : PiecesOf s pieces
  pub formed : Every WellFormedPiece pieces
  pub filled_are : pad_to pieces to a ≡ through

-- the pieces that come where the border is, for each seat that has a column
abbrev pub Stand : Seat → Bool → ℕ → List ℕ → ℕ → ℕ → Type 0
Stand seat collapse height s to a =
    (x : Slot) → SeatIs seat x → 1 ≤ x.width → (o : RenderOptions) → o.annotation ≡ a → FilledIn s to a (seat_through o collapse height x)

-- No line is left.
pub spaces_stand : (seat : Seat) (collapse : Bool) (height a : ℕ) → FindsThrough seat collapse height None → Stand seat collapse height [] seat.width a
unfolding read_all
spaces_stand seat collapse height a found x is w o ea =
    record {
      pieces = [];
      reads = ap (read_all read_piece) raws_nil;
      formed = tt;
      filled_are = ap (λ (n : ℕ). pad_to [] n a) (sym is.width_is) ∙ fill_none x.width a w ∙ ap (λ (b : ℕ). str b (replicate x.width 0x20) ∷ []) (sym ea)
          ∙ sym (through_none o collapse height x (found x is));
    }

-- A text.
pub text_stands : (seat : Seat) (collapse : Bool) (height a : ℕ) (f : Field) → FindsThrough seat collapse height (Some (Ok f)) → f.letter ≡ 0x4C
    → Stand seat collapse height f.content.now seat.to a
unfolding filled
text_stands seat collapse height a f found el x is w o ea =
    let y = found x is in
    let (ps, reads, are) = text_pieces f.letter f.content.now y.one el y.reads in
    record {
      pieces = ps;
      reads = reads;
      formed = all_formed ps (ap readable_line (sym are) ∙ y.readable);
      filled_are = ap (λ (n : ℕ). pad_to ps n a) (sym is.to_is) ∙ ap (λ (b : ℕ). pad_to ps x.to b) (sym ea) ∙ ap (λ (l : RenderLine). into_tagged_line (filled o x.to l)) (sym are)
          ∙ sym (through_line o collapse height x y.one y.more y.are);
    }

-- A border that was laid: the pieces there, and their bytes.
module _ (seat : Seat) (collapse : Bool) (height : ℕ) (f : Field) (found : FindsThrough seat collapse height (Some (Ok f))) (other : f.letter ≡ 0x4C → ⊥)
    (r : Border) (rb : ReadsBorder f.letter f.content.now r) (laid : List ℕ) (end : ℕ) (lays : LaysBorder r seat.to laid end) where
  laid_is : (x : Slot) → SeatIs seat x → (o : RenderOptions) → LaidTo laid end (seat_through o collapse height x)
  unfolding filled
  laid_is x is o =
      let y = found x is in
      go y.one (line_border f.letter f.content.now y.one y.reads other) y.reads y.readable (through_line o collapse height x y.one y.more y.are)
    where
      go : (l : RenderLine) → is_border l ≡ true → read_line (whole_of f) ≡ some l → readable_line l ≡ true → seat_through o collapse height x ≡ into_tagged_line (filled o x.to l)
          → LaidTo laid end (seat_through o collapse height x)
      go (text ps) b reads ok e = absurd (clash b refl)
      go (border a ss hs) b reads ok e =
          rw (e, is.to_is) (lays a ss hs (rb a ss hs reads) ok)

  pub border_stands : (a : ℕ) (s : List ℕ) → length laid ≤ 65538 → end ≤ length laid → s ≡ part 3 end laid → Stand seat collapse height s 0 a
  border_stands a s small fits here x is w o ea =
      let l = laid_is x is o in
      record { pieces = seat_through o collapse height x; reads = rw here (l.reads small fits); formed = l.valid; filled_are = pad_none (seat_through o collapse height x) a }

  -- What is pushed again is what it was.
  pub border_size : (x : Slot) → SeatIs seat x → (o : RenderOptions) → end ≡ 3 + length (pieces_bytes (consume [] (seat_through o collapse height x)))
  border_size x is o = let l = laid_is x is o in l.size ∙ ap (λ (z : List Piece). 3 + length (pieces_bytes z)) (sym l.pushed)

  pub border_bytes : (x : Slot) → SeatIs seat x → (o : RenderOptions) → end ≡ 3 + length (pieces_bytes (seat_through o collapse height x))
  border_bytes x is o = (laid_is x is o).size

-- holes have more bytes than their pieces
pub holes_longer : (pos : ℕ) (ps : List Piece) → length (pieces_bytes ps) ≤ length (holes_bytes (punch pos ps))
unfolding punch pieces_bytes holes_bytes
holes_longer pos [] = omega arith
holes_longer pos (p ∷ ps) =
    let k = holes_longer (pos + piece_width p) ps in
    let e = length-append (piece_bytes p) (pieces_bytes ps) in
    let f = length-append (piece_bytes p) (holes_bytes (punch (pos + piece_width p) ps)) in
    omega (arith, k, e, f)
