-- Laws of what a seat gives to a line of the row.
-- Assumes nothing.
use mathlib.Core.Path.{◌≡◌, refl, sym, ap, subst, ◌∙◌}
use mathlib.Core.Bool.{Bool, true, false, ◌&&◌}
use mathlib.Core.Option.{Option, none, some, map}
use mathlib.Core.List.{List, [], ◌∷◌}
use Prim.Native.Nat.{ℕ, zero, suc, ◌-◌, ◌≤◌, ◌<◌}
use native.Mathlib.Omega.{arith}
use lib.Dec.{eqb}
use lib.ListN.{length, replicate}
use borrow.Author.Tests.{eq-eqb}
use Rattle.characters.specs.Utf8.{first_byte, step_byte, chars_from, chars, utf8}
use Rattle.characters.specs.Columns.{columns_of, width_of, cols, str_width}
use Rattle.fields.specs.Field.{whole, broken, raws, read_all, all}
use Rattle.fields.specs.List.{whole_of}
use Rattle.fields.specs.declared.raw.Field.{Field}
use Rattle.fields.specs.Sheet.{Piece, read_piece, readable_piece}
use Rattle.fields.specs.Widths.{text_width, width}
use Rattle.fields.specs.TaggedLine.{push_str, push_ws, consume, add_pieces}
use Rattle.fields.specs.Spans.{RenderLine, text, border, read_line, readable_line}
use Rattle.borders.specs.declared.draw.Drawing.TheVariants.{LinesAbove}
use Rattle.borders.specs.BorderHoriz.{stretch_to, drawn}
use Rattle.rows.specs.declared.RenderOptions.{RenderOptions}
use Rattle.rows.specs.Columns.{Column, overlaps, holed_text, cell_misfit, add_column}
use Rattle.rows.proofs.Lines.{consume_pieces, pieces_width, spaces_formed, spaces_width}
use Rattle.rows.proofs.Columns.{spaces_drawn}
use Rattle.places.specs.declared.border.Border.{Border}
use Rattle.places.specs.Border.{ReadsBorder}
use Rattle.bodies.proofs.LineLaws.{line_border}
use Rattle.tagged_line.specs.Held.{Held, Pushes, PushesSpaces, Draws}
use Rattle.tagged_line.specs.Pieces.{PiecesOf, AddsPieces}
use Rattle.tagged_line.specs.declared.line.Line.{Line}
use Rattle.tagged_line.proofs.Laying.{all_formed}
use Rattle.holes.specs.Drawing.{PushesHoled}
use Rattle.row_lines.specs.Seat.{AddsCellText, leaves_pattern, AddsSeat, AddsEdge, OpensSeat}
use Rattle.row_lines.proofs.LeftLaws.{left_none, left_off, left_line}

-- ---- a text of a cell

-- pieces that are pushed, and the columns that they take
module _ (out mid : List ℕ) (p q : Line) (content : List ℕ) (used : ℕ) (f : AddsPieces out p content true true mid q) (u : used ≡ q.cols - p.cols) where
  used_width : (ps : List Piece) → PiecesOf content ps → all readable_piece ps ≡ true → (st : List ℕ) (l : List Piece) → Held st l out p → used ≡ width ps
  used_width ps e ok st l h =
      omega (arith, u, h.cols, (f ps e ok st l h).cols, pieces_width true true l ps h.valid (all_formed ps ok))

  -- A text that is narrower than its cell is filled with spaces.
  pub text_filled : (out' : List ℕ) (r : Line) (a w : ℕ) → PushesSpaces mid q (w - used) a out' r → AddsCellText out p a content w out' r
  unfolding push_ws
  text_filled out' r a w g ps e ok st l h =
      rw (consume_pieces l ps, sym (used_width ps e ok st l h)) (g st (add_pieces true true l ps) (f ps e ok st l h))

  -- Any other stays as it is.
  pub text_full : (a w : ℕ) → w ≤ used → AddsCellText out p a content w mid q
  unfolding push_str
  text_full a w k ps e ok st l h =
      let z : w - width ps ≡ 0 = omega (arith, k, used_width ps e ok st l h) in
      rw (consume_pieces l ps, z) (f ps e ok st l h)

-- ---- an edge

-- the edge with borders
abbrev pub bar : List ℕ
bar = 0xE2 ∷ 0x94 ∷ 0x82 ∷ []

bar_edge : utf8 0x2502 ≡ bar
unfolding utf8
bar_edge = refl

bar_chars : chars bar ≡ some (0x2502 ∷ [])
unfolding first_byte step_byte chars_from chars
bar_chars = refl

bar_cols : cols 0x2502 ≡ 1
unfolding cols width_of columns_of
bar_cols = refl

bar_width : text_width bar ≡ 1
unfolding text_width str_width
bar_width = rw (bar_chars, bar_cols)

-- With borders the bar is pushed.
pub edge_bar : (out out' : List ℕ) (p r : Line) (s : RenderOptions) → s.borders ≡ true → Pushes out p s.annotation bar 1 out' r → AddsEdge out p s out' r
edge_bar out out' p r s b f st l h = rw (b, bar_edge) (f st l h (0x2502 ∷ [], bar_chars) bar_width)

space_edge : utf8 0x20 ≡ 0x20 ∷ []
unfolding utf8
space_edge = refl

-- Without, a space.
pub edge_space : (out out' : List ℕ) (p r : Line) (s : RenderOptions) → s.borders ≡ false → Pushes out p s.annotation (0x20 ∷ []) 1 out' r
    → AddsEdge out p s out' r
edge_space out out' p r s b f st l h = rw (b, space_edge) (f st l h (spaces_formed 1) (spaces_width 1))

-- Before the first seat stands none.
pub opens_first : (out : List ℕ) (p : Line) (s : RenderOptions) (k : ℕ) → k ≡ 0 → OpensSeat out p s k out p
opens_first out p s zero e st l h = h
opens_first out p s (suc k) e st l h = absurd (omega arith)

-- Before any other stands one.
pub opens_later : (out out' : List ℕ) (p r : Line) (s : RenderOptions) (k : ℕ) → (k ≡ 0 → ⊥) → AddsEdge out p s out' r → OpensSeat out p s k out' r
opens_later out out' p r s zero d f st l h = absurd (d refl)
opens_later out out' p r s (suc k) d f st l h = f st l h

-- ---- a line of a seat

map_some : (o : Option (List Piece)) (r : RenderLine) → map text o ≡ some r → (ps : List Piece) × (o ≡ some ps) × (r ≡ text ps)
map_some none r e = absurd (let z : ◌≡◌ {A = ℕ} 0 1 = cc in omega arith)
map_some (some ps) r e = (ps, refl, cc)

-- what an L field is read as
pub text_pieces : (letter : ℕ) (t : List ℕ) (r : RenderLine) → letter ≡ 0x4C → read_line (whole letter t) ≡ some r
    → (ps : List Piece) × PiecesOf t ps × (r ≡ text ps)
unfolding read_line
text_pieces letter t r el e = map_some (read_all read_piece (raws t)) r (rw (eq-eqb letter 0x4C el) at e)

-- a line cannot be drawn: the holes of a border overlap
abbrev line_overlaps : ℕ → RenderLine → Bool
line_overlaps to (text ps) = false
line_overlaps to (border a segs hs) = overlaps (stretch_to segs to) 0 hs

-- or it gives this to a line of the row
abbrev line_onto : RenderOptions → ℕ → List Piece → RenderLine → List Piece
line_onto s to l (text ps) = push_str (consume l ps) s.annotation (replicate (to - width ps) 0x20)
line_onto s to l (border a segs hs) = push_str l s.annotation (holed_text (stretch_to segs to) 0 hs)

-- a line that does
abbrev AddsLine : List ℕ → Line → RenderOptions → ℕ → List ℕ → ℕ → List ℕ → Line → Type 0
AddsLine out p s letter content to out' r =
    (g : RenderLine) → read_line (whole letter content) ≡ some g → readable_line g ≡ true → line_overlaps to g ≡ false
    → (st : List ℕ) (l : List Piece) → Held st l out p → Held st (line_onto s to l g) out' r

-- a text
text_line : (out out' : List ℕ) (p r : Line) (s : RenderOptions) (letter : ℕ) (content : List ℕ) (to : ℕ) → letter ≡ 0x4C
    → AddsCellText out p s.annotation content to out' r → AddsLine out p s letter content to out' r
text_line out out' p r s letter content to el f g e ok fine st l h =
    let (ps, pieces, is) = text_pieces letter content g el e in
    rw is (f ps pieces (rw is at ok) st l h)

-- any other is a border
border_line : (out out' : List ℕ) (p r : Line) (s : RenderOptions) (letter : ℕ) (content : List ℕ) (to : ℕ) (b : Border) → (letter ≡ 0x4C → ⊥)
    → ReadsBorder letter content b → PushesHoled out p s.annotation b to out' r → AddsLine out p s letter content to out' r
border_line out out' p r s letter content to b d reads f (text ps) e ok fine st l h =
    let x = line_border letter content (text ps) e d in absurd (let z : ◌≡◌ {A = ℕ} 0 1 = cc in omega arith)
border_line out out' p r s letter content to b d reads f (border a segs hs) e ok fine st l h = f a segs hs (reads a segs hs e) ok fine st l h

-- a text is no last border
text_stays : (collapse : Bool) (letter : ℕ) (behind : List ℕ) → letter ≡ 0x4C → leaves_pattern collapse letter behind ≡ false
text_stays collapse letter behind e = rw (eq-eqb letter 0x4C e) (no (collapse && eqb (length behind) 0))
  where
    no : (b : Bool) → (b && false) ≡ false
    no true = refl
    no false = refl

-- ---- a seat

-- what a column with a first line gives, and whether it cannot be drawn
add_first : (s : RenderOptions) (l : List Piece) (c : Column) (g : RenderLine) (tail : List RenderLine) → add_column s l c (g ∷ tail) ≡ line_onto s c.to l g
add_first s l c (text ps) tail = refl
add_first s l c (border a segs hs) tail = refl

fits_first : (total : ℕ) (c : Column) (g : RenderLine) (tail : List RenderLine) → cell_misfit total c (g ∷ tail) ≡ line_overlaps c.to g
fits_first total c (text ps) tail = refl
fits_first total c (border a segs hs) tail = refl

-- what a column whose lines are over gives: what is drawn above its last border, or spaces
add_pattern : (s : RenderOptions) (l : List Piece) (c : Column) (segs drawn_of : List ℕ) (to : ℕ) → c.lines ≡ [] → c.bottom ≡ some segs → c.to ≡ to → drawn_of ≡ segs
    → push_str l s.annotation (drawn LinesAbove (stretch_to drawn_of to)) ≡ add_column s l c c.lines
add_pattern s l c segs drawn_of to e f g h = rw (e, f, g, h) refl

module _ (out out' : List ℕ) (p q : Line) (s : RenderOptions) (w to : ℕ) (bytes : List ℕ) (collapse : Bool) where
  -- No lines are left.
  pub seat_none : (0 < length bytes → raws bytes ≡ broken ∷ []) → PushesSpaces out p w s.annotation out' q → AddsSeat out p s w to bytes collapse out' q bytes
  unfolding push_ws
  seat_none e f c is =
      let z = left_none bytes w to collapse c is e in
      record { held = λ total fine st l held. rw (z.0, z.1, is.width_is, sym (spaces_drawn w)) (f st l held); goes = z.2 }

  module _ (f : Field) (behind : List ℕ) (e : raws bytes ≡ whole_of f ∷ raws behind) where
    -- The last border is left, which was taken off.
    pub seat_pattern : leaves_pattern collapse f.letter behind ≡ true → (b : Border) → ReadsBorder f.letter f.content.now b
        → Draws out p s.annotation b.segments.now to LinesAbove out' q → AddsSeat out p s w to bytes collapse out' q bytes
    seat_pattern off b reads d c is =
        let t = left_off bytes w to collapse c is f behind e off in
        record {
          held = λ total fine st l held.
              let same = add_pattern s l c t.segs b.segments.now to t.no_more t.bottom_is is.to_is (reads t.a t.segs t.hs t.reads).segments in
              subst (λ (z : List Piece). Held st z out' q) same (d st l held);
          goes = t.goes;
        }

    -- a line is left
    seat_line : leaves_pattern collapse f.letter behind ≡ false → AddsLine out p s f.letter f.content.now to out' q
        → AddsSeat out p s w to bytes collapse out' q behind
    seat_line on g c is =
        let t = left_line bytes w to collapse c is f behind e on in
        record {
          held = λ total drawn-well st l held.
              let fine : line_overlaps to t.one ≡ false =
              ap (λ (k : ℕ). line_overlaps k t.one) (sym is.to_is) ∙ sym (fits_first total c t.one t.tail) ∙ ap (cell_misfit total c) (sym t.are) ∙ drawn-well in
              let same : add_column s l c c.lines ≡ line_onto s to l t.one =
              ap (add_column s l c) t.are ∙ add_first s l c t.one t.tail ∙ ap (λ (k : ℕ). line_onto s k l t.one) is.to_is in
              subst (λ (z : List Piece). Held st z out' q) (sym same) (g t.one t.reads t.ok fine st l held);
          goes = t.goes;
        }

    -- A text is left.
    pub seat_text : f.letter ≡ 0x4C → AddsCellText out p s.annotation f.content.now to out' q → AddsSeat out p s w to bytes collapse out' q behind
    seat_text el g = seat_line (text_stays collapse f.letter behind el) (text_line out out' p q s f.letter f.content.now to el g)

    -- A border is left.
    pub seat_border : (f.letter ≡ 0x4C → ⊥) → leaves_pattern collapse f.letter behind ≡ false → (b : Border) → ReadsBorder f.letter f.content.now b
        → PushesHoled out p s.annotation b to out' q → AddsSeat out p s w to bytes collapse out' q behind
    seat_border d on b reads g = seat_line on (border_line out out' p q s f.letter f.content.now to b d reads g)
