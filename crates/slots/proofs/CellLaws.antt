-- The parts of a C or K field, and of a V field, that the definitions read.
-- Assumes nothing.
use Rattle.std.proofs.Common.{◌≡◌, ℕ, ◌+◌, ◌-◌, ◌*◌, ◌≤◌, ◌<◌, Bool, true, false, eqb, eqb-true, List, [], ◌∷◌, length, take, drop, get_or, refl, sym, ap, ◌∙◌, arith, Bor, length-drop, eq-eqb, ne_eqb, take_all}
use Rattle.std.proofs.lemmas.Bool.{eqb-false}
use mathlib.Core.Option.{Option, none, some, map}
use Rattle.characters.proofs.Tests.{by_if, and_left}
use Rattle.fields.specs.Field.{Raw, whole, broken, raws, read_all, all}
use Rattle.fields.specs.List.{whole_of}
use Rattle.fields.specs.declared.raw.Field.{Field}
use Rattle.fields.specs.Spans.{RenderLine, Hanging, hanging, Cell as FlatCell, cell, read_line, is_span, read_hanging_content, read_hanging, read_cell_content, read_span_content, read_cell, readable_hanging}
use Rattle.fields.specs.Places.{CellsIn, OverhangIn}
use Rattle.fields.proofs.Fields.{raws_nil}
use Rattle.fields.proofs.Readings.{read_first, read_none}
use Rattle.rows.proofs.Reading.{OnSome, some_of}
use Rattle.slots.specs.declared.cell.Cell.{Cell}
use Rattle.slots.specs.declared.hanging.HangingCell.{HangingCell}
use Rattle.slots.specs.declared.seat.Seat.{Seat}
use Rattle.slots.specs.Cell.{CellIs}
use Rattle.slots.specs.Hanging.{HangingIs}
use Rattle.slots.specs.Seat.{SeatOfHanging, FirstHanging}

-- the bytes behind the first k
behind : (k : ℕ) (t : List ℕ) → take (length t - k) (drop k t) ≡ drop k t
behind k t = take_all (length t - k) (drop k t) (omega (arith, length-drop k t))

-- ---- a C or a K field

-- the parts of a cell's content behind k head bytes
record CellParts (t : List ℕ) (k span : ℕ) (c : FlatCell) : Type 0 where
  room : k ≤ length t
  width_is : c.width ≡ get_or t 0 0
  span_is : c.span ≡ span
  spans : is_span span ≡ true
  lines_are : read_all read_line (raws (drop k t)) ≡ some c.lines

plain_parts : (t : List ℕ) → OnSome (CellParts t 1 1) (read_cell_content t)
plain_parts [] = tt
plain_parts (w ∷ ls) = go (read_all read_line (raws ls)) refl
  where
    go : (o : Option (List RenderLine)) → read_all read_line (raws ls) ≡ o → OnSome (CellParts (w ∷ ls) 1 1) (map (cell w 1) o)
    go none e = tt
    go (some l) e = record { room = omega arith; width_is = refl; span_is = refl; spans = refl; lines_are = e }

span_parts : (t : List ℕ) → OnSome (CellParts t 2 (get_or t 1 0)) (read_span_content t)
span_parts [] = tt
span_parts (w ∷ []) = tt
span_parts (w ∷ n ∷ ls) = by_if (OnSome (CellParts (w ∷ n ∷ ls) 2 n)) (is_span n) (λ i. go i (read_all read_line (raws ls)) refl) (λ _. tt)
  where
    go : is_span n ≡ true → (o : Option (List RenderLine)) → read_all read_line (raws ls) ≡ o → OnSome (CellParts (w ∷ n ∷ ls) 2 n) (map (cell w n) o)
    go i none e = tt
    go i (some l) e = record { room = omega arith; width_is = refl; span_is = refl; spans = i; lines_are = e }

c_parts : (l : ℕ) (t : List ℕ) → l ≡ 0x43 → OnSome (CellParts t 1 1) (read_cell (whole l t))
unfolding read_cell
c_parts l t e = rw (eq-eqb l 0x43 e) (plain_parts t)

k_parts : (l : ℕ) (t : List ℕ) → (l ≡ 0x43 → ⊥) → OnSome (CellParts t 2 (get_or t 1 0)) (read_cell (whole l t))
unfolding read_cell
k_parts l t e = rw (ne_eqb l 0x43 e) (by_if (OnSome (CellParts t 2 (get_or t 1 0))) (eqb l 0x4B) (λ _. span_parts t) (λ _. tt))

-- A C FIELD.
pub plain_cell : (f : Field) (c : Cell) → f.letter ≡ 0x43 → c.width ≡ get_or f.content.now 0 0 → c.span ≡ 1
    → c.lines.now ≡ take (length f.content.now - 1) (drop 1 f.content.now) → (x : FlatCell) → read_cell (whole_of f) ≡ some x → CellIs c x
plain_cell f c e w n ls x r =
    let t = f.content.now in
    let p = some_of (CellParts t 1 1) (read_cell (whole_of f)) x r (c_parts f.letter t e) in
    record {
      width_is = p.width_is ∙ sym w;
      span_is = p.span_is ∙ sym n;
      spans = ap is_span n ∙ p.spans;
      lines_in = record { reads = ap (λ (b : List ℕ). read_all read_line (raws b)) (ls ∙ behind 1 t) ∙ p.lines_are };
    }

-- A K FIELD.
pub spanning_cell : (f : Field) (c : Cell) → (f.letter ≡ 0x43 → ⊥) → c.width ≡ get_or f.content.now 0 0 → c.span ≡ get_or f.content.now 1 0
    → c.lines.now ≡ take (length f.content.now - 2) (drop 2 f.content.now) → (x : FlatCell) → read_cell (whole_of f) ≡ some x → CellIs c x
spanning_cell f c e w n ls x r =
    let t = f.content.now in
    let p = some_of (CellParts t 2 (get_or t 1 0)) (read_cell (whole_of f)) x r (k_parts f.letter t e) in
    record {
      width_is = p.width_is ∙ sym w;
      span_is = p.span_is ∙ sym n;
      spans = ap is_span n ∙ p.spans;
      lines_in = record { reads = ap (λ (b : List ℕ). read_all read_line (raws b)) (ls ∙ behind 2 t) ∙ p.lines_are };
    }

-- Fields that are too short are no cells.
pub short_cell : (f : Field) → (f.letter ≡ 0x43 → ⊥) → length f.content.now < 2 → (x : FlatCell) → read_cell (whole_of f) ≡ some x → ⊥
short_cell f e h x r =
    let t = f.content.now in
    let p = some_of (CellParts t 2 (get_or t 1 0)) (read_cell (whole_of f)) x r (k_parts f.letter t e) in
    omega (arith, p.room)

pub no_cell : (f : Field) → length f.content.now < 1 → (x : FlatCell) → read_cell (whole_of f) ≡ some x → ⊥
no_cell f h x r = go (eqb f.letter 0x43) refl
  where
    go : (b : Bool) → eqb f.letter 0x43 ≡ b → ⊥
    go true k = omega (arith, (some_of (CellParts f.content.now 1 1) (read_cell (whole_of f)) x r (c_parts f.letter f.content.now (eqb-true f.letter 0x43 k))).room)
    go false k = short_cell f (eqb-false f.letter 0x43 k) (omega arith) x r

-- ---- a V field

-- the parts of a V field's content
record HangingParts (t : List ℕ) (v : Hanging) : Type 0 where
  four : 4 ≤ length t
  pos_is : v.pos ≡ get_or t 0 0 * 256 + get_or t 1 0
  width_is : v.width ≡ get_or t 2 0
  rows_is : v.rows ≡ get_or t 3 0
  spans : is_span v.rows ≡ true
  lines_are : read_all read_line (raws (drop 4 t)) ≡ some v.lines

parts_of : (p q w r : ℕ) (ls : List ℕ) → is_span r ≡ true → (o : Option (List RenderLine)) → read_all read_line (raws ls) ≡ o
    → OnSome (HangingParts (p ∷ q ∷ w ∷ r ∷ ls)) (map (hanging (p * 256 + q) w r) o)
parts_of p q w r ls i none e = tt
parts_of p q w r ls i (some l) e = record { four = omega arith; pos_is = refl; width_is = refl; rows_is = refl; spans = i; lines_are = e }

content_parts : (t : List ℕ) → OnSome (HangingParts t) (read_hanging_content t)
content_parts [] = tt
content_parts (p ∷ []) = tt
content_parts (p ∷ q ∷ []) = tt
content_parts (p ∷ q ∷ w ∷ []) = tt
content_parts (p ∷ q ∷ w ∷ r ∷ ls) =
    by_if (OnSome (HangingParts (p ∷ q ∷ w ∷ r ∷ ls))) (is_span r) (λ i. parts_of p q w r ls i (read_all read_line (raws ls)) refl) (λ _. tt)

field_parts : (l : ℕ) (t : List ℕ) → OnSome (HangingParts t) (read_hanging (whole l t))
unfolding read_hanging
field_parts l t = by_if (OnSome (HangingParts t)) (eqb l 0x56) (λ _. content_parts t) (λ _. tt)

-- A V FIELD.
pub hanging_cell : (f : Field) (c : HangingCell) → c.pos ≡ get_or f.content.now 0 0 * 256 + get_or f.content.now 1 0 → c.width ≡ get_or f.content.now 2 0
    → c.rows ≡ get_or f.content.now 3 0 → c.lines.now ≡ take (length f.content.now - 4) (drop 4 f.content.now)
    → (x : Hanging) → read_hanging (whole_of f) ≡ some x → HangingIs c x
hanging_cell f c p w n ls x r =
    let t = f.content.now in
    let q = some_of (HangingParts t) (read_hanging (whole_of f)) x r (field_parts f.letter t) in
    record {
      pos_is = q.pos_is ∙ sym p;
      width_is = q.width_is ∙ sym w;
      rows_is = q.rows_is ∙ sym n;
      spans = ap is_span (n ∙ sym q.rows_is) ∙ q.spans;
      lines_in = record { reads = ap (λ (b : List ℕ). read_all read_line (raws b)) (ls ∙ behind 4 t) ∙ q.lines_are };
    }

-- A field that is too short is none.
pub no_hanging : (f : Field) → length f.content.now < 4 → (x : Hanging) → read_hanging (whole_of f) ≡ some x → ⊥
no_hanging f h x r = omega (arith, (some_of (HangingParts f.content.now) (read_hanging (whole_of f)) x r (field_parts f.letter f.content.now)).four)

-- ---- the first of some fields

-- nothing is read where no whole field stands first
none_first : {A : Type 0} (f : Raw → Option A) (bytes : List ℕ) (l : List A) → f broken ≡ none → (0 < length bytes → raws bytes ≡ broken ∷ [])
    → read_all f (raws bytes) ≡ some l → l ≡ []
none_first f [] l n h e = read_none f l (rw raws_nil at e)
none_first f (b ∷ bs) l n h e =
    let r = read_first f broken [] l (rw (h (omega arith)) at e) in
    absurd (let z : none ≡ some r.one = sym n ∙ r.first in let y : ◌≡◌ {A = ℕ} 0 1 = cc in omega arith)

pub no_cells_first : (bytes : List ℕ) (cs : List FlatCell) → (0 < length bytes → raws bytes ≡ broken ∷ []) → CellsIn bytes cs → cs ≡ []
unfolding read_cell
no_cells_first bytes cs h i = none_first read_cell bytes cs refl h i.reads

pub no_hanging_first : (bytes : List ℕ) (vs : List Hanging) → (0 < length bytes → raws bytes ≡ broken ∷ []) → OverhangIn bytes vs → vs ≡ []
unfolding read_hanging
no_hanging_first bytes vs h i = none_first read_hanging bytes vs refl h i.reads

-- or where that field is not one of them
pub not_cell_first : (bytes rest : List ℕ) (w : Raw) → raws bytes ≡ w ∷ raws rest → ((x : FlatCell) → read_cell w ≡ some x → ⊥)
    → (cs : List FlatCell) → CellsIn bytes cs → cs ≡ []
not_cell_first bytes rest w e none_of cs i =
    let r = read_first read_cell w (raws rest) cs (rw e at i.reads) in
    absurd (none_of r.one r.first)

pub not_hanging_first : (bytes rest : List ℕ) (w : Raw) → raws bytes ≡ w ∷ raws rest → ((x : Hanging) → read_hanging w ≡ some x → ⊥)
    → (vs : List Hanging) → OverhangIn bytes vs → vs ≡ []
not_hanging_first bytes rest w e none_of vs i =
    let r = read_first read_hanging w (raws rest) vs (rw e at i.reads) in
    absurd (none_of r.one r.first)

-- A V FIELD AND THE OTHERS.
pub first_hanging : (bytes : List ℕ) (rest : Bor (List ℕ)) (w : Raw) (c : HangingCell) (seat : Seat) → raws bytes ≡ w ∷ raws rest.now
    → ((x : Hanging) → read_hanging w ≡ some x → HangingIs c x) → SeatOfHanging c seat
    → (vs : List Hanging) → OverhangIn bytes vs → all readable_hanging vs ≡ true → FirstHanging (seat, rest) vs
unfolding all
first_hanging bytes rest w c seat e finds s vs i h =
    let r = read_first read_hanging w (raws rest.now) vs (rw e at i.reads) in
    let x = finds r.one r.first in
    record {
      one = r.one;
      more = r.more;
      are = r.are;
      seat_is =
          record {
            pos_is = x.pos_is ∙ sym s.pos_is;
            width_is = x.width_is ∙ sym s.width_is;
            to_is = sym s.to_is;
            span_is = x.rows_is ∙ sym s.span_is;
            spans = rw s.span_is x.spans;
            lines_in = rw s.lines_are x.lines_in;
            readable = and_left (readable_hanging r.one) (all readable_hanging r.more) (rw r.are at h);
          };
      rest_in = record { reads = r.later };
    }
