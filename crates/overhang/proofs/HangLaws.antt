-- The laws of a V field: its bytes at the front of a part of the store, and one more behind those that hang already.
-- Assumes nothing.
use mathlib.Core.Path.{◌≡◌, refl, sym, ap, ◌∙◌}
use mathlib.Core.Logic.{◌⊎◌, ⊎_elim}
use mathlib.Core.Bool.{Bool, true, false, not, ◌&&◌, ◌||◌}
use mathlib.Core.List.{List, [], ◌∷◌, ◌++◌, map, append_assoc, append-nil}
use Prim.Native.Nat.{ℕ, zero, suc, ◌+◌, ◌-◌, ◌%◌, ◌^◌, ◌≤◌, ◌<◌, min}
use native.Mathlib.Nat.{mod-eq_of_lt}
use native.Mathlib.Omega.{arith}
use borrow.Author.Tests.{leb-true, le-leb, le-ltb, lt-ltb}
use lib.Dec.{leb, ltb}
use lib.ListN.{length, take, drop, set, length-append, length-take, length-drop, drop_of_length-le}
use lib.Seq.{sets, take_all}
use Rattle.characters.proofs.Tests.{and_left, and_right, and_assoc, lt_or_le}
use Rattle.fields.specs.Field.{two, head, field, all}
use Rattle.fields.specs.Store.{Wrote}
use Rattle.fields.proofs.Sets.{sets_append, sets_past, wrote_then, wrote_before}
use Rattle.block.proofs.Bounds.{length_field}
use Rattle.rows.specs.declared.RenderOptions.{RenderOptions}
use Rattle.fields.specs.Spans.{RenderLine, Hanging, is_span, readable_lines, lines_bytes, names_bytes, hanging_content, overhang_bytes, body_bytes}
use Rattle.rows.specs.SubRenderer.{filled}
use Rattle.rows.specs.Answer.{fits, fits_hanging}
use Rattle.rows.specs.Columns.{Slot, column_of, column_hangs}
use Rattle.bodies.specs.Body.{FindsBody}
use Rattle.bodies.specs.Walk.{Skips}
use Rattle.bodies.specs.declared.body.Body.{Body}
use Rattle.bodies.proofs.BodyLaws.{column_readable, readable_drop}
use Rattle.slots.specs.declared.seat.Seat.{Seat}
use Rattle.slots.specs.declared.hanging.HangingCell.{HangingCell}
use Rattle.extend_lines.specs.Emitted.{Emitted, all_fit}
use Rattle.extend_lines.specs.declared.line.Lines.{Lines}
use Rattle.extend_lines.proofs.Emitting.{field_bytes}
use Rattle.overhang.specs.Filled.{PutsLines}
use Rattle.overhang.specs.Hang.{filled_hanging, PutsHanging, HangsOn, hanging_below, LeavesCell, HangsSeat}
use Rattle.std.proofs.Math.Bool.{and-true}
use Rattle.tagged_line.proofs.Tests.{all_more, not_and, long_more}

-- ---- the field

pub puts_hanging : (out o₁ o₂ o₃ o₄ out' : List ℕ) (s : RenderOptions) (cell : HangingCell) (to second third start end next : ℕ) → cell.pos < 65536
    → Wrote out 3 (two cell.pos) o₁ second → Wrote o₁ second (cell.width ∷ []) o₂ third → Wrote o₂ third (cell.rows ∷ []) o₃ start
    → PutsLines o₃ start s cell.lines.now to o₄ end → Wrote o₄ 0 (head 0x56 ((end - 3) % 65536)) out' next → PutsHanging out s cell to out' (end - 3)
unfolding readable_lines
puts_hanging out o₁ o₂ o₃ o₄ out' s cell to second third start end next low u v w puts x y is ok =
    let new = map (filled s to) y.lines in
    let front : Wrote out 3 (two y.pos ++ (y.width ∷ y.rows ∷ [])) o₃ start = rw (is.pos_is, is.width_is, is.rows_is) (wrote_then u (wrote_then v w)) in
    let lay = puts y.lines is.lines_in ok in
    let body = hanging_content (filled_hanging s to y) in
    let n : end - 3 ≡ length body = omega (arith, front.place, lay.place) in
    record {
      size = n;
      position = omega (arith, is.pos_is, low);
      store = λ short.
          let k : (end - 3) % 65536 ≡ length body = ap (λ (m : ℕ). m % 65536) n ∙ mod-eq_of_lt (omega (arith, n, short)) in
          let z : Wrote o₃ start (lines_bytes new) o₄ end = record { place = lay.place; store = lay.store (omega (arith, n, short)) } in
          let all : Wrote out 3 body o₄ end = wrote_then front z in
          rw (field_bytes 0x56 body) (wrote_before all (rw k at x)).store;
    }

-- ---- a part of the store

sets_cons : (a : ℕ) (l : List ℕ) (i : ℕ) (xs : List ℕ) → sets (a ∷ l) (suc i) xs ≡ a ∷ sets l i xs
sets_cons a l i [] = refl
sets_cons a l i (x ∷ xs) = sets_cons a (set l i x) (suc i) xs

sets_split : (l : List ℕ) (at : ℕ) (xs : List ℕ) → at ≤ length l → take at l ++ sets (drop at l) 0 xs ≡ sets l at xs
sets_split l zero xs h = refl
sets_split [] (suc at) xs h = absurd (omega (arith, h))
sets_split (a ∷ l) (suc at) xs h = ap (λ (m : List ℕ). a ∷ m) (sets_split l at xs (omega (arith, h))) ∙ sym (sets_cons a l at xs)

-- what is put at the front of the part from a place on, or from the end where the place is past it, is put at that place
pub sets_part : (l : List ℕ) (at place : ℕ) (xs : List ℕ) → place ≡ min at (length l) → take place l ++ sets (drop place l) 0 xs ≡ sets l at xs
sets_part l at place xs e =
    ⊎_elim (λ (h : at < length l). let k : place ≡ at = omega (arith, e) in rw k (sets_split l at xs (omega (arith, h))))
    (λ (h : length l ≤ at).
    let k : place ≡ length l = omega (arith, e) in
    rw k (sets_split l (length l) xs (omega arith)) ∙ sets_past l (length l) xs (omega arith) ∙ sym (sets_past l at xs h))
    (lt_or_le at (length l))

-- ---- one more

fit_more : (ls : List RenderLine) (vs : List Hanging) (v : Hanging) → all_fit ls (vs ++ (v ∷ [])) ≡ (all_fit ls vs && fits_hanging v)
fit_more ls vs v = ap (λ (t : Bool). all fits ls && t) (all_more fits_hanging vs v) ∙ and_assoc (all fits ls) (all fits_hanging vs) (fits_hanging v)

overhang_more : (vs : List Hanging) (v : Hanging) → overhang_bytes (vs ++ (v ∷ [])) ≡ overhang_bytes vs ++ field 0x56 (hanging_content v)
unfolding overhang_bytes
overhang_more [] v = append-nil (field 0x56 (hanging_content v))
overhang_more (w ∷ vs) v =
    ap (λ (bs : List ℕ). field 0x56 (hanging_content w) ++ bs) (overhang_more vs v)
    ∙ sym (append_assoc (field 0x56 (hanging_content w)) (overhang_bytes vs) (field 0x56 (hanging_content v)))

body_more : (ls : List RenderLine) (ns : List (List ℕ)) (vs : List Hanging) (v : Hanging)
    → body_bytes ls ns (vs ++ (v ∷ [])) ≡ body_bytes ls ns vs ++ field 0x56 (hanging_content v)
body_more ls ns vs v =
    let f = field 0x56 (hanging_content v) in
    ap (λ (bs : List ℕ). lines_bytes ls ++ (names_bytes ns ++ bs)) (overhang_more vs v)
    ∙ ap (λ (bs : List ℕ). lines_bytes ls ++ bs) (sym (append_assoc (names_bytes ns) (overhang_bytes vs) f))
    ∙ sym (append_assoc (lines_bytes ls) (names_bytes ns ++ overhang_bytes vs) f)

-- A V field more hangs once it stands behind the others, or one is too long.
pub one_hangs : (st out out' : List ℕ) (ls : List RenderLine) (ns : List (List ℕ)) (vs : List Hanging) (v : Hanging) (p r : Lines) → Emitted st ls ns vs out p
    → length out' ≡ length out → r.count ≡ p.count → r.long ≡ (p.long || not (fits_hanging v))
    → (all_fit ls vs ≡ true → fits_hanging v ≡ true → Wrote out p.at (field 0x56 (hanging_content v)) out' r.at) → Emitted st ls ns (vs ++ (v ∷ [])) out' r
one_hangs st out out' ls ns vs v p r e size count long write =
    let f = field 0x56 (hanging_content v) in
    record {
      size = size ∙ e.size;
      count = count ∙ e.count;
      long = long ∙ ap (λ (t : Bool). t || not (fits_hanging v)) e.long ∙ not_and (all_fit ls vs) (fits_hanging v) ∙ ap not (sym (fit_more ls vs v));
      place = λ ok.
          let good = sym (fit_more ls vs v) ∙ ok in
          let w = write (and_left (all_fit ls vs) (fits_hanging v) good) (and_right (all_fit ls vs) (fits_hanging v) good) in
          let n : length (body_bytes ls ns (vs ++ (v ∷ []))) ≡ length (body_bytes ls ns vs) + length f = ap length (body_more ls ns vs v) ∙ length-append (body_bytes ls ns vs) f in
          let at = e.place (and_left (all_fit ls vs) (fits_hanging v) good) in
          omega (arith, n, at, w.place);
      bytes = λ ok.
          let good = sym (fit_more ls vs v) ∙ ok in
          let w = write (and_left (all_fit ls vs) (fits_hanging v) good) (and_right (all_fit ls vs) (fits_hanging v) good) in
          let h = and_left (all_fit ls vs) (fits_hanging v) good in
          w.store ∙ rw (e.place h, e.bytes h, body_more ls ns vs v) (sym (sets_append st 5 (body_bytes ls ns vs) f));
    }

-- ---- behind the others

-- the test for refusal 7
fits_test : (n pos : ℕ) → pos ≤ 65535 → (leb n 65535 && leb pos 65535) ≡ leb n 65535
fits_test n pos h = rw (le-leb pos 65535 h) (and-true (leb n 65535))

-- The V field, put into the part of the store behind the others.
hangs_in : (out part' out' : List ℕ) (p r : Lines) (s : RenderOptions) (cell : HangingCell) (to place n : ℕ) → place ≡ min p.at (length out)
    → PutsHanging (drop place out) s cell to part' n → length part' ≡ length (drop place out) → out' ≡ take place out ++ part'
    → r.count ≡ p.count → (p.at ≤ 2 ^ 63 + 2 ^ 62 → r.at ≡ p.at + (3 + n))
    → ((p.long ≡ true) × (r.long ≡ p.long)) ⊎ ((p.long ≡ false) × (r.long ≡ ltb 65535 n)) → HangsOn out p s cell to out' r
hangs_in out part' out' p r s cell to place n e puts size is count past came x h ok st ls ns vs room emitted =
    let stand = puts x h ok in
    let v = filled_hanging s to x in
    let f = field 0x56 (hanging_content v) in
    let same : length out' ≡ length out =
    omega (arith, ap length is, length-append (take place out) part', size, length-take place out, length-drop place out, e) in
    let fit : fits_hanging v ≡ leb n 65535 =
    fits_test (length (hanging_content v)) x.pos stand.position ∙ ap (λ (k : ℕ). leb k 65535) (sym stand.size) in
    one_hangs st out out' ls ns vs v p r emitted same count (rw fit (long_more p.long r.long n came))
    (λ good fits.
    let short : n ≤ 65535 = leb-true n 65535 (sym fit ∙ fits) in
    record {
      place = omega (arith, past (room good), length_field 0x56 (hanging_content v), stand.size);
      store = is ∙ ap (λ (m : List ℕ). take place out ++ m) (stand.store short) ∙ sets_part out p.at place f e;
    })

-- The same, with the part as it is lent and comes back.
pub hangs_on : (out part' out' : List ℕ) (p r : Lines) (s : RenderOptions) (cell : HangingCell) (to place n : ℕ) → place ≡ min p.at (length out)
    → PutsHanging (take (length out - place) (drop place out)) s cell to part' n → length part' ≡ length (take (length out - place) (drop place out))
    → out' ≡ take place out ++ (part' ++ drop (length out - place) (drop place out))
    → r.count ≡ p.count → (p.at ≤ 2 ^ 63 + 2 ^ 62 → r.at ≡ p.at + (3 + n))
    → ((p.long ≡ true) × (r.long ≡ p.long)) ⊎ ((p.long ≡ false) × (r.long ≡ ltb 65535 n)) → HangsOn out p s cell to out' r
hangs_on out part' out' p r s cell to place n e puts size is count past came =
    let long : length (drop place out) ≤ length out - place = rw length-drop (omega arith) in
    let lent = take_all (length out - place) (drop place out) long in
    let none : drop (length out - place) (drop place out) ≡ [] = drop_of_length-le (drop place out) long in
    hangs_in out part' out' p r s cell to place n e (rw lent at puts) (rw lent at size)
    (is ∙ ap (λ (m : List ℕ). take place out ++ (part' ++ m)) none ∙ ap (λ (m : List ℕ). take place out ++ m) (append-nil part')) count past came

-- ---- a cell of the row

-- what is left of a cell, by the lines that it is laid of
pub leaves_cell : (seat : Seat) (collapse : Bool) (height : ℕ) (b : Body) (lines : List ℕ) (r : HangingCell) → 1 < seat.span → FindsBody seat.lines.now collapse b
    → Skips b.lines.now (height + 1) lines → r.pos ≡ seat.pos → r.width ≡ seat.width → r.rows ≡ seat.span - 1 → r.lines.now ≡ lines
    → LeavesCell seat collapse height r
unfolding readable_lines
leaves_cell seat collapse height b lines r more body skips pos width rows are x is = (
  record {
    pos_is = omega (arith, is.pos_is, pos);
    width_is = omega (arith, is.width_is, width);
    rows_is = omega (arith, is.span_is, rows);
    spans = rw rows (span_less seat.span more is.spans);
    lines_in = rw are (skips (column_of collapse x).lines (body x is.lines_in).lines_in);
  },
  readable_drop (height + 1) (column_of collapse x).lines (column_readable collapse x is.readable),
)
  where
    span_less : (n : ℕ) → 1 < n → is_span n ≡ true → is_span (n - 1) ≡ true
    span_less n m e = rw (le-leb 1 (n - 1) (omega (arith, m)), le-leb (n - 1) 16 (omega (arith, leb-true n 16 (and_right (leb 1 n) (leb n 16) e))))

-- what hangs on of a cell that spans more rows
hangs_are : (s : RenderOptions) (n : ℕ) (collapse : Bool) (x : Slot) → 1 < x.span
    → column_hangs s n (column_of collapse x) ≡ filled_hanging s x.to (hanging_below collapse n x) ∷ []
unfolding column_of
hangs_are s n true x h = rw (lt-ltb 1 x.span h)
hangs_are s n false x h = rw (lt-ltb 1 x.span h)

none_hangs : (s : RenderOptions) (n : ℕ) (collapse : Bool) (x : Slot) → x.span ≤ 1 → column_hangs s n (column_of collapse x) ≡ []
unfolding column_of
none_hangs s n true x h = rw (le-ltb 1 x.span h)
none_hangs s n false x h = rw (le-ltb 1 x.span h)

-- One that spans no further row.
pub seat_none : (out : List ℕ) (p : Lines) (s : RenderOptions) (seat : Seat) (collapse : Bool) (height : ℕ) → seat.span ≤ 1 → HangsSeat out p s seat collapse height out p
seat_none out p s seat collapse height h x is st ls ns vs room e =
    rw (none_hangs s height collapse x (omega (arith, is.span_is, h)), append-nil vs) e

-- One that does.
pub seat_hangs : (out out' : List ℕ) (p r : Lines) (s : RenderOptions) (seat : Seat) (collapse : Bool) (height : ℕ) (cell : HangingCell) → 1 < seat.span
    → LeavesCell seat collapse height cell → HangsOn out p s cell seat.to out' r → HangsSeat out p s seat collapse height out' r
seat_hangs out out' p r s seat collapse height cell more leaves hangs x is st ls ns vs room e =
    let (cell_is, ok) = leaves x is in
    let are : column_hangs s height (column_of collapse x) ≡ filled_hanging s seat.to (hanging_below collapse height x) ∷ [] =
    hangs_are s height collapse x (omega (arith, is.span_is, more)) ∙ ap (λ (t : ℕ). filled_hanging s t (hanging_below collapse height x) ∷ []) is.to_is in
    rw are (hangs (hanging_below collapse height x) cell_is ok st ls ns vs room e)
