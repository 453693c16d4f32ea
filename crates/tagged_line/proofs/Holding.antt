-- The laws of `Held`: text joined to the open piece of a line, text in a new piece, and what the pushes make of these.
-- Assumes nothing.
use mathlib.Core.Path.{◌≡◌, refl, sym, ap, ap₂, ◌∙◌}
use mathlib.Core.Bool.{false}
use mathlib.Core.Logic.{◌⊎◌, inl, inr}
use mathlib.Core.List.{List, [], ◌∷◌, ◌++◌, map, append-nil, append_assoc}
use Prim.Native.Nat.{ℕ, suc, ◌+◌, ◌-◌, ◌*◌, ◌/◌, ◌%◌, ◌≤◌, ◌<◌}
use native.Mathlib.Omega.{arith}
use lib.Dec.{eqb}
use lib.ListN.{length, set, replicate, length-append, length-replicate}
use lib.Seq.{sets, set_comm, set-set}
use borrow.Author.Tests.{eq-eqb, ne_eqb}
use Rattle.characters.specs.Columns.{str_width}
use Rattle.fields.specs.Field.{two, head, field}
use Rattle.fields.specs.Sheet.{Piece, str, piece_bytes, pieces_bytes}
use Rattle.fields.specs.Store.{Wrote}
use Rattle.fields.specs.Widths.{text_width, width}
use Rattle.fields.proofs.Sets.{sets_append, sets_before, wrote_then}
use Rattle.borders.specs.BorderSegHoriz.{Horiz}
use Rattle.borders.specs.declared.draw.Drawing.{Drawing}
use Rattle.borders.specs.BorderHoriz.{stretch_to, glyph, drawn}
use Rattle.borders.proofs.Drawing.{glyph_cols, drawn_append, drawn_chars}
use Rattle.fields.specs.Text.{WellFormed}
use Rattle.fields.specs.TaggedLine.{join, push_str, push_ws, pad_to}
use Rattle.rows.proofs.Lines.{text_width_nil, push_width, push_formed, spaces_formed, spaces_width}
use Rattle.tagged_line.specs.Held.{LineGrown, Held, MakesRoom, Pushes, PushesSpaces, Pads, Draws}
use Rattle.tagged_line.specs.declared.line.Line.{Line}

-- ---- stores

-- two bytes written again
two_twice : (d : List ℕ) (i a b a' b' : ℕ) → sets (sets d i (a ∷ b ∷ [])) i (a' ∷ b' ∷ []) ≡ sets d i (a' ∷ b' ∷ [])
two_twice d i a b a' b' =
    ap (λ (e : List ℕ). set e (suc i) b')
    (set_comm (set d i a) (suc i) i b a' (omega arith) ∙ ap (λ (e : List ℕ). set e (suc i) b) (set-set d i a a'))
    ∙ set-set (set d i a') (suc i) b b'

-- The length of a field that stands in a run of stores, written again.
pub length_again : (d : List ℕ) (i : ℕ) (xs : List ℕ) (x n m : ℕ) (ys : List ℕ)
    → sets (sets d i (xs ++ (head x n ++ ys))) (i + length xs + 1) (two m) ≡ sets d i (xs ++ (head x m ++ ys))
length_again d i xs x n m ys =
    let j = i + length xs in
    let e = set (sets d i xs) j x in
    let one : j + 1 ≡ suc j = omega arith in
    let two-on : suc (suc (suc j)) ≡ suc j + 2 = omega arith in
    ap (λ (z : List ℕ). sets z (j + 1) (two m)) (sets_append d i xs (head x n ++ ys))
    ∙ ap (λ (k : ℕ). sets (sets (sets e (suc j) (two n)) (suc (suc (suc j))) ys) k (two m)) one
    ∙ ap (λ (k : ℕ). sets (sets (sets e (suc j) (two n)) k ys) (suc j) (two m)) two-on
    ∙ sets_before (sets e (suc j) (two n)) (suc j) (two m) ys
    ∙ ap (λ (z : List ℕ). sets z (suc (suc (suc j))) ys) (two_twice e (suc j) (n / 256) (n % 256) (m / 256) (m % 256))
    ∙ sym (sets_append d i xs (head x m ++ ys))

-- ---- text after the last piece

-- A piece of the same annotation is longer.
pub join_same : (ps : List Piece) (a : ℕ) (s t : List ℕ) → join (ps ++ (str a s ∷ [])) a t ≡ ps ++ (str a (s ++ t) ∷ [])
unfolding join
join_same [] a s t = rw (eq-eqb a a refl)
join_same (p ∷ []) a s t = ap (λ (l : List Piece). p ∷ l) (join_same [] a s t)
join_same (p ∷ q ∷ ps) a s t = ap (λ (l : List Piece). p ∷ l) (join_same (q ∷ ps) a s t)

-- After a piece of another annotation there is a new one.
pub join_other : (ps : List Piece) (b a : ℕ) (s t : List ℕ) → eqb b a ≡ false
    → join (ps ++ (str b s ∷ [])) a t ≡ ps ++ (str b s ∷ str a t ∷ [])
unfolding join
join_other [] b a s t e = rw e
join_other (p ∷ []) b a s t e = ap (λ (l : List Piece). p ∷ l) (join_other [] b a s t e)
join_other (p ∷ q ∷ ps) b a s t e = ap (λ (l : List Piece). p ∷ l) (join_other (q ∷ ps) b a s t e)

-- ---- bytes

-- The bytes of two drawing stand one after the other.
pub pieces_append : (ps qs : List Piece) → pieces_bytes (ps ++ qs) ≡ pieces_bytes ps ++ pieces_bytes qs
unfolding pieces_bytes
pieces_append [] qs = refl
pieces_append (p ∷ ps) qs =
    ap (λ (x : List ℕ). piece_bytes p ++ x) (pieces_append ps qs) ∙ sym (append_assoc (piece_bytes p) (pieces_bytes ps) (pieces_bytes qs))

-- The bytes of a last piece of text.
pub bytes_str : (ps : List Piece) (a : ℕ) (t : List ℕ) → pieces_bytes (ps ++ (str a t ∷ [])) ≡ pieces_bytes ps ++ field 0x53 (a ∷ t)
unfolding pieces_bytes
bytes_str ps a t = pieces_append ps (str a t ∷ []) ∙ ap (λ (x : List ℕ). pieces_bytes ps ++ x) (append-nil (field 0x53 (a ∷ t)))

-- their number
pub length_str : (ps : List Piece) (a : ℕ) (t : List ℕ) → length (pieces_bytes (ps ++ (str a t ∷ []))) ≡ length (pieces_bytes ps) + 4 + length t
unfolding field
length_str ps a t =
    ap length (bytes_str ps a t) ∙ length-append (pieces_bytes ps) (field 0x53 (a ∷ t)) ∙ omega arith

-- ---- room for text in a line

-- the columns of a line that text is pushed to
cols_pushed : (st : List ℕ) (l : List Piece) (out : List ℕ) (p : Line) (a c : ℕ) (t : List ℕ) → Held st l out p → WellFormed t
    → text_width t ≡ c → p.cols + c ≡ width (push_str l a t)
cols_pushed st l out p a c t h k w = omega (arith, h.cols, w, push_width l a t h.valid k)

-- Nothing is put in.
pub open_none : (out : List ℕ) (p : Line) (a n c : ℕ) → n ≡ 0
    → MakesRoom out p a n c out (record { base = p.base; at = p.at; piece = p.piece; annotation = p.annotation; cols = p.cols + c })
unfolding push_str
open_none out p a n c z st l [] out'' h e k w q = record {
  bytes = λ short. q ∙ h.bytes short;
  place = h.place;
  cols = omega (arith, h.cols, w, text_width_nil);
  valid = h.valid;
  opened = h.opened;
  closed = h.closed;
}
open_none out p a n c z st l (b ∷ t) out'' h e k w q = absurd (omega arith)

-- Text at the end of the open piece, whose length is written again.
pub open_same : (out out' : List ℕ) (p : Line) (a n c m : ℕ) → (n ≡ 0 → ⊥) → p.piece + 4 ≤ p.at → p.annotation ≡ a
    → m + p.piece + 3 ≡ p.at + n → out' ≡ sets out (p.piece + 1) (two (m % 65536))
    → MakesRoom out p a n c out' (record { base = p.base; at = p.at + n; piece = p.piece; annotation = p.annotation; cols = p.cols + c })
unfolding push_str field
open_same out out' p a n c m z o same em eo st l [] out'' h e k w q = absurd (z (sym e))
open_same out out' p a n c m z o same em eo st l (b ∷ t) out'' h e k w q = rw same (go (h.opened o))
  where
    go : (ps : List Piece) × (s : List ℕ) × (l ≡ ps ++ (str p.annotation s ∷ [])) × (p.piece ≡ p.base + length (pieces_bytes ps))
        → Held st (join l a (b ∷ t)) out'' (record { base = p.base; at = p.at + n; piece = p.piece; annotation = a; cols = p.cols + c })
    go (ps, s, el, ef) =
        let P = pieces_bytes ps in
        let was : l ≡ ps ++ (str a s ∷ []) = el ∙ ap (λ (x : ℕ). ps ++ (str x s ∷ [])) same in
        let is : join l a (b ∷ t) ≡ ps ++ (str a (s ++ b ∷ t) ∷ []) = ap (λ (x : List Piece). join x a (b ∷ t)) was ∙ join_same ps a s (b ∷ t) in
        let size : length (pieces_bytes l) ≡ length P + 4 + length s = ap (λ (x : List Piece). length (pieces_bytes x)) was ∙ length_str ps a s in
        let size' : length (pieces_bytes (join l a (b ∷ t))) ≡ length P + 4 + length (s ++ b ∷ t) = ap (λ (x : List Piece). length (pieces_bytes x)) is ∙ length_str ps a (s ++ b ∷ t) in
        let more : length (s ++ b ∷ t) ≡ length s + n = length-append s (b ∷ t) ∙ ap (λ (x : ℕ). length s + x) e in
        let place : p.at ≡ p.base + length (pieces_bytes l) = h.place in
        record {
          bytes = λ short.
              let long : m % 65536 ≡ suc (length (s ++ b ∷ t)) = omega arith in
              let old : out ≡ sets st p.base (P ++ field 0x53 (a ∷ s)) = h.bytes (omega arith) ∙ ap (sets st p.base) (ap pieces_bytes was ∙ bytes_str ps a s) in
              let at : p.at + n - n ≡ p.base + length (P ++ (head 0x53 (m % 65536) ++ a ∷ s)) = omega (arith, length-append P (head 0x53 (m % 65536) ++ a ∷ s)) in
              let again : out' ≡ sets st p.base (P ++ (head 0x53 (m % 65536) ++ a ∷ s)) = eo ∙ ap₂ (λ (y : List ℕ) (x : ℕ). sets y (x + 1) (two (m % 65536))) old ef ∙ length_again st p.base P 0x53 (suc (length s)) (m % 65536) (a ∷ s) in
              q ∙ ap₂ (λ (y : List ℕ) (x : ℕ). sets y x (b ∷ t)) again at
              ∙ sym (sets_append st p.base (P ++ (head 0x53 (m % 65536) ++ a ∷ s)) (b ∷ t))
              ∙ ap (sets st p.base) (append_assoc P (head 0x53 (m % 65536) ++ a ∷ s) (b ∷ t))
              ∙ ap (λ (x : ℕ). sets st p.base (P ++ (head 0x53 x ++ a ∷ s ++ b ∷ t))) long
              ∙ ap (sets st p.base) (sym (ap pieces_bytes is ∙ bytes_str ps a (s ++ b ∷ t)));
          place = omega arith;
          cols = cols_pushed st l out p a c (b ∷ t) h k w;
          valid = push_formed l a (b ∷ t) h.valid k;
          opened = λ _. (ps, s ++ b ∷ t, is, ef);
          closed = λ x. absurd (omega (arith, o));
        }

-- where no piece of the annotation is open, text is a piece of its own
join_apart : (st : List ℕ) (l : List Piece) (out : List ℕ) (p : Line) (a : ℕ) (t : List ℕ) → Held st l out p
    → ((p.piece + 4 ≤ p.at) × (p.annotation ≡ a → ⊥)) ⊎ (p.at < p.piece + 4) → join l a t ≡ l ++ (str a t ∷ [])
join_apart st l out p a t h (inl (o, d)) =
    let (ps, s, el, ef) = h.opened o in
    ap (λ (x : List Piece). join x a t) el ∙ join_other ps p.annotation a s t (ne_eqb p.annotation a d)
    ∙ sym (append_assoc ps (str p.annotation s ∷ []) (str a t ∷ []))
    ∙ ap (λ (x : List Piece). x ++ (str a t ∷ [])) (sym el)
join_apart st l out p a t h (inr o) = h.closed o a t

-- Text in a new piece, after the others.
pub open_new : (out o1 out' : List ℕ) (p : Line) (a n c first start : ℕ) → (n ≡ 0 → ⊥)
    → ((p.piece + 4 ≤ p.at) × (p.annotation ≡ a → ⊥)) ⊎ (p.at < p.piece + 4)
    → Wrote out p.at (head 0x53 ((n + 1) % 65536)) o1 first → Wrote o1 first (a ∷ []) out' start
    → MakesRoom out p a n c out' (record { base = p.base; at = start + n; piece = p.at; annotation = a; cols = p.cols + c })
unfolding push_str field
open_new out o1 out' p a n c first start z new w1 w2 st l [] out'' h e k w q = absurd (z (sym e))
open_new out o1 out' p a n c first start z new w1 w2 st l (b ∷ t) out'' h e k w q =
    let is : join l a (b ∷ t) ≡ l ++ (str a (b ∷ t) ∷ []) = join_apart st l out p a (b ∷ t) h new in
    let size : length (pieces_bytes (join l a (b ∷ t))) ≡ length (pieces_bytes l) + 4 + length (b ∷ t) = ap (λ (x : List Piece). length (pieces_bytes x)) is ∙ length_str l a (b ∷ t) in
    let place : p.at ≡ p.base + length (pieces_bytes l) = h.place in
    let back : start + n - n ≡ start = omega arith in
    let text : Wrote out' start (b ∷ t) out'' (start + n) = record { place = ap (λ (x : ℕ). start + x) (sym e); store = q ∙ ap (λ (x : ℕ). sets out' x (b ∷ t)) back } in
    let all : Wrote out p.at (head 0x53 ((n + 1) % 65536) ++ a ∷ b ∷ t) out'' (start + n) = wrote_then w1 (wrote_then w2 text) in
    record {
      bytes = λ short.
          let long : (n + 1) % 65536 ≡ suc (length (b ∷ t)) = omega arith in
          all.store
          ∙ ap (λ (x : ℕ). sets out p.at (head 0x53 x ++ a ∷ b ∷ t)) long
          ∙ ap₂ (λ (y : List ℕ) (x : ℕ). sets y x (field 0x53 (a ∷ b ∷ t))) (h.bytes (omega arith)) place
          ∙ sym (sets_append st p.base (pieces_bytes l) (field 0x53 (a ∷ b ∷ t)))
          ∙ ap (sets st p.base) (sym (ap pieces_bytes is ∙ bytes_str l a (b ∷ t)));
      place = omega (arith, all.place);
      cols = cols_pushed st l out p a c (b ∷ t) h k w;
      valid = push_formed l a (b ∷ t) h.valid k;
      opened = λ _. (l, b ∷ t, is, place);
      closed = λ x. absurd (omega (arith, all.place));
    }

-- ---- what is pushed

-- Text, once there is room for it.
pub pushed : (out out' out'' : List ℕ) (p r : Line) (a c next : ℕ) (t : List ℕ) → MakesRoom out p a (length t) c out' r
    → Wrote out' (r.at - length t) t out'' next → Pushes out p a t c out'' r
pushed out out' out'' p r a c next t o w st l h k e = o st l t out'' h refl k e w.store

-- Spaces.
pub pushed_spaces : (out out' out'' : List ℕ) (p r : Line) (a n next : ℕ) → MakesRoom out p a n n out' r
    → Wrote out' (r.at - n) (replicate n 0x20) out'' next → PushesSpaces out p n a out'' r
unfolding push_ws
pushed_spaces out out' out'' p r a n next o w st l h =
    o st l (replicate n 0x20) out'' h (length-replicate n 0x20) (spaces_formed n) (spaces_width n) w.store

-- Spaces up to a width.
pub padded : (out out' : List ℕ) (p r : Line) (w a : ℕ) → PushesSpaces out p (w - p.cols) a out' r → Pads out p w a out' r
unfolding pad_to
padded out out' p r w a f st l h = rw (← h.cols) (f st l h)

-- A line that is as wide.
pub padded_none : (out : List ℕ) (p : Line) (w a : ℕ) → w ≤ p.cols → Pads out p w a out p
unfolding pad_to push_ws push_str
padded_none out p w a k st l h =
    let e : w - width l ≡ 0 = omega (arith, h.cols) in
    rw e h

-- ---- a border's drawing

-- each of so many characters of one column
ones_width : (drawing : Drawing) (b : List ℕ) → str_width (map (glyph drawing) b) ≡ length b
unfolding str_width
ones_width drawing [] = refl
ones_width drawing (s ∷ b) = rw (glyph_cols drawing s, ones_width drawing b) (omega arith)

-- A border's drawing takes one column a segment.
pub drawn_width : (drawing : Drawing) (b : List ℕ) → text_width (drawn drawing b) ≡ length b
unfolding text_width
drawn_width drawing b = rw (drawn_chars drawing b) (ones_width drawing b)

-- The line goes on by no more than four bytes a column.
pub drawn_grown : (p r : Line) (n tail k more w : ℕ) → LineGrown p r (4 + (n + tail) + (k + more)) → n ≤ 3 * k → tail ≤ 3 * more → more ≡ w - k
    → LineGrown p r (4 + 4 * k + 4 * w)
drawn_grown p r n tail k more w g a b c = record {
  base = g.base;
  piece = g.piece;
  on = g.on;
  at = omega (arith, g.at);
  wider = g.wider;
  cols = omega (arith, g.cols);
}

-- A border's drawing and its stretch, once there is room for both.
pub pushed_drawn : (out out' o1 out'' : List ℕ) (p r : Line) (a n tail more w at next : ℕ) (segs : List ℕ) (drawing : Drawing)
    → MakesRoom out p a (n + tail) (length segs + more) out' r → n + tail ≤ r.at → n ≡ length (drawn drawing segs)
    → tail ≡ length (drawn drawing (replicate more Horiz)) → more ≡ w - length segs
    → Wrote out' (r.at - tail - n) (drawn drawing segs) o1 at → Wrote o1 at (drawn drawing (replicate more Horiz)) out'' next
    → Draws out p a segs w drawing out'' r
unfolding stretch_to
pushed_drawn out out' o1 out'' p r a n tail more w at next segs drawing o room en et em w1 w2 st l h =
    let all = segs ++ replicate more Horiz in
    let t = drawn drawing all in
    let parts : t ≡ drawn drawing segs ++ drawn drawing (replicate more Horiz) = drawn_append drawing segs (replicate more Horiz) in
    let long : length t ≡ n + tail = ap length parts ∙ length-append (drawn drawing segs) (drawn drawing (replicate more Horiz)) ∙ omega arith in
    let wide : text_width t ≡ length segs + more =
    drawn_width drawing all ∙ length-append segs (replicate more Horiz) ∙ ap (λ (x : ℕ). length segs + x) (length-replicate more Horiz) in
    let back : r.at - tail - n ≡ r.at - (n + tail) = omega arith in
    let store : out'' ≡ sets out' (r.at - (n + tail)) t =
    (wrote_then w1 w2).store ∙ ap₂ (λ (x : ℕ) (y : List ℕ). sets out' x y) back (sym parts) in
    rw (← em) (o st l t out'' h long (map (glyph drawing) all, drawn_chars drawing all) wide store)
