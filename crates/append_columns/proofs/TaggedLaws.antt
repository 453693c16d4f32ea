-- A border with holes as text has a byte at least for each segment, if no hole ends past it: a text has one at least for each column.
-- Assumes nothing.
use mathlib.Core.Path.{◌≡◌}
use mathlib.Core.Logic.{⊎_elim}
use mathlib.Core.Bool.{true, false, not}
use mathlib.Core.Option
use mathlib.Core.Option.{Option, none, some}
use mathlib.Core.List.{List, [], ◌∷◌, map}
use Prim.Native.Nat.{ℕ, suc, ◌+◌, ◌≤◌, ◌<◌}
use native.Mathlib.Omega.{arith}
use borrow.Author.Tests.{leb-true, lt-ltb, le-ltb, not-false}
use lib.Dec.{leb}
use lib.ListN.{length, drop, length-append, length-drop}
use Rattle.characters.specs.Ranges.{Row, within, lookup}
use Rattle.characters.specs.Utf8.{Place, fresh, inside, Step, bad, on, ends, Lead, never, table_3_7, led, first_byte, step_byte, follow, chars_from, chars, utf8, text_bytes}
use Rattle.characters.specs.Columns.{columns_of, width_of, cols, str_width}
use Rattle.characters.proofs.Tests.{by_if, lt_or_le, and_right, below, T_true}
use Rattle.characters.proofs.Tables.{cols_le_two}
use Rattle.fields.specs.Field.{part}
use Rattle.fields.specs.Sheet.{Piece, str, fragment}
use Rattle.fields.specs.Widths.{width_or, text_width, piece_width}
use Rattle.fields.proofs.Back.{Every}
use Rattle.fields.proofs.Parts.{part_length}
use Rattle.block.proofs.Bounds.{utf8_some}
use Rattle.borders.specs.BorderSegHoriz.{seg_to_char}
use Rattle.borders.specs.BorderHoriz.{to_string, up_to_hole, at_hole, into_tagged_from}
use Rattle.fields.specs.TaggedLine.{push}
use Rattle.fields.specs.Spans.{Hole}
use Rattle.rows.specs.Columns.{any_past}
use Rattle.extend_lines.proofs.Growing.{or_first, or_second, size_of, grow_push}
use Rattle.row_holes.proofs.Pushing.{push_adds}

-- ---- the columns of a text

-- so many columns at most
abbrev Narrow : Option (List ℕ) → ℕ → Type 0
Narrow none n = Unit {0}
Narrow (some cs) n = str_width cs ≤ n

narrow_more : (o : Option (List ℕ)) (m n : ℕ) → m ≤ n → Narrow o m → Narrow o n
narrow_more none m n h k = tt
narrow_more (some cs) m n h k = omega arith

narrow_char : (c : ℕ) (o : Option (List ℕ)) (m n : ℕ) → cols c ≤ m → Narrow o n → Narrow (Option.map (λ (cs : List ℕ). c ∷ cs) o) (m + n)
unfolding str_width
narrow_char c none m n h k = tt
narrow_char c (some cs) m n h k = omega arith

-- the bytes of a character that were read at a place, one at least
abbrev read_at : Place → ℕ
read_at fresh = 0
read_at (inside a b c d) = 1

read_most : (p : Place) → read_at p ≤ 1
read_most fresh = omega arith
read_most (inside a b c d) = omega arith

-- a value of a table's rows
lookup_has : {A : Type 0} (P : A → Type 0) (d : A) (t : List (Row A)) (c : ℕ) → P d → Every (λ (r : Row A). within r.first r.last c ≡ true → P r.value) t → P (lookup d t c)
lookup_has P d [] c h e = h
lookup_has P d (r ∷ t) c h e = by_if P (within r.first r.last c) (λ w. e.0 w) (λ _. lookup_has P d t c h e.1)

-- a character of one byte has one column at most
ascii_narrow : (b : ℕ) → within 0x00 0x7F b ≡ true → cols b ≤ 1
unfolding columns_of width_of cols
ascii_narrow b w =
    let h = leb-true b 0x7F (and_right (leb 0x00 b) (leb b 0x7F) w) in
    leb-true (cols b) 1 (T_true (leb (cols b) 1) (below (λ c. leb (cols c) 1) 128 tt b (omega (arith, h))))

module _ (f : Place → Option (List ℕ)) (n : ℕ) (h : (q : Place) → Narrow (f q) (n + read_at q)) where
  on_narrow : (q : Place) → Narrow (f q) (suc n)
  on_narrow q = narrow_more (f q) (n + read_at q) (suc n) (omega (arith, read_most q)) (h q)

  first_narrow : (b : ℕ) → Narrow (follow (first_byte b) f) (suc n)
  unfolding first_byte
  first_narrow b =
      lookup_has (λ (x : Lead). Narrow (follow (led b x) f) (suc n)) never table_3_7 b tt (
        λ w. narrow_more (Option.map (λ (cs : List ℕ). b ∷ cs) (f fresh)) (1 + (n + 0)) (suc n) (omega arith) (narrow_char b (f fresh) 1 (n + 0) (ascii_narrow b w) (h fresh)),
        (λ _. on_narrow _, (λ _. on_narrow _, (λ _. on_narrow _, (λ _. on_narrow _, (λ _. on_narrow _, (λ _. on_narrow _, (λ _. on_narrow _, (λ _. on_narrow _, tt)))))))),
      )

  later_narrow : (x : Step) → Narrow (follow x f) (suc n + 1)
  later_narrow bad = tt
  later_narrow (on q) = narrow_more (f q) (suc n) (suc n + 1) (omega arith) (on_narrow q)
  later_narrow (ends c) = narrow_more (Option.map (λ (cs : List ℕ). c ∷ cs) (f fresh)) (2 + (n + 0)) (suc n + 1) (omega arith) (narrow_char c (f fresh) 2 (n + 0) (cols_le_two c) (h fresh))

narrow_from : (p : Place) (bs : List ℕ) → Narrow (chars_from p bs) (length bs + read_at p)
unfolding chars_from step_byte str_width
narrow_from fresh [] = omega arith
narrow_from (inside a b c d) [] = tt
narrow_from fresh (x ∷ bs) =
    narrow_more (chars_from fresh (x ∷ bs)) (suc (length bs)) (length (x ∷ bs) + 0) (omega arith)
    (first_narrow (λ (q : Place). chars_from q bs) (length bs) (λ q. narrow_from q bs) x)
narrow_from (inside a b c d) (x ∷ bs) =
    later_narrow (λ (q : Place). chars_from q bs) (length bs) (λ q. narrow_from q bs) (step_byte (inside a b c d) x)

text_narrow : (t : List ℕ) → text_width t ≤ length t
unfolding text_width chars
text_narrow t = go (chars_from fresh t) (narrow_from fresh t)
  where
    go : (o : Option (List ℕ)) → Narrow o (length t + 0) → width_or o ≤ length t
    go none k = omega arith
    go (some cs) k = omega arith

-- ---- the bytes of a border as text

string_least : (b : List ℕ) → length b ≤ length (to_string b)
unfolding to_string text_bytes
string_least [] = omega arith
string_least (s ∷ b) =
    omega (arith, string_least b, utf8_some (seg_to_char s), length-append (utf8 (seg_to_char s)) (text_bytes (map seg_to_char b)))

piece_adds : (l : List Piece) (p : Piece) → size_of l + piece_width p ≤ size_of (push l p)
unfolding push
piece_adds l (str a t) = omega (arith, push_adds l a t, text_narrow t)
piece_adds l (fragment n) = omega (arith, grow_push l (fragment n))

up_to_adds : (a : ℕ) (segs : List ℕ) (l : List Piece) (pos x : ℕ) → x ≤ length segs → pos ≤ size_of l → at_hole pos x ≤ size_of (up_to_hole a segs l pos x)
up_to_adds a segs l pos x h k =
    ⊎_elim
    (λ (j : pos < x). rw (lt-ltb pos x j)
    (omega (arith, push_adds l a (to_string (part pos x segs)), string_least (part pos x segs), part_length pos x segs h)))
    (λ (j : x ≤ pos). rw (le-ltb pos x j) k)
    (lt_or_le pos x)

-- A border as text has a byte at least for each segment.
pub tagged_least : (a : ℕ) (segs : List ℕ) (l : List Piece) (pos : ℕ) (hs : List Hole) → any_past (length segs) hs ≡ false → pos ≤ size_of l
    → length segs ≤ size_of (into_tagged_from a segs l pos hs)
unfolding into_tagged_from any_past
tagged_least a segs l pos [] e h = omega (arith, push_adds l a (to_string (drop pos segs)), string_least (drop pos segs), length-drop pos segs)
tagged_least a segs l pos (k ∷ hs) e h =
    let n = length segs in
    let w = k.place + piece_width k.piece in
    let inside = leb-true w n (not-false (leb w n) (or_first (not (leb w n)) (any_past n hs) e)) in
    let u = up_to_hole a segs l pos k.place in
    let up = up_to_adds a segs l pos k.place (omega (arith, inside)) h in
    tagged_least a segs (push u k.piece) (at_hole pos k.place + piece_width k.piece) hs (or_second (not (leb w n)) (any_past n hs) e)
    (omega (arith, up, piece_adds u k.piece))
