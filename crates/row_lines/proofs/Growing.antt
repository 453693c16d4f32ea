-- A line of the row only grows: what is pushed onto it is never shorter, so a line that is too long stays so.
-- Assumes nothing.
use mathlib.Core.Path.{◌≡◌, refl}
use mathlib.Core.Bool.{Bool, true, false}
use mathlib.Core.Option.{Option, none, some, map}
use mathlib.Core.List.{List, [], ◌∷◌}
use Prim.Native.Nat.{ℕ, zero, suc, ◌-◌, ◌*◌, ◌≤◌, ◌<◌}
use native.Mathlib.Omega.{arith}
use lib.Dec.{ltb}
use lib.ListN.{length, replicate}
use borrow.Author.Tests.{ltb-true, ltb-false}
use Rattle.characters.specs.Utf8.{Place, fresh, inside, Step, bad, on, ends, step_byte, follow, at_end, chars_from, chars}
use Rattle.characters.specs.Columns.{str_width}
use Rattle.characters.proofs.Tables.{cols_le_two}
use Rattle.characters.proofs.Tests.{or_left, or_right}
use Rattle.fields.specs.Sheet.{Piece, str, fragment}
use Rattle.fields.specs.Widths.{width_or, text_width, width}
use Rattle.rows.specs.declared.RenderOptions.{RenderOptions}
use Rattle.fields.specs.TaggedLine.{consume}
use Rattle.rows.specs.SubRenderer.{edge}
use Rattle.fields.specs.Spans.{RenderLine, text, border}
use Rattle.rows.specs.Columns.{Column, add_column}
use Rattle.extend_lines.proofs.Growing.{size_of, size_cons, size_str, grow_str, grow_consume}
use Rattle.row_lines.specs.Seat.{opened}
use Rattle.tagged_line.specs.Held.{Held}
use Rattle.tagged_line.specs.declared.line.Line.{Line}
use Rattle.row_lines.specs.Row.{is_long}

-- what columns give to a line, the first of which is the k-th of the row
unfoldable pub columns_from : RenderOptions → ℕ → List Piece → List Column → List Piece
columns_from s k l [] = l
columns_from s k l (c ∷ cs) = columns_from s (suc k) (add_column s (opened s k l) c c.lines) cs

grow_column : (s : RenderOptions) (l : List Piece) (c : Column) (ls : List RenderLine) → size_of l ≤ size_of (add_column s l c ls)
grow_column s l c [] = grow_str l _ _
grow_column s l c (text ps ∷ ls) = omega (arith, grow_consume l ps, grow_str (consume l ps) s.annotation (replicate (c.to - width ps) 0x20))
grow_column s l c (border a segs hs ∷ ls) = grow_str l _ _

grow_opened : (s : RenderOptions) (k : ℕ) (l : List Piece) → size_of l ≤ size_of (opened s k l)
grow_opened s zero l = omega arith
grow_opened s (suc k) l = grow_str l s.annotation (edge s)

-- What columns give to it.
pub grow_columns : (s : RenderOptions) (k : ℕ) (l : List Piece) (cs : List Column) → size_of l ≤ size_of (columns_from s k l cs)
unfolding columns_from
grow_columns s k l [] = omega arith
grow_columns s k l (c ∷ cs) =
    omega (arith, grow_opened s k l, grow_column s (opened s k l) c c.lines, grow_columns s (suc k) (add_column s (opened s k l) c c.lines) cs)

-- ---- columns and bytes

-- a text has two columns at most for each byte
abbrev Wide : Option (List ℕ) → ℕ → Type 0
Wide none n = Unit {0}
Wide (some cs) n = str_width cs ≤ 2 * n

wide_more : (o : Option (List ℕ)) (n : ℕ) → Wide o n → Wide o (suc n)
wide_more none n h = tt
wide_more (some cs) n h = omega arith

wide_char : (c : ℕ) (o : Option (List ℕ)) (n : ℕ) → Wide o n → Wide (map (λ (cs : List ℕ). c ∷ cs) o) (suc n)
unfolding str_width
wide_char c none n h = tt
wide_char c (some cs) n h = omega (arith, cols_le_two c)

wide_follow : (x : Step) (f : Place → Option (List ℕ)) (n : ℕ) → ((q : Place) → Wide (f q) n) → Wide (follow x f) (suc n)
wide_follow bad f n h = tt
wide_follow (on q) f n h = wide_more (f q) n (h q)
wide_follow (ends c) f n h = wide_char c (f fresh) n (h fresh)

wide_end : (p : Place) → Wide (at_end p) 0
unfolding str_width
wide_end fresh = omega arith
wide_end (inside a b c d) = tt

wide_from : (p : Place) (bs : List ℕ) → Wide (chars_from p bs) (length bs)
unfolding chars_from
wide_from p [] = wide_end p
wide_from p (b ∷ bs) = wide_follow (step_byte p b) (λ (q : Place). chars_from q bs) (length bs) (λ q. wide_from q bs)

wide_or : (o : Option (List ℕ)) (n : ℕ) → Wide o n → width_or o ≤ 2 * n
wide_or none n h = omega arith
wide_or (some cs) n h = h

text_wide : (t : List ℕ) → text_width t ≤ 2 * length t
unfolding text_width chars
text_wide t = wide_or (chars_from fresh t) (length t) (wide_from fresh t)

-- So has a line.
pub line_wide : (l : List Piece) → width l ≤ 2 * size_of l
unfolding width
line_wide [] = omega arith
line_wide (str a t ∷ l) = omega (arith, text_wide t, line_wide l, size_cons (str a t) l, size_str a t)
line_wide (fragment n ∷ l) = omega (arith, line_wide l, size_cons (fragment n) l)

-- A line that is found too long is.
pub long_size : (st : List ℕ) (l : List Piece) (out : List ℕ) (p : Line) → Held st l out p → is_long p ≡ true → 65535 < size_of l
long_size st l out p h e = go (ltb 131070 p.cols) refl
  where
    go : (b : Bool) → ltb 131070 p.cols ≡ b → 65535 < size_of l
    go true x = let y = ltb-true 131070 p.cols x in omega (arith, h.cols, line_wide l)
    go false x = let y = ltb-true 65535 (p.at - p.base) (rw x at e) in omega (arith, h.place)

-- One that is not is short in both.
pub short_line : (p : Line) → is_long p ≡ false → (p.cols ≤ 131070) × (p.at - p.base ≤ 65535)
short_line p e = (ltb-false 131070 p.cols (or_left (ltb 131070 p.cols) (ltb 65535 (p.at - p.base)) e), ltb-false 65535 (p.at - p.base) (or_right (ltb 131070 p.cols) (ltb 65535 (p.at - p.base)) e))
