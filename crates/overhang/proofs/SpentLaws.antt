-- What the V fields of a row come to: those that are not too long have no more bytes than the V fields of the sheet, and 65,538 for each
-- cell.
-- Assumes nothing.
use mathlib.Core.Path.{◌≡◌, refl, ap, ap₂}
use mathlib.Core.Bool.{Bool, true, false}
use mathlib.Core.List.{List, [], ◌∷◌, ◌++◌, map, append-nil}
use Prim.Native.Nat.{ℕ, zero, suc, ◌+◌, ◌-◌, ◌*◌, ◌≤◌}
use native.Mathlib.Omega.{arith}
use borrow.Author.Tests.{leb-true}
use lib.Dec.{leb, ltb}
use lib.ListN.{length, drop, length-append}
use Rattle.std.specs.Prelude.{if◌then◌else◌}
use Rattle.characters.proofs.Tests.{by_if, and_left}
use Rattle.fields.specs.Field.{field, all}
use Rattle.block.proofs.Bounds.{length_field}
use Rattle.rows.specs.declared.RenderOptions.{RenderOptions}
use Rattle.fields.specs.Spans.{RenderLine, text, border, Hanging, hanging, Cell, lines_bytes, hanging_content, overhang_bytes, content, letter as line-letter}
use Rattle.rows.specs.SubRenderer.{filled, without_top, without_bottom}
use Rattle.rows.specs.Answer.{fits_hanging}
use Rattle.rows.specs.Columns.{Slot, slot, cell_slots, hung_slot, slots_before, slots_at, next_pos, gap_slot, put_slot, slots_from, row_slots, column_of, column_hangs}
use Rattle.rows.proofs.Columns.{filled_zero}

-- ---- the bytes of V fields that are not too long

all_stay : (s : RenderOptions) (ls : List RenderLine) → map (filled s 0) ls ≡ ls
all_stay s [] = refl
all_stay s (l ∷ ls) = ap₂ ◌∷◌ (filled_zero s l) (all_stay s ls)

-- fewer lines have fewer bytes
lines_cons : (l : RenderLine) (ls : List RenderLine) → length (lines_bytes (l ∷ ls)) ≡ length (field (line-letter l) (content l)) + length (lines_bytes ls)
unfolding lines_bytes
lines_cons l ls = length-append (field (line-letter l) (content l)) (lines_bytes ls)

drop_less : (n : ℕ) (ls : List RenderLine) → length (lines_bytes (drop n ls)) ≤ length (lines_bytes ls)
drop_less zero ls = omega arith
drop_less (suc n) [] = omega arith
drop_less (suc n) (l ∷ ls) = omega (arith, drop_less n ls, lines_cons l ls)

top_less : (ls : List RenderLine) → length (lines_bytes (without_top ls)) ≤ length (lines_bytes ls)
top_less [] = omega arith
top_less (text ps ∷ ls) = omega arith
top_less (border a segs hs ∷ ls) = omega (arith, lines_cons (border a segs hs) ls)

bottom_less : (ls : List RenderLine) → length (lines_bytes (without_bottom ls)) ≤ length (lines_bytes ls)
unfolding without_bottom
bottom_less [] = omega arith
bottom_less (text ps ∷ []) = omega arith
bottom_less (border a segs hs ∷ []) = omega (arith, lines_cons (border a segs hs) [])
bottom_less (text ps ∷ k ∷ ls) = omega (arith, bottom_less (k ∷ ls), lines_cons (text ps) (k ∷ ls), lines_cons (text ps) (without_bottom (k ∷ ls)))
bottom_less (border a segs hs ∷ k ∷ ls) =
    omega (arith, bottom_less (k ∷ ls), lines_cons (border a segs hs) (k ∷ ls), lines_cons (border a segs hs) (without_bottom (k ∷ ls)))

column_less : (collapse : Bool) (x : Slot) → length (lines_bytes (column_of collapse x).lines) ≤ length (lines_bytes x.lines)
unfolding column_of
column_less false x = omega arith
column_less true x = omega (arith, bottom_less (without_top x.lines), top_less x.lines)

-- the bytes of V fields, if none is too long
abbrev spent_of : List Hanging → ℕ
spent_of vs = if all fits_hanging vs then length (overhang_bytes vs) else 0

one_field : (v : Hanging) → overhang_bytes (v ∷ []) ≡ field 0x56 (hanging_content v)
unfolding overhang_bytes
one_field v = append-nil (field 0x56 (hanging_content v))

spent_none : spent_of [] ≡ 0
unfolding all overhang_bytes
spent_none = refl

spent_size : (v : Hanging) → spent_of (v ∷ []) ≤ length (field 0x56 (hanging_content v))
spent_size v = by_if (λ (n : ℕ). n ≤ length (field 0x56 (hanging_content v))) (all fits_hanging (v ∷ [])) (λ _. omega (arith, ap length (one_field v))) (λ _. omega arith)

fits_one : (v : Hanging) → all fits_hanging (v ∷ []) ≡ true → length (hanging_content v) ≤ 65535
unfolding all
fits_one v e =
    leb-true (length (hanging_content v)) 65535 (and_left (leb (length (hanging_content v)) 65535) (leb v.pos 65535) (and_left (fits_hanging v) true e))

spent_most : (v : Hanging) → spent_of (v ∷ []) ≤ 65538
spent_most v =
    by_if (λ (n : ℕ). n ≤ 65538) (all fits_hanging (v ∷ []))
    (λ e. omega (arith, ap length (one_field v), length_field 0x56 (hanging_content v), fits_one v e)) (λ _. omega arith)

module _ (s : RenderOptions) (height : ℕ) (collapse : Bool) where
  -- of one cell
  abbrev pub spent : Slot → ℕ
  spent x = spent_of (column_hangs s height (column_of collapse x))

  -- of all
  abbrev pub spent_all : List Slot → ℕ
  spent_all [] = 0
  spent_all (x ∷ xs) = spent x + spent_all xs

  spent_cell : (x : Slot) → spent x ≤ 65538
  spent_cell x =
      by_if (λ (vs : List Hanging). spent_of vs ≤ 65538) (ltb 1 (column_of collapse x).span) (λ _. spent_most _) (λ _. omega (arith, spent_none))

  spent_hung : (v : Hanging) → spent (hung_slot v) ≤ length (field 0x56 (hanging_content v))
  unfolding column_of
  spent_hung v = go collapse
    where
      size : (b : Bool) → length (lines_bytes (map (filled s 0) (drop (height + 1) (column_of b (hung_slot v)).lines))) ≤ length (lines_bytes v.lines)
      size b =
          rw (all_stay s (drop (height + 1) (column_of b (hung_slot v)).lines))
          (omega (arith, drop_less (height + 1) (column_of b (hung_slot v)).lines, column_less b (hung_slot v)))

      less : (w r : ℕ) (ls : List RenderLine) → length (lines_bytes ls) ≤ length (lines_bytes v.lines)
          → spent_of (hanging v.pos w r ls ∷ []) ≤ length (field 0x56 (hanging_content v))
      less w r ls h =
          omega (arith, spent_size (hanging v.pos w r ls), length_field 0x56 (hanging_content (hanging v.pos w r ls)), length_field 0x56 (hanging_content v), h)

      go : (b : Bool) → spent_of (column_hangs s height (column_of b (hung_slot v))) ≤ length (field 0x56 (hanging_content v))
      go true =
          by_if (λ (vs : List Hanging). spent_of vs ≤ length (field 0x56 (hanging_content v))) (ltb 1 v.rows)
          (λ _. less v.width (v.rows - 1) _ (size true)) (λ _. omega (arith, spent_none))
      go false =
          by_if (λ (vs : List Hanging). spent_of vs ≤ length (field 0x56 (hanging_content v))) (ltb 1 v.rows)
          (λ _. less v.width (v.rows - 1) _ (size false)) (λ _. omega (arith, spent_none))

  spent_append : (xs ys : List Slot) → spent_all (xs ++ ys) ≡ spent_all xs + spent_all ys
  spent_append [] ys = omega arith
  spent_append (x ∷ xs) ys = omega (arith, spent_append xs ys)

  spent_split : (pos : ℕ) (xs : List Slot) → spent_all (slots_before pos xs) + spent_all (slots_at pos xs) ≡ spent_all xs
  unfolding slots_before slots_at
  spent_split pos [] = refl
  spent_split pos (x ∷ xs) = go (ltb x.pos pos) (spent_split pos xs)
    where
      go : (b : Bool) → spent_all (slots_before pos xs) + spent_all (slots_at pos xs) ≡ spent_all xs
          → spent_all (if b then x ∷ slots_before pos xs else []) + spent_all (if b then slots_at pos xs else x ∷ xs) ≡ spent_all (x ∷ xs)
      go true e = omega (arith, e)
      go false e = omega arith

  spent_gap : (next pos : ℕ) → spent_all (gap_slot next pos) ≡ 0
  unfolding column_of
  spent_gap next pos = by_if (λ (xs : List Slot). spent_all xs ≡ 0) (ltb next pos) (λ _. go collapse) (λ _. refl)
    where
      go : (b : Bool) → spent_of (column_hangs s height (column_of b (slot next (pos - (next + 1)) 0 1 []))) + 0 ≡ 0
      go true = omega (arith, spent_none)
      go false = omega (arith, spent_none)

  spent_put : (v : Hanging) (ys : List Slot) (n : ℕ) → spent_all (put_slot v ys n) ≤ length (field 0x56 (hanging_content v)) + spent_all ys
  spent_put v [] n = omega (arith, spent_append (gap_slot n v.pos) (hung_slot v ∷ []), spent_gap n v.pos, spent_hung v)
  spent_put v (y ∷ ys) n = omega (arith, spent_hung v)

  overhang_cons : (v : Hanging) (vs : List Hanging) → length (overhang_bytes (v ∷ vs)) ≡ length (field 0x56 (hanging_content v)) + length (overhang_bytes vs)
  unfolding overhang_bytes
  overhang_cons v vs = length-append (field 0x56 (hanging_content v)) (overhang_bytes vs)

  spent_from : (vs : List Hanging) (xs : List Slot) (next : ℕ) → spent_all (slots_from xs vs next) ≤ spent_all xs + length (overhang_bytes vs)
  unfolding slots_from
  spent_from [] xs next = omega arith
  spent_from (v ∷ vs) xs next =
      let n = next_pos v.pos xs next in
      let ys = slots_at v.pos xs in
      omega (
        arith,
        spent_append (slots_before v.pos xs) (slots_from (put_slot v ys n) vs n),
        spent_from vs (put_slot v ys n) n,
        spent_put v ys n,
        spent_split v.pos xs,
        overhang_cons v vs,
      )

  spent_cells : (pos : ℕ) (cs : List Cell) → spent_all (cell_slots pos cs) ≤ 65538 * length cs
  unfolding cell_slots
  spent_cells pos [] = omega arith
  spent_cells pos (c ∷ cs) = omega (arith, spent_cell (slot pos c.width c.width c.span c.lines), spent_cells (pos + c.width + 1) cs)

  -- The V fields of a row have no more bytes than those of the sheet, and 65,538 for each cell.
  pub row_spent : (cs : List Cell) (vs : List Hanging) → length cs ≤ 16 → spent_all (row_slots vs cs) ≤ length (overhang_bytes vs) + 1048608
  unfolding row_slots
  row_spent cs vs few = omega (arith, spent_from vs (cell_slots 0 cs) 0, spent_cells 0 cs)
