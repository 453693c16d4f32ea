-- The walks over a sheet that passes refusal 1 give its lines, pieces, holes, waiting names and hanging cells, in order, and nothing that is broken.
-- Assumes nothing.
use mathlib.Core.Path.{◌≡◌, refl, sym, ap, ◌∙◌}
use mathlib.Core.Bool.{Bool, true, false, ◌&&◌}
use mathlib.Core.Logic.{⊎_elim}
use mathlib.Core.Option.{Option, none, some, none-ne-some}
use mathlib.Core.Option as option
use mathlib.Core.List.{List, [], ◌∷◌}
use Prim.Native.Nat.{ℕ, zero, suc, ◌+◌, ◌*◌, ◌<◌}
use native.Mathlib.Omega.{arith}
use lib.Dec.{leb, eqb}
use lib.ListN.{length, take, drop, drop_of_length-le}
use lib.Seq.{drop-drop}
use borrow.Author.Tests.{eqb-true, lt-ltb}
use Rattle.std.specs.Prelude.{if◌then◌else◌, map, Some, None, Ok, Err}
use Rattle.std.specs.Prelude as rust
use Rattle.characters.proofs.Tests.{lt_or_le}
use Rattle.fields.specs.Field.{Raw, whole, broken, raws, both, read_all, all}
use Rattle.fields.specs.Sheet as sheet
use Rattle.fields.specs.Sheet.{str, fragment, read_str, is_segment}
use Rattle.fields.proofs.Sizes.{first_field}
use Rattle.fields.proofs.Readings.{read_first, read_none}
use Rattle.fields.specs.Spans as spans
use Rattle.fields.specs.Spans.{Hole, hole, RenderLine, Hanging, hanging, Sheet, sheet_of, RawHole, punched, torn, raw_holes_f, raw_holes, read_hole, read_holes, ends_within, holed, read_holed, read_border, is_span, read_hanging_content, before_hanging, from_hanging, before_names, from_names, parts, counted, read_parts, read_headed, read_sheet}
use Rattle.fields.specs.declared.raw.Broken.{Broken}
use Rattle.reader.proofs.Places.{cell_line}
use Rattle.reader.specs.Reading.{Reading, SeenLine, items, items_size, size_then, field_size, text, border, holes, item_then, seen, piece_of, read_piece, read_line, read_cell_line, read_name, read_hanging, from_lines, lines_end, names_end, whole_line, whole_hanging, walked, WalksBack}

-- ---- a list that is read

module _ {A B : Type 0} (f : Raw → Option A) (read : Reading B) (whole_of : A → B) (bad : f broken ≡ none) (good : (l : ℕ) (c : List ℕ) (a : A) → f (whole l c) ≡ some a → read l c ≡ Some (Ok (whole_of a))) where
  -- Where each field is read, a walk gives all that is read.
  items_back : (rs : List Raw) (l : List A) → read_all f rs ≡ some l → items read rs ≡ map (λ a. Ok (whole_of a)) l
  unfolding items
  items_back [] m e = rw (read_none f m e)
  items_back (broken ∷ rs) m e = let r = read_first f broken rs m e in absurd (none-ne-some r.one (sym bad ∙ r.first))
  items_back (whole l c ∷ rs) m e =
      let r = read_first f (whole l c) rs m e in
      rw (good l c r.one r.first) (ap (λ (z : List (rust.Result B Broken)). Ok (whole_of r.one) ∷ z) (items_back rs r.more r.later))
      ∙ sym (ap (map (λ a. Ok (whole_of a))) r.are)

-- ---- what stands behind the items

-- the fields from the first on that is no item
behind_then : {B : Type 0} → rust.Option (rust.Result B Broken) → List Raw → List Raw → List Raw
behind_then None here more = here
behind_then (Some (Err e)) here more = here
behind_then (Some (Ok b)) here more = more

behind : {B : Type 0} → Reading B → List Raw → List Raw
behind read [] = []
behind read (broken ∷ rs) = broken ∷ rs
behind read (whole l c ∷ rs) = behind_then (read l c) (whole l c ∷ rs) (behind read rs)

module _ {B : Type 0} (read : Reading B) (s : List ℕ) where
  -- They stand behind the bytes of the items.
  behind_size : (rs : List Raw) (at : ℕ) → raws (drop at s) ≡ rs → raws (drop (at + items_size read rs) s) ≡ behind read rs
  unfolding items_size behind behind_then
  behind_size [] at e = let z : at + 0 ≡ at = omega arith in rw z e
  behind_size (broken ∷ rs) at e = let z : at + 0 ≡ at = omega arith in rw z e
  behind_size (whole l c ∷ rs) at e = there (behind_size rs) (rw drop-drop at (first_field (drop at s) l c rs e).behind) (read l c)
    where
      there : ((at : ℕ) → raws (drop at s) ≡ rs → raws (drop (at + items_size read rs) s) ≡ behind read rs) → raws (drop (at + (3 + length c)) s) ≡ rs
          → (r : rust.Option (rust.Result B Broken)) → raws (drop (at + size_then r (field_size l c + items_size read rs)) s) ≡ behind_then r (whole l c ∷ rs) (behind read rs)
      there later w None = let z : at + 0 ≡ at = omega arith in rw z e
      there later w (Some (Err x)) = let z : at + 0 ≡ at = omega arith in rw z e
      there later w (Some (Ok b)) =
          let m : at + (3 + length c + items_size read rs) ≡ at + (3 + length c) + items_size read rs = omega arith in
          rw m (later (at + (3 + length c)) w)

-- ---- pieces

-- A field that is read as a piece is given as it.
piece_good : (l : ℕ) (c : List ℕ) (p : sheet.Piece) → sheet.read_piece (whole l c) ≡ some p → piece_of l c ≡ Ok p
unfolding sheet.read_piece
piece_good l c p e = go (eqb l 0x53) refl (eqb l 0x46) refl e
  where
    is_text : l ≡ 0x53 → (c : List ℕ) → read_str c ≡ some p → piece_of l c ≡ Ok p
    is_text h [] e = absurd (none-ne-some p e)
    is_text h (a ∷ []) e = absurd (none-ne-some p e)
    is_text h (a ∷ b ∷ t) e = let k : str a (b ∷ t) ≡ p = cc in rw (h, k)

    go : (x : Bool) → eqb l 0x53 ≡ x → (y : Bool) → eqb l 0x46 ≡ y → (if x then read_str c else if y then some (fragment c) else none) ≡ some p
        → piece_of l c ≡ Ok p
    go true h y k e = is_text (eqb-true l 0x53 h) c e
    go false h true k e = let z : fragment c ≡ p = cc in rw (k, z)
    go false h false k e = absurd (none-ne-some _ e)

-- The pieces of a line.
pieces_back : (rs : List Raw) (ps : List sheet.Piece) → read_all sheet.read_piece rs ≡ some ps → items read_piece rs ≡ map Ok ps
unfolding sheet.read_piece
pieces_back rs ps e = items_back sheet.read_piece read_piece (λ p. p) refl (λ l c p e. ap Some (piece_good l c p e)) rs ps e

-- ---- holes

-- a list of holes that is read: its first entry, and the others
record HolesFirst (p : ℕ) (r : Raw) (rs : List RawHole) (hs : List Hole) : Type 0 where
  one : sheet.Piece
  more : List Hole
  are : hs ≡ hole p one ∷ more
  first : sheet.read_piece r ≡ some one
  later : read_holes rs ≡ some more

holes_first : (p : ℕ) (r : Raw) (rs : List RawHole) (hs : List Hole) → read_holes (punched p r ∷ rs) ≡ some hs → HolesFirst p r rs hs
unfolding read_holes read_hole
holes_first p r rs hs e = go (sheet.read_piece r) refl (read_holes rs) refl e
  where
    go : (o : Option sheet.Piece) → sheet.read_piece r ≡ o → (q : Option (List Hole)) → read_holes rs ≡ q → both (option.map (hole p) o) q ≡ some hs → HolesFirst p r rs hs
    go none x q y e = absurd (none-ne-some _ e)
    go (some t) x none y e = absurd (none-ne-some _ e)
    go (some t) x (some m) y e = record { one = t; more = m; are = cc; first = x; later = y }

-- The holes of a border.
holes_back : (rs : List RawHole) (hs : List Hole) → read_holes rs ≡ some hs → holes rs ≡ map Ok hs
unfolding holes read_holes read_hole sheet.read_piece
holes_back [] hs e = let k : [] ≡ hs = cc in rw (← k)
holes_back (torn ∷ rs) hs e = absurd (none-ne-some _ e)
holes_back (punched p broken ∷ rs) hs e = let r = holes_first p broken rs hs e in absurd (none-ne-some r.one r.first)
holes_back (punched p (whole l c) ∷ rs) hs e =
    let r = holes_first p (whole l c) rs hs e in
    let k = piece_good l c r.one r.first in
    ap (λ (z : rust.Result sheet.Piece Broken). item_then (Some (seen (hole p) z)) (holes rs)) k
    ∙ ap (λ (z : List (rust.Result Hole Broken)). Ok (hole p r.one) ∷ z) (holes_back rs r.more r.later)
    ∙ sym (ap (map Ok) r.are)

-- ---- lines

-- Holes that are read are some, so bytes are left for them.
some_left : (n : ℕ) (rest : List ℕ) (h : Hole) (hs : List Hole) → read_holes (raw_holes (drop n rest)) ≡ some (h ∷ hs) → n < length rest
unfolding read_holes raw_holes raw_holes_f
some_left n rest h hs e =
    ⊎_elim (λ k. k) (λ k. absurd (let d : drop n rest ≡ [] = drop_of_length-le rest k in let x : some [] ≡ some (h ∷ hs) = rw d at e in let z : ◌≡◌ {A = ℕ} 0 1 = cc in omega arith))
    (lt_or_le n (length rest))

module _ (l : ℕ) (r : RenderLine) where
  -- A field that is read as a text is given as it.
  text_good : (c : List ℕ) → l ≡ 0x4C → option.map spans.text (read_all sheet.read_piece (raws c)) ≡ some r → read_line l c ≡ Some (Ok (whole_line r))
  text_good c h e = go (read_all sheet.read_piece (raws c)) refl e
    where
      go : (o : Option (List sheet.Piece)) → read_all sheet.read_piece (raws c) ≡ o → option.map spans.text o ≡ some r → read_line l c ≡ Some (Ok (whole_line r))
      go none k e = absurd (none-ne-some r e)
      go (some ps) k e = let z : spans.text ps ≡ r = cc in rw (← z, h) (ap (λ (x : List (rust.Result sheet.Piece Broken)). Some (Ok (text x))) (pieces_back (raws c) ps k))

  -- A border without holes.
  border_good : (c : List ℕ) → l ≡ 0x42 → read_border c ≡ some r → read_line l c ≡ Some (Ok (whole_line r))
  border_good [] h e = absurd (none-ne-some r e)
  border_good (a ∷ segments) h e = go (all is_segment segments) e
    where
      go : (x : Bool) → (if x then some (spans.border a segments []) else none) ≡ some r → read_line l (a ∷ segments) ≡ Some (Ok (whole_line r))
      go true e = let z : spans.border a segments [] ≡ r = cc in rw (← z, h)
      go false e = absurd (none-ne-some _ e)

  -- A border with holes.
  holed_good : (c : List ℕ) → l ≡ 0x47 → read_holed c ≡ some r → read_line l c ≡ Some (Ok (whole_line r))
  unfolding read_holed
  holed_good [] h e = absurd (none-ne-some r e)
  holed_good (a ∷ []) h e = absurd (none-ne-some r e)
  holed_good (a ∷ x ∷ []) h e = absurd (none-ne-some r e)
  holed_good (a ∷ x ∷ o ∷ rest) h e = go (leb n (length rest)) e
    where
      n : ℕ
      n = x * 256 + o

      segments : List ℕ
      segments = take n rest

      some_holes : (hs : List Hole) → read_holes (raw_holes (drop n rest)) ≡ some hs → n < length rest → spans.border a segments hs ≡ r
          → read_line l (a ∷ x ∷ o ∷ rest) ≡ Some (Ok (whole_line r))
      some_holes hs k m z =
          rw (← z, h, lt-ltb n (length rest) m) (ap (λ (y : List (rust.Result Hole Broken)). Some (Ok (border a segments y))) (holes_back (raw_holes (drop n rest)) hs k))

      by_holes : (q : Option (List Hole)) → read_holes (raw_holes (drop n rest)) ≡ q → holed a segments q ≡ some r → read_line l (a ∷ x ∷ o ∷ rest) ≡ Some (Ok (whole_line r))
      by_holes none k e = absurd (none-ne-some r e)
      by_holes (some []) k e = absurd (none-ne-some r e)
      by_holes (some (i ∷ hs)) k e = last (all is_segment segments && all (ends_within (length segments)) (i ∷ hs)) e
        where
          last : (t : Bool) → (if t then some (spans.border a segments (i ∷ hs)) else none) ≡ some r → read_line l (a ∷ x ∷ o ∷ rest) ≡ Some (Ok (whole_line r))
          last true e = some_holes (i ∷ hs) k (some_left n rest i hs k) cc
          last false e = absurd (none-ne-some _ e)

      go : (t : Bool) → (if t then holed a (take n rest) (read_holes (raw_holes (drop n rest))) else none) ≡ some r → read_line l (a ∷ x ∷ o ∷ rest) ≡ Some (Ok (whole_line r))
      go true e = by_holes (read_holes (raw_holes (drop n rest))) refl e
      go false e = absurd (none-ne-some _ e)

-- A field that is read as a line is given as it.
line_good : (l : ℕ) (c : List ℕ) (r : RenderLine) → spans.read_line (whole l c) ≡ some r → read_line l c ≡ Some (Ok (whole_line r))
unfolding spans.read_line
line_good l c r e = go (eqb l 0x4C) refl (eqb l 0x42) refl (eqb l 0x47) refl e
  where
    go : (x : Bool) → eqb l 0x4C ≡ x → (y : Bool) → eqb l 0x42 ≡ y → (z : Bool) → eqb l 0x47 ≡ z
        → (if x then option.map spans.text (read_all sheet.read_piece (raws c)) else if y then read_border c else if z then read_holed c else none) ≡ some r
        → read_line l c ≡ Some (Ok (whole_line r))
    go true h y k z m e = text_good l r c (eqb-true l 0x4C h) e
    go false h true k z m e = border_good l r c (eqb-true l 0x42 k) e
    go false h false k true m e = holed_good l r c (eqb-true l 0x47 m) e
    go false h false k false m e = absurd (none-ne-some _ e)

-- The lines of a hanging cell.
cell_lines_back : (rs : List Raw) (ls : List RenderLine) → read_all spans.read_line rs ≡ some ls → items read_cell_line rs ≡ map (λ l. Ok (whole_line l)) ls
unfolding spans.read_line
cell_lines_back rs ls e =
    items_back spans.read_line read_cell_line whole_line refl (λ l c r e. cell_line l c (Ok (whole_line r)) (line_good l c r e)) rs ls e

-- what stands behind the lines of a list of fields: the names, then the hanging cells
record Behind (rs : List Raw) : Type 0 where
  names : before_hanging (behind read_line rs) ≡ from_names (before_hanging rs)
  overhang : from_hanging (behind read_line rs) ≡ from_hanging rs

-- The lines of a sheet, and what stands behind them.
lines_back : (rs : List Raw) (ls : List RenderLine) → read_all spans.read_line (before_names (before_hanging rs)) ≡ some ls
    → (items read_line rs ≡ map (λ l. Ok (whole_line l)) ls) × Behind rs
unfolding items behind behind_then before_hanging from_hanging before_names from_names spans.read_line
lines_back [] ls e = (rw (read_none spans.read_line ls e), record { names = refl; overhang = refl })
lines_back (broken ∷ rs) ls e = let r = read_first spans.read_line broken _ ls e in absurd (none-ne-some r.one r.first)
lines_back (whole l c ∷ rs) ls e = go (lines_back rs) (eqb l 0x56) refl (eqb l 0x46) refl
  where
    go : ((ls : List RenderLine) → read_all spans.read_line (before_names (before_hanging rs)) ≡ some ls → (items read_line rs ≡ map (λ l. Ok (whole_line l)) ls) × Behind rs)
        → (x : Bool) → eqb l 0x56 ≡ x → (y : Bool) → eqb l 0x46 ≡ y → (items read_line (whole l c ∷ rs) ≡ map (λ l. Ok (whole_line l)) ls) × Behind (whole l c ∷ rs)
    go later true x y z =
        let v = eqb-true l 0x56 x in
        let none_left : ls ≡ [] = read_none spans.read_line ls (rw v at e) in
        (rw v (sym (ap (map (λ l. Ok (whole_line l))) none_left)), record { names = rw v; overhang = rw v })
    go later false x true z =
        let f = eqb-true l 0x46 z in
        let none_left : ls ≡ [] = read_none spans.read_line ls (rw f at e) in
        (rw f (sym (ap (map (λ l. Ok (whole_line l))) none_left)), record { names = rw f; overhang = rw f })
    go later false x false z =
        let r = read_first spans.read_line (whole l c) (before_names (before_hanging rs)) ls (rw (x, z) at e) in
        let k = line_good l c r.one r.first in
        let w = later r.more r.later in (
          rw k (ap (λ (q : List (rust.Result SeenLine Broken)). Ok (whole_line r.one) ∷ q) w.0) ∙ sym (ap (map (λ l. Ok (whole_line l))) r.are),
          record { names = rw (k, x, z) w.1.names; overhang = rw (k, x) w.1.overhang },
        )

-- ---- names that wait

-- A field that is read as a name is given as it.
name_good : (l : ℕ) (c n : List ℕ) → spans.read_name (whole l c) ≡ some n → read_name l c ≡ Some (Ok n)
unfolding spans.read_name
name_good l c n e = go (eqb l 0x46) refl e
  where
    go : (x : Bool) → eqb l 0x46 ≡ x → (if x then some c else none) ≡ some n → read_name l c ≡ Some (Ok n)
    go true h e = let f = eqb-true l 0x46 h in let k : c ≡ n = cc in rw (f, k)
    go false h e = absurd (none-ne-some _ e)

-- The names of a sheet, and what stands behind them.
names_back : (rs : List Raw) (ns : List (List ℕ)) → read_all spans.read_name (before_hanging rs) ≡ some ns
    → (items read_name rs ≡ map Ok ns) × (behind read_name rs ≡ from_hanging rs)
unfolding items behind behind_then before_hanging from_hanging spans.read_name
names_back [] ns e = (rw (read_none spans.read_name ns e), refl)
names_back (broken ∷ rs) ns e = let r = read_first spans.read_name broken _ ns e in absurd (none-ne-some r.one r.first)
names_back (whole l c ∷ rs) ns e = go (names_back rs) (eqb l 0x56) refl
  where
    go : ((ns : List (List ℕ)) → read_all spans.read_name (before_hanging rs) ≡ some ns → (items read_name rs ≡ map Ok ns) × (behind read_name rs ≡ from_hanging rs))
        → (x : Bool) → eqb l 0x56 ≡ x → (items read_name (whole l c ∷ rs) ≡ map Ok ns) × (behind read_name (whole l c ∷ rs) ≡ from_hanging (whole l c ∷ rs))
    go later true x =
        let v = eqb-true l 0x56 x in
        let none_left : ns ≡ [] = read_none spans.read_name ns (rw v at e) in
        (rw v (sym (ap (map Ok) none_left)), rw v)
    go later false x =
        let r = read_first spans.read_name (whole l c) (before_hanging rs) ns (rw x at e) in
        let k = name_good l c r.one r.first in
        let w = later r.more r.later in
        (rw k (ap (λ (q : List (rust.Result (List ℕ) Broken)). Ok r.one ∷ q) w.0) ∙ sym (ap (map Ok) r.are), rw (k, x) w.1)

-- ---- hanging cells

module _ (l : ℕ) (v : Hanging) where
  -- The content of a hanging cell.
  content_good : (c : List ℕ) → l ≡ 0x56 → read_hanging_content c ≡ some v → read_hanging l c ≡ Some (Ok (whole_hanging v))
  content_good [] h e = absurd (none-ne-some v e)
  content_good (p ∷ []) h e = absurd (none-ne-some v e)
  content_good (p ∷ q ∷ []) h e = absurd (none-ne-some v e)
  content_good (p ∷ q ∷ w ∷ []) h e = absurd (none-ne-some v e)
  content_good (p ∷ q ∷ w ∷ r ∷ rest) h e = go (is_span r) (read_all spans.read_line (raws rest)) refl e
    where
      go : (x : Bool) (o : Option (List RenderLine)) → read_all spans.read_line (raws rest) ≡ o → (if x then option.map (hanging (p * 256 + q) w r) o else none) ≡ some v
          → read_hanging l (p ∷ q ∷ w ∷ r ∷ rest) ≡ Some (Ok (whole_hanging v))
      go true none k e = absurd (none-ne-some _ e)
      go true (some ls) k e =
          let z : hanging (p * 256 + q) w r ls ≡ v = cc in
          rw (← z, h)
          (ap (λ (x : List (rust.Result SeenLine Broken)). Some (Ok (record { position = p * 256 + q; width = w; rows = r; lines = x }))) (cell_lines_back (raws rest) ls k))
      go false o k e = absurd (none-ne-some _ e)

-- A field that is read as a hanging cell is given as it.
hanging_good : (l : ℕ) (c : List ℕ) (v : Hanging) → spans.read_hanging (whole l c) ≡ some v → read_hanging l c ≡ Some (Ok (whole_hanging v))
unfolding spans.read_hanging
hanging_good l c v e = go (eqb l 0x56) refl e
  where
    go : (x : Bool) → eqb l 0x56 ≡ x → (if x then read_hanging_content c else none) ≡ some v → read_hanging l c ≡ Some (Ok (whole_hanging v))
    go true h e = content_good l v c (eqb-true l 0x56 h) e
    go false h e = absurd (none-ne-some _ e)

-- The hanging cells of a sheet.
hangings_back : (rs : List Raw) (vs : List Hanging) → read_all spans.read_hanging rs ≡ some vs → items read_hanging rs ≡ map (λ h. Ok (whole_hanging h)) vs
unfolding spans.read_hanging
hangings_back rs vs e = items_back spans.read_hanging read_hanging whole_hanging refl hanging_good rs vs e

-- ---- the sheet

-- the fields behind a head: lines, then names, then hanging cells
record Reads (rs : List Raw) (t : Sheet) : Type 0 where
  lines : read_all spans.read_line (before_names (before_hanging rs)) ≡ some t.lines
  names : read_all spans.read_name (from_names (before_hanging rs)) ≡ some t.names
  hanging : read_all spans.read_hanging (from_hanging rs) ≡ some t.overhang

-- The head's content is two bytes.
counted_two : (c : List ℕ) (o : Option Sheet) (t : Sheet) → counted c o ≡ some t → (length c ≡ 2) × (o ≡ some t)
counted_two c none t e = absurd (none-ne-some t e)
counted_two [] (some u) t e = absurd (none-ne-some t e)
counted_two (a ∷ []) (some u) t e = absurd (none-ne-some t e)
counted_two (a ∷ b ∷ []) (some u) t e = go (eqb (a * 256 + b) (length u.lines)) e
  where
    go : (x : Bool) → (if x then some u else none) ≡ some t → (suc (suc zero) ≡ 2) × (some u ≡ some t)
    go true e = (refl, e)
    go false e = absurd (none-ne-some _ e)
counted_two (a ∷ b ∷ x ∷ c) (some u) t e = absurd (none-ne-some t e)

-- Each of the three parts is read.
parts_read : (rs : List Raw) (t : Sheet) → read_parts rs ≡ some t → Reads rs t
parts_read rs t e =
    go (read_all spans.read_line (before_names (before_hanging rs))) refl (read_all spans.read_name (from_names (before_hanging rs))) refl (read_all spans.read_hanging (from_hanging rs)) refl e
  where
    go : (o : Option (List RenderLine)) → read_all spans.read_line (before_names (before_hanging rs)) ≡ o → (p : Option (List (List ℕ)))
        → read_all spans.read_name (from_names (before_hanging rs)) ≡ p → (q : Option (List Hanging)) → read_all spans.read_hanging (from_hanging rs) ≡ q → parts o p q ≡ some t → Reads rs t
    go none x p y q z e = absurd (none-ne-some t e)
    go (some ls) x none y q z e = absurd (none-ne-some t e)
    go (some ls) x (some ns) y none z e = absurd (none-ne-some t e)
    go (some ls) x (some ns) y (some vs) z e =
        let k : sheet_of ls ns vs ≡ t = cc in
        record {
          lines = x ∙ ap (λ (u : Sheet). some u.lines) k;
          names = y ∙ ap (λ (u : Sheet). some u.names) k;
          hanging = z ∙ ap (λ (u : Sheet). some u.overhang) k;
        }

headed : (l : ℕ) (c : List ℕ) (rs : List Raw) (t : Sheet) → read_headed (whole l c ∷ rs) ≡ some t → (length c ≡ 2) × Reads rs t
unfolding read_headed
headed l c rs t e = go (eqb l 0x48) e
  where
    go : (x : Bool) → (if x then counted c (read_parts rs) else none) ≡ some t → (length c ≡ 2) × Reads rs t
    go true e = let w = counted_two c (read_parts rs) t e in (w.0, parts_read rs t w.1)
    go false e = absurd (none-ne-some _ e)

-- The lines of a sheet begin behind five bytes.
behind_head : (s : List ℕ) (t : Sheet) → read_headed (raws s) ≡ some t → Reads (raws (drop 5 s)) t
unfolding read_headed
behind_head s t e = go (raws s) refl e
  where
    go : (rs : List Raw) → raws s ≡ rs → read_headed rs ≡ some t → Reads (raws (drop 5 s)) t
    go [] k e = absurd (none-ne-some t e)
    go (broken ∷ rs) k e = absurd (none-ne-some t e)
    go (whole l c ∷ rs) k e =
        let r = headed l c rs t e in
        let n : 3 + length c ≡ 5 = omega (arith, r.0) in
        let behind : raws (drop 5 s) ≡ rs = rw n at (first_field s l c rs k).behind in
        rw behind r.1

-- The walks over a sheet that passes refusal 1 give its lines, the names that wait on it, and the cells that hang from it.
pub walks_back : WalksBack
unfolding walked lines_end names_end read_sheet
walks_back s t e =
    let r = behind_head s t e in
    let b = lines_back (from_lines s) t.lines r.lines in
    let n = behind_size read_line s (from_lines s) 5 refl in
    let d = names_back (raws (drop (lines_end s) s)) t.names (ap (read_all spans.read_name) (ap before_hanging n ∙ b.1.names) ∙ r.names) in
    let m = behind_size read_name s (raws (drop (lines_end s) s)) (lines_end s) refl in
    let c = hangings_back (raws (drop (names_end s) s)) t.overhang (ap (read_all spans.read_hanging) (m ∙ d.1 ∙ ap from_hanging n ∙ b.1.overhang) ∙ r.hanging) in
    rw (b.0, d.0, c)
