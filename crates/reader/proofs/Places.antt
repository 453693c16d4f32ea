-- Laws of what stands at places of a byte list: items and holes, and how far walks over them go.
-- Assumes nothing.
use mathlib.Core.Path.{◌≡◌, refl, sym, ap, ◌∙◌}
use mathlib.Core.Bool.{Bool, true, false}
use mathlib.Core.List.{List, [], ◌∷◌}
use mathlib.Core.Logic.{◌⊎◌, inl, inr, ⊎_elim}
use Prim.Native.Nat.{ℕ, suc, ◌+◌, ◌-◌, ◌*◌, ◌≤◌, ◌<◌}
use native.Mathlib.Omega.{arith}
use lib.Dec.{leb}
use lib.ListN.{length, take, drop, get_or, length-drop, drop_of_length-le}
use lib.Seq.{drop-drop, drop-cons, length-take-le}
use borrow.Author.Tests.{eqb-true, leb-true}
use Rattle.std.specs.Prelude.{if◌then◌else◌, eqb, Option, Some, None, Result, Ok, Err}
use Rattle.fields.specs.Field.{Raw, whole, broken, raws_f, raws}
use Rattle.fields.specs.Sheet as sheet
use Rattle.fields.specs.Spans as spans
use Rattle.fields.specs.Spans.{RawHole, punched, torn, raw_holes_f, raw_holes}
use Rattle.characters.proofs.Tests.{lt_or_le}
use Rattle.fields.proofs.Fields.{raws_nil}
use Rattle.fields.proofs.Sizes.{first_field, raws_size, raws_bytes}
use Rattle.fields.proofs.SpansBack.{hole_whole, hole_torn}
use Rattle.fields.specs.declared.raw.Broken.{Broken}
use Rattle.reader.specs.declared.walk.Found.{Found}
use Rattle.reader.specs.declared.walk.Walk.{Walk}
use Rattle.reader.specs.declared.hole.Holes.{Holes}
use Rattle.reader.specs.Reading.{Reading, not_one, item_then, items, first_size, items_size, size_then, field_size, FieldIn, ItemIn, ahead, left, next_place, end_place, seen, piece_of, hole_of, holes, first_hole_size, holes_ahead, holes_left, next_hole_place, SeenLine, read_line, in_cell, read_cell_line}

-- Behind the list no field is left.
pub nothing_left : (s : List ℕ) (at : ℕ) → length s ≤ at → raws (drop at s) ≡ []
nothing_left s at h = rw (drop_of_length-le s h) raws_nil

-- ---- the item at a place

module _ {A : Type 0} (read : Reading A) (s : List ℕ) (at : ℕ) (f : Found) (h : FieldIn s at f) where
  -- An item.
  pub item_in : (a : A) → read f.letter f.content.now ≡ Some (Ok a) → ItemIn read s at a f.next
  unfolding items first_size
  item_in a e = record { first = rw (h.first, e); place = rw (h.first, e) h.place }

  -- No item.
  pub broken_in : (e : Broken) → read f.letter f.content.now ≡ Some (Err e) → (items read (raws (drop at s)) ≡ not_one ∷ []) × (first_size read (raws (drop at s)) ≡ 0)
  unfolding items first_size
  broken_in e k = (rw (h.first, k), rw (h.first, k))

  -- The items are over.
  pub none_in : read f.letter f.content.now ≡ None → (items read (raws (drop at s)) ≡ []) × (first_size read (raws (drop at s)) ≡ 0)
  unfolding items first_size
  none_in k = (rw (h.first, k), rw (h.first, k))

module _ {A : Type 0} (read : Reading A) (s : List ℕ) (at : ℕ) where
  -- A rest that is no field.
  pub rest_broken : raws (drop at s) ≡ broken ∷ [] → (items read (raws (drop at s)) ≡ not_one ∷ []) × (first_size read (raws (drop at s)) ≡ 0)
  unfolding items first_size
  rest_broken e = (rw e, rw e)

  -- The end.
  pub end_over : raws (drop at s) ≡ [] → (items read (raws (drop at s)) ≡ []) × (first_size read (raws (drop at s)) ≡ 0)
  unfolding items first_size
  end_over e = (rw e, rw e)

-- ---- the line of a hanging cell

no_line : {A : Type 0} {a : A} → ◌≡◌ {A = Option A} None (Some a) → ⊥
no_line e = let z : ◌≡◌ {A = ℕ} 0 1 = cc in omega arith

-- A line stands in a hanging cell as in a sheet.
pub cell_line : (l : ℕ) (c : List ℕ) (r : Result SeenLine Broken) → read_line l c ≡ Some r → read_cell_line l c ≡ Some r
cell_line l c r e = go (eqb l 0x56) refl
  where
    go : (x : Bool) → eqb l 0x56 ≡ x → (if x then None else Some (in_cell (read_line l c))) ≡ Some r
    go true h = absurd (no_line (rw (eqb-true l 0x56 h) at e))
    go false h = ap (λ (z : Option (Result SeenLine Broken)). Some (in_cell z)) e

-- Bytes have a first field, or are none.
some_first : (bs : List ℕ) → 0 < length bs → raws bs ≡ [] → ⊥
unfolding raws raws_f
some_first [] h e = omega arith
some_first (x ∷ []) h e = let z : ◌≡◌ {A = ℕ} 0 1 = cc in omega arith
some_first (x ∷ y ∷ []) h e = let z : ◌≡◌ {A = ℕ} 0 1 = cc in omega arith
some_first (x ∷ y ∷ o ∷ bs) h e = go (leb (y * 256 + o) (length bs)) e
  where
    go : (t : Bool) → (if t then whole x (take (y * 256 + o) bs) ∷ raws_f (suc (suc (length bs))) (drop (y * 256 + o) bs) else broken ∷ []) ≡ [] → ⊥
    go true k = let z : ◌≡◌ {A = ℕ} 0 1 = cc in omega arith
    go false k = let z : ◌≡◌ {A = ℕ} 0 1 = cc in omega arith

some_item : {A : Type 0} {r : Result A Broken} {more : List (Result A Broken)} → r ∷ more ≡ [] → ⊥
some_item e = let z : ◌≡◌ {A = ℕ} 0 1 = cc in omega arith

-- Where the lines of a hanging cell are over and bytes are left, a cell hangs from it.
pub cell_over : (bs : List ℕ) → 0 < length bs → items read_cell_line (raws bs) ≡ [] → (c : List ℕ) × (rs : List Raw) × (raws bs ≡ whole 0x56 c ∷ rs)
unfolding items
cell_over bs h e = go (raws bs) refl e
  where
    there : (r : Result SeenLine Broken) (more : List (Result SeenLine Broken)) → item_then (Some r) more ≡ [] → ⊥
    there (Err x) more k = some_item k
    there (Ok a) more k = some_item k

    go : (rs : List Raw) → raws bs ≡ rs → items read_cell_line rs ≡ [] → (c : List ℕ) × (rs : List Raw) × (raws bs ≡ whole 0x56 c ∷ rs)
    go [] z k = absurd (some_first bs h z)
    go (broken ∷ rs) z k = absurd (some_item k)
    go (whole l c ∷ rs) z k = by_letter (eqb l 0x56) refl k
      where
        by_letter : (x : Bool) → eqb l 0x56 ≡ x → item_then (if x then None else Some (in_cell (read_line l c))) (items read_cell_line rs) ≡ []
            → (c : List ℕ) × (rs : List Raw) × (raws bs ≡ whole 0x56 c ∷ rs)
        by_letter true v k = (c, rs, rw (eqb-true l 0x56 v) at z)
        by_letter false v k = absurd (there (in_cell (read_line l c)) (items read_cell_line rs) k)

-- ---- the bytes of items

-- Where there is no first item there are no bytes of items.
pub no_size : {A : Type 0} (read : Reading A) (rs : List Raw) → first_size read rs ≡ 0 → items_size read rs ≡ 0
unfolding items_size first_size
no_size read [] h = refl
no_size read (broken ∷ rs) h = refl
no_size {A} read (whole l c ∷ rs) h = go (read l c) h
  where
    go : (r : Option (Result A Broken)) → size_then r (field_size l c) ≡ 0 → size_then r (field_size l c + items_size read rs) ≡ 0
    go None h = refl
    go (Some (Err e)) h = refl
    go (Some (Ok a)) h = absurd (omega arith)

module _ {A : Type 0} (read : Reading A) (s : List ℕ) where
  -- The bytes of the first item, and those of the items behind it.
  pub size_on : (at next : ℕ) → next ≡ at + first_size read (raws (drop at s))
      → next + items_size read (raws (drop next s)) ≡ at + items_size read (raws (drop at s))
  unfolding items_size first_size
  size_on at next e = go (raws (drop at s)) refl
    where
      stays : first_size read (raws (drop at s)) ≡ 0 → next + items_size read (raws (drop next s)) ≡ at + items_size read (raws (drop at s))
      stays h = let k : next ≡ at = omega arith in rw k

      go : (rs : List Raw) → raws (drop at s) ≡ rs → next + items_size read (raws (drop next s)) ≡ at + items_size read (raws (drop at s))
      go [] k = stays (rw k)
      go (broken ∷ rs) k = stays (rw k)
      go (whole l c ∷ rs) k = there (read l c) refl
        where
          there : (r : Option (Result A Broken)) → read l c ≡ r → next + items_size read (raws (drop next s)) ≡ at + items_size read (raws (drop at s))
          there None z = stays (rw (k, z))
          there (Some (Err x)) z = stays (rw (k, z))
          there (Some (Ok a)) z =
              let n : next ≡ at + (3 + length c) = rw (k, z) at e in
              let behind = (first_field (drop at s) l c rs k).behind in
              let others : raws (drop next s) ≡ rs = rw (n, ← drop-drop (3 + length c) at s) behind in
              rw (k, z, others) (omega arith)

no_item : {A : Type 0} {a : A} {more : List (Result A Broken)} → [] ≡ Ok a ∷ more → ⊥
no_item e = let z : ◌≡◌ {A = ℕ} 0 1 = cc in omega arith

other_item : {A : Type 0} {a : A} {x : Broken} {those more : List (Result A Broken)} → Err x ∷ those ≡ Ok a ∷ more → ⊥
other_item e = let z : ◌≡◌ {A = ℕ} 0 1 = cc in omega arith

module _ {A : Type 0} (read : Reading A) where
  -- The bytes of the first item are there.
  pub first_inside : (bs : List ℕ) → first_size read (raws bs) ≤ length bs
  unfolding first_size
  first_inside bs = go (raws bs) refl
    where
      go : (rs : List Raw) → raws bs ≡ rs → first_size read rs ≤ length bs
      go [] e = omega arith
      go (broken ∷ rs) e = omega arith
      go (whole l c ∷ rs) e = there (read l c)
        where
          there : (r : Option (Result A Broken)) → size_then r (field_size l c) ≤ length bs
          there None = omega arith
          there (Some (Err x)) = omega arith
          there (Some (Ok a)) = (first_field bs l c rs e).size

  -- An item has bytes.
  pub item_size : (rs : List Raw) (a : A) (more : List (Result A Broken)) → items read rs ≡ Ok a ∷ more → 0 < first_size read rs
  unfolding items first_size
  item_size [] a more e = absurd (no_item e)
  item_size (broken ∷ rs) a more e = absurd (other_item e)
  item_size (whole l c ∷ rs) a more e = there (read l c) e
    where
      there : (r : Option (Result A Broken)) → item_then r (items read rs) ≡ Ok a ∷ more → 0 < size_then r (field_size l c)
      there None e = absurd (no_item e)
      there (Some (Err x)) e = absurd (other_item e)
      there (Some (Ok b)) e = omega arith

  -- All items take no more bytes than the fields.
  items_inside : (rs : List Raw) → items_size read rs ≤ raws_size rs
  unfolding items_size
  items_inside [] = omega arith
  items_inside (broken ∷ rs) = omega arith
  items_inside (whole l c ∷ rs) = there (read l c) (items_inside rs)
    where
      there : (r : Option (Result A Broken)) → items_size read rs ≤ raws_size rs → size_then r (field_size l c + items_size read rs) ≤ 3 + length c + raws_size rs
      there None h = omega arith
      there (Some (Err x)) h = omega arith
      there (Some (Ok a)) h = omega arith

-- A walk does not go back.
pub place_on : {T A : Type 0} (read : Reading A) (w : Walk T) → w.at ≤ next_place read w
place_on read w = go w.is_over
  where
    go : (x : Bool) → w.at ≤ (if x then w.at else w.at + first_size read (ahead w))
    go true = omega arith
    go false = omega arith

module _ {T A : Type 0} (read : Reading A) (w : Walk T) where
  -- A walk stays where it is, or goes on and stays in its bytes.
  pub place_goes : (next_place read w ≡ w.at) ⊎ ((w.at < next_place read w) × (next_place read w ≤ length w.bytes.now))
  place_goes = go w.is_over
    where
      go : (x : Bool) → ((if x then w.at else w.at + first_size read (ahead w)) ≡ w.at)
          ⊎ ((w.at < (if x then w.at else w.at + first_size read (ahead w))) × ((if x then w.at else w.at + first_size read (ahead w)) ≤ length w.bytes.now))
      go true = inl refl
      go false =
          ⊎_elim (λ h. inr (omega arith, omega (arith, first_inside read (drop w.at w.bytes.now), length-drop w.at w.bytes.now))) (λ h. inl (omega arith))
          (lt_or_le 0 (first_size read (ahead w)))

  -- From a place in its bytes a walk goes to a place in them.
  pub place_inside : w.at ≤ length w.bytes.now → next_place read w ≤ length w.bytes.now
  place_inside h = ⊎_elim (λ k. rw k h) (λ k. k.1) place_goes

  -- Behind a place that is another one less is left of the bytes.
  pub place_falls : (next_place read w ≡ w.at → ⊥) → length w.bytes.now - next_place read w < length w.bytes.now - w.at
  place_falls n = ⊎_elim (λ k. absurd (n k)) (λ k. omega arith) place_goes

  -- Behind an item a walk stands further on, in its bytes.
  pub place_past : (a : A) (more : List (Result A Broken)) → left read w ≡ Ok a ∷ more → (w.at < next_place read w) × (next_place read w ≤ length w.bytes.now)
  place_past a more e = go w.is_over e
    where
      go : (x : Bool) → (if x then [] else items read (ahead w)) ≡ Ok a ∷ more
          → (w.at < (if x then w.at else w.at + first_size read (ahead w))) × ((if x then w.at else w.at + first_size read (ahead w)) ≤ length w.bytes.now)
      go true e = absurd (no_item e)
      go false e =
          let some = item_size read (ahead w) a more e in
          (omega arith, omega (arith, first_inside read (drop w.at w.bytes.now), length-drop w.at w.bytes.now))

  -- From a place in the bytes all items end in them.
  pub end_inside : w.at ≤ length w.bytes.now → end_place read w ≤ length w.bytes.now
  end_inside h = go w.is_over
    where
      go : (x : Bool) → (if x then w.at else w.at + items_size read (ahead w)) ≤ length w.bytes.now
      go true = h
      go false = omega (arith, items_inside read (ahead w), raws_bytes (drop w.at w.bytes.now), length-drop w.at w.bytes.now)

-- ---- the hole at a place

-- One byte is no hole.
one_torn : (bs : List ℕ) → 0 < length bs → length bs < 2 → raw_holes bs ≡ torn ∷ []
unfolding raw_holes raw_holes_f
one_torn [] h k = absurd (omega arith)
one_torn (p ∷ []) h k = refl
one_torn (p ∷ q ∷ bs) h k = absurd (omega arith)

no_whole : {l : ℕ} {c : List ℕ} {rs : List Raw} → broken ∷ [] ≡ whole l c ∷ rs → ⊥
no_whole e = let z : ◌≡◌ {A = ℕ} 0 1 = cc in omega arith

no_field : {l : ℕ} {c : List ℕ} {rs : List Raw} → [] ≡ whole l c ∷ rs → ⊥
no_field e = let z : ◌≡◌ {A = ℕ} 0 1 = cc in omega arith

-- the column in two bytes at a place
abbrev pub column_at : ℕ → List ℕ → ℕ
column_at at s = get_or s at 0 * 256 + get_or s (at + 1) 0

-- What is broken has no bytes of a hole.
pub no_hole : (rs : List RawHole) → holes rs ≡ not_one ∷ [] → first_hole_size rs ≡ 0
unfolding holes first_hole_size
no_hole [] e = refl
no_hole (torn ∷ rs) e = refl
no_hole (punched column broken ∷ rs) e = refl
no_hole (punched column (whole l c) ∷ rs) e = there (hole_of column (whole l c)) e
  where
    there : (r : Result spans.Hole Broken) → item_then (Some r) (holes rs) ≡ not_one ∷ [] → size_then (Some r) (2 + field_size l c) ≡ 0
    there (Err x) e = refl
    there (Ok h) e = absurd (other_item (sym e))

module _ (s : List ℕ) (at : ℕ) where
  -- Behind the list.
  pub holes_over : length s ≤ at → holes (raw_holes (drop at s)) ≡ []
  unfolding holes raw_holes raw_holes_f
  holes_over h = rw (drop_of_length-le s h)

  -- There no bytes are a hole's.
  pub no_hole_over : length s ≤ at → first_hole_size (raw_holes (drop at s)) ≡ 0
  unfolding first_hole_size raw_holes raw_holes_f
  no_hole_over h = rw (drop_of_length-le s h)

  -- No column.
  pub hole_short : at < length s → length s - at < 2 → holes (raw_holes (drop at s)) ≡ not_one ∷ []
  unfolding holes
  hole_short h k = rw (one_torn (drop at s) (omega (arith, length-drop at s)) (omega (arith, length-drop at s)))

  -- The bytes from a place on, two bytes and those behind them.
  two_left : 2 ≤ length s - at → drop at s ≡ get_or s at 0 ∷ get_or s (at + 1) 0 ∷ drop (at + 2) s
  two_left h =
      let one : at + 1 ≡ suc at = omega arith in
      let two : at + 2 ≡ suc (suc at) = omega arith in
      rw (one, two, drop-cons s at 0 (omega arith), drop-cons s (suc at) 0 (omega arith))

  -- A rest that is no field behind the column.
  pub hole_broken : 2 ≤ length s - at → raws (drop (at + 2) s) ≡ broken ∷ [] → holes (raw_holes (drop at s)) ≡ not_one ∷ []
  unfolding holes
  hole_broken h e = rw (two_left h, hole_torn _ _ (drop (at + 2) s) (λ l c rs k. no_whole (sym e ∙ k)))

  -- Nothing behind the column.
  pub hole_bare : 2 ≤ length s - at → raws (drop (at + 2) s) ≡ [] → holes (raw_holes (drop at s)) ≡ not_one ∷ []
  unfolding holes
  hole_bare h e = rw (two_left h, hole_torn _ _ (drop (at + 2) s) (λ l c rs k. no_field (sym e ∙ k)))

  module _ (f : Found) (h : 2 ≤ length s - at) (k : FieldIn s (at + 2) f) where
    -- A field behind the column.
    raw_there : raw_holes (drop at s) ≡ punched (column_at at s) (whole f.letter f.content.now) ∷ raw_holes (drop f.next s)
    raw_there =
        let next : f.next ≡ at + 2 + (3 + length f.content.now) = k.place in
        ap raw_holes (two_left h)
        ∙ hole_whole _ _ (drop (at + 2) s) f.letter f.content.now (raws (drop f.next s)) k.first
        ∙ rw (next, drop-drop (3 + length f.content.now) (at + 2) s)

    -- A piece behind the column.
    pub hole_in : (p : sheet.Piece) → piece_of f.letter f.content.now ≡ Ok p
        → holes (raw_holes (drop at s)) ≡ Ok (spans.hole (column_at at s) p) ∷ holes (raw_holes (drop f.next s))
    unfolding holes
    hole_in p e = rw (raw_there, e)

    -- The next hole stands behind the column and the piece.
    pub hole_next : (p : sheet.Piece) → piece_of f.letter f.content.now ≡ Ok p → f.next ≡ at + first_hole_size (raw_holes (drop at s))
    unfolding first_hole_size
    hole_next p e = rw (raw_there, e) (omega (arith, k.place))

    -- A field that is no piece behind the column.
    pub hole_no_piece : (e : Broken) → piece_of f.letter f.content.now ≡ Err e → holes (raw_holes (drop at s)) ≡ not_one ∷ []
    unfolding holes
    hole_no_piece e z = rw (raw_there, z)

-- ---- where a walk over holes stands

-- The bytes of the first hole are there.
pub first_hole_inside : (bs : List ℕ) → first_hole_size (raw_holes bs) ≤ length bs
unfolding raw_holes raw_holes_f first_hole_size
first_hole_inside [] = omega arith
first_hole_inside (p ∷ []) = omega arith
first_hole_inside (p ∷ q ∷ []) = omega arith
first_hole_inside (p ∷ q ∷ l ∷ []) = omega arith
first_hole_inside (p ∷ q ∷ l ∷ h ∷ []) = omega arith
first_hole_inside (p ∷ q ∷ l ∷ h ∷ o ∷ rest) = go (leb (h * 256 + o) (length rest)) refl
  where
    there : (c : List ℕ) → length c ≤ length rest → (r : Result sheet.Piece Broken)
        → size_then (Some (seen (spans.hole (p * 256 + q)) r)) (2 + field_size l c) ≤ length (p ∷ q ∷ l ∷ h ∷ o ∷ rest)
    there c k (Ok t) = omega arith
    there c k (Err x) = omega arith

    go : (t : Bool) → leb (h * 256 + o) (length rest) ≡ t
        → first_hole_size
        (if t then punched (p * 256 + q) (whole l (take (h * 256 + o) rest)) ∷ raw_holes_f (suc (suc (suc (suc (length rest))))) (drop (h * 256 + o) rest)
        else torn ∷ []) ≤ length (p ∷ q ∷ l ∷ h ∷ o ∷ rest)
    go true e =
        let fits = leb-true (h * 256 + o) (length rest) e in
        there (take (h * 256 + o) rest) (omega (arith, length-take-le (h * 256 + o) rest fits, fits)) (piece_of l (take (h * 256 + o) rest))
    go false e = omega arith

-- A hole has bytes.
pub hole_size : (rs : List RawHole) (h : spans.Hole) (more : List (Result spans.Hole Broken)) → holes rs ≡ Ok h ∷ more → 0 < first_hole_size rs
unfolding holes first_hole_size
hole_size [] h more e = absurd (no_item e)
hole_size (torn ∷ rs) h more e = absurd (other_item e)
hole_size (punched p broken ∷ rs) h more e = absurd (other_item e)
hole_size (punched p (whole l c) ∷ rs) h more e = there (piece_of l c) e
  where
    there : (r : Result sheet.Piece Broken) → item_then (Some (seen (spans.hole p) r)) (holes rs) ≡ Ok h ∷ more
        → 0 < size_then (Some (seen (spans.hole p) r)) (2 + field_size l c)
    there (Ok t) e = omega arith
    there (Err x) e = absurd (other_item e)

-- A walk over holes does not go back.
pub hole_place_on : (w : Holes) → w.at ≤ next_hole_place w
hole_place_on w = go w.is_over
  where
    go : (x : Bool) → w.at ≤ (if x then w.at else w.at + first_hole_size (holes_ahead w))
    go true = omega arith
    go false = omega arith

module _ (w : Holes) where
  -- It stays where it is, or goes on and stays in its bytes.
  pub hole_place_goes : (next_hole_place w ≡ w.at) ⊎ ((w.at < next_hole_place w) × (next_hole_place w ≤ length w.bytes.now))
  hole_place_goes = go w.is_over
    where
      go : (x : Bool) → ((if x then w.at else w.at + first_hole_size (holes_ahead w)) ≡ w.at)
          ⊎ ((w.at < (if x then w.at else w.at + first_hole_size (holes_ahead w))) × ((if x then w.at else w.at + first_hole_size (holes_ahead w)) ≤ length w.bytes.now))
      go true = inl refl
      go false =
          ⊎_elim (λ h. inr (omega arith, omega (arith, first_hole_inside (drop w.at w.bytes.now), length-drop w.at w.bytes.now))) (λ h. inl (omega arith))
          (lt_or_le 0 (first_hole_size (holes_ahead w)))

  -- From a place in its bytes it goes to a place in them.
  pub hole_place_inside : w.at ≤ length w.bytes.now → next_hole_place w ≤ length w.bytes.now
  hole_place_inside h = ⊎_elim (λ k. rw k h) (λ k. k.1) hole_place_goes

  -- Behind a place that is another one less is left of the bytes.
  pub hole_place_falls : (next_hole_place w ≡ w.at → ⊥) → length w.bytes.now - next_hole_place w < length w.bytes.now - w.at
  hole_place_falls n = ⊎_elim (λ k. absurd (n k)) (λ k. omega arith) hole_place_goes

  -- Behind a hole it stands further on, in its bytes.
  pub hole_place_past : (h : spans.Hole) (more : List (Result spans.Hole Broken)) → holes_left w ≡ Ok h ∷ more
      → (w.at < next_hole_place w) × (next_hole_place w ≤ length w.bytes.now)
  hole_place_past h more e = go w.is_over e
    where
      go : (x : Bool) → (if x then [] else holes (holes_ahead w)) ≡ Ok h ∷ more
          → (w.at < (if x then w.at else w.at + first_hole_size (holes_ahead w))) × ((if x then w.at else w.at + first_hole_size (holes_ahead w)) ≤ length w.bytes.now)
      go true e = absurd (no_item e)
      go false e =
          let some = hole_size (holes_ahead w) h more e in
          (omega arith, omega (arith, first_hole_inside (drop w.at w.bytes.now), length-drop w.at w.bytes.now))
