-- What is read from bytes and written again has these bytes: lines with holes, hanging cells, whole sheets. So a line may be copied as it
-- stands, and the V fields handed on as they stand.
-- Assumes nothing.
use Rattle.std.proofs.Common.{◌≡◌, ℕ, zero, suc, ◌+◌, ◌*◌, ◌<◌, ◌≤◌, Bool, true, false, ◌&&◌, eqb, leb, List, [], ◌∷◌, ◌++◌, length, take, drop, sym, refl, ap, ◌∙◌, subst, ap₂, append_assoc, arith, length-drop, take-append-drop, length-take-le, eqb-true, leb-true}
use mathlib.Core.Option.{Option, none, some, map}
use Rattle.std.specs.Prelude.{if◌then◌else◌}
use Rattle.characters.proofs.Tests.{by_if}
use Rattle.fields.specs.Field.{two, field, Raw, whole, broken, raws, both, read_all, all}
use Rattle.fields.specs.Sheet.{Piece, read_piece, is_segment, piece_bytes, pieces_bytes}
use Rattle.fields.proofs.Back.{Every}
use Rattle.rows.proofs.Reading.{OnSome, some_of, Bytes, bytes_take, bytes_drop, raw_bytes, raws_bytes, IsWhole, OfBytes, two_back, field_back, splits, Same, each, SameAll, same_all, from_same, same_piece, pieces_same, on_map}
use Rattle.fields.specs.Spans.{Hole, hole, RenderLine, text, Hanging, hanging, Sheet, RawHole, raw_holes_f, raw_holes, read_hole, read_holes, ends_within, holed, read_holed, read_border, read_line, is_span, read_hanging_content, read_hanging, is_hanging, before_hanging, from_hanging, read_name, is_name, before_names, from_names, parts, counted, read_headed, read_sheet, holes_bytes, content, letter, lines_bytes, hanging_content, overhang_bytes, names_bytes, body_bytes, sheet_bytes}
use Rattle.fields.proofs.SpansBack.{past_head}

-- ---- holes

-- two bytes written again
pub two_same : (h o n : ℕ) → o < 256 → h * 256 + o ≡ n → two n ≡ h ∷ o ∷ []
two_same h o n k e = let (x, y) = two_back h o n k e in rw (x, y)

same_hole : (p q l : ℕ) (t after : List ℕ) (h : Option Piece) (r : Option (List Hole)) → q < 256 → OnSome (Same piece_bytes (whole l t)) h
    → OnSome (λ (hs : List Hole). holes_bytes hs ≡ after) r
    → OnSome (λ (hs : List Hole). holes_bytes hs ≡ p ∷ q ∷ field l t ++ after) (both (map (hole (p * 256 + q)) h) r)
unfolding holes_bytes
same_hole p q l t after none r k g e = tt
same_hole p q l t after (some a) none k g e = tt
same_hole p q l t after (some a) (some hs) k g e =
    ap₂ (λ (x y : List ℕ). x ++ y) (two_same p q (p * 256 + q) k refl) (ap₂ (λ (x y : List ℕ). x ++ y) g.1 e)

same_fuel : (f : ℕ) (bs : List ℕ) → length bs ≤ f → Bytes bs → OnSome (λ (hs : List Hole). holes_bytes hs ≡ bs) (read_holes (raw_holes_f f bs))
unfolding raw_holes_f read_holes read_hole holes_bytes
same_fuel zero [] h k = refl
same_fuel zero (b ∷ bs) h k = absurd (omega arith)
same_fuel (suc f) [] h k = refl
same_fuel (suc f) (p ∷ []) h k = tt
same_fuel (suc f) (p ∷ q ∷ []) h k = tt
same_fuel (suc f) (p ∷ q ∷ l ∷ []) h k = tt
same_fuel (suc f) (p ∷ q ∷ l ∷ x ∷ []) h k = tt
same_fuel (suc f) (p ∷ q ∷ l ∷ x ∷ o ∷ rest) h k =
    let n = x * 256 + o in
    let bytes = k.1.1.1.1.1 in
    let ih = same_fuel f (drop n rest) (omega (arith, length-drop n rest)) (bytes_drop n rest bytes) in
    by_if (λ (rs : List RawHole). OnSome (λ (hs : List Hole). holes_bytes hs ≡ p ∷ q ∷ l ∷ x ∷ o ∷ rest) (read_holes rs)) (leb n (length rest))
    (λ e. rw (← whole_again l x o rest k.1.1.1.1.0 (leb-true n (length rest) e))
    (same_hole p q l (take n rest) (drop n rest) (read_piece (whole l (take n rest))) (read_holes (raw_holes_f f (drop n rest))) k.1.0
    (same_piece (whole l (take n rest)) (bytes_take n rest bytes)) ih))
    (λ _. tt)
  where
    whole_again : (l x o : ℕ) (rest : List ℕ) → o < 256 → x * 256 + o ≤ length rest
        → field l (take (x * 256 + o) rest) ++ drop (x * 256 + o) rest ≡ l ∷ x ∷ o ∷ rest
    whole_again l x o rest k e =
        ap (λ (b : List ℕ). b ++ drop (x * 256 + o) rest) (field_back l x o (x * 256 + o) rest k refl e)
        ∙ ap (λ (b : List ℕ). l ∷ x ∷ o ∷ b) (take-append-drop (x * 256 + o) rest)

-- Holes that are read from bytes have these bytes.
pub holes_same : (bs : List ℕ) → Bytes bs → OnSome (λ (hs : List Hole). holes_bytes hs ≡ bs) (read_holes (raw_holes bs))
unfolding raw_holes
holes_same bs h = same_fuel (length bs) bs (omega arith) h

-- ---- lines

-- a line's field
abbrev pub line_bytes : RenderLine → List ℕ
line_bytes l = field (letter l) (content l)

same_held : (l a x o : ℕ) (segs after : List ℕ) (q : Option (List Hole)) → l ≡ 0x47 → o < 256 → x * 256 + o ≡ length segs
    → OnSome (λ (hs : List Hole). holes_bytes hs ≡ after) q
    → OnSome (Same line_bytes (whole l (a ∷ x ∷ o ∷ segs ++ after))) (holed a segs q)
same_held l a x o segs after none e k n g = tt
same_held l a x o segs after (some []) e k n g = tt
same_held l a x o segs after (some (h ∷ hs)) e k n g =
    by_if (OnSome (Same line_bytes (whole l (a ∷ x ∷ o ∷ segs ++ after)))) (all is_segment segs && all (ends_within (length segs)) (h ∷ hs))
    (λ _. (
      tt,
      ap₂ (λ (c : ℕ) (t : List ℕ). field c (a ∷ t)) (sym e)
          (ap₂ (λ (u v : List ℕ). u ++ (segs ++ v)) (two_same x o (length segs) k n) g),
    ))
    (λ _. tt)

same_holed : (l : ℕ) (t : List ℕ) → l ≡ 0x47 → Bytes t → OnSome (Same line_bytes (whole l t)) (read_holed t)
unfolding read_holed
same_holed l [] e h = tt
same_holed l (a ∷ []) e h = tt
same_holed l (a ∷ x ∷ []) e h = tt
same_holed l (a ∷ x ∷ o ∷ rest) e h =
    let n = x * 256 + o in
    by_if (OnSome (Same line_bytes (whole l (a ∷ x ∷ o ∷ rest)))) (leb n (length rest))
    (λ k. rest_again n rest (holed a (take n rest) (read_holes (raw_holes (drop n rest)))) (same_held l a x o (take n rest) (drop n rest) (read_holes (raw_holes (drop n rest))) e h.1.1.0
    (sym (length-take-le n rest (leb-true n (length rest) k))) (holes_same (drop n rest) (bytes_drop n rest h.1.1.1))))
    (λ _. tt)
  where
    rest_again : (n : ℕ) (rest : List ℕ) (r : Option RenderLine) → OnSome (Same line_bytes (whole l (a ∷ x ∷ o ∷ take n rest ++ drop n rest))) r
        → OnSome (Same line_bytes (whole l (a ∷ x ∷ o ∷ rest))) r
    rest_again n rest r g = subst (λ (b : List ℕ). OnSome (Same line_bytes (whole l (a ∷ x ∷ o ∷ b))) r) (take-append-drop n rest) g

same_border : (l : ℕ) (t : List ℕ) → l ≡ 0x42 → OnSome (Same line_bytes (whole l t)) (read_border t)
same_border l [] e = tt
same_border l (a ∷ segs) e =
    by_if (OnSome (Same line_bytes (whole l (a ∷ segs)))) (all is_segment segs) (λ _. (tt, ap (λ (x : ℕ). field x (a ∷ segs)) (sym e))) (λ _. tt)

same_line : (r : Raw) → OfBytes r → OnSome (Same line_bytes r) (read_line r)
unfolding read_line
same_line broken h = tt
same_line (whole l t) h =
    let P = OnSome (Same line_bytes (whole l t)) in
    by_if P (eqb l 0x4C)
    (λ e. on_map (λ ps. pieces_bytes ps ≡ t) (Same line_bytes (whole l t)) text (read_all read_piece (raws t)) (pieces_same t h)
    (λ ps k. (tt, ap₂ field (sym (eqb-true l 0x4C e)) k)))
    (λ _. by_if P (eqb l 0x42) (λ e. same_border l t (eqb-true l 0x42 e))
    (λ _. by_if P (eqb l 0x47) (λ e. same_holed l t (eqb-true l 0x47 e) h) (λ _. tt)))

-- A line that is read from a field of bytes has that field's bytes.
pub line_same : (l : ℕ) (t : List ℕ) → Bytes t → OnSome (λ r. field (letter r) (content r) ≡ field l t) (read_line (whole l t))
line_same l t h = go (read_line (whole l t)) (same_line (whole l t) h)
  where
    go : (o : Option RenderLine) → OnSome (Same line_bytes (whole l t)) o → OnSome (λ r. line_bytes r ≡ field l t) o
    go none k = tt
    go (some r) k = k.1

lines_each : (ls : List RenderLine) → lines_bytes ls ≡ each line_bytes ls
unfolding lines_bytes
lines_each [] = refl
lines_each (l ∷ ls) = ap (λ (x : List ℕ). line_bytes l ++ x) (lines_each ls)

-- Lines that are read from bytes have these bytes, as those of a cell.
pub lines_same : (bs : List ℕ) → Bytes bs → OnSome (λ ls. lines_bytes ls ≡ bs) (read_all read_line (raws bs))
lines_same bs h = go (read_all read_line (raws bs)) (same_all line_bytes read_line same_line (raws bs) (splits bs h).0)
  where
    go : (o : Option (List RenderLine)) → OnSome (SameAll line_bytes (raws bs)) o → OnSome (λ ls. lines_bytes ls ≡ bs) o
    go none k = tt
    go (some ls) k = lines_each ls ∙ from_same line_bytes bs (raws bs) (splits bs h) ls k

-- ---- cells that hang

-- a V field
abbrev pub hanging_bytes : Hanging → List ℕ
hanging_bytes v = field 0x56 (hanging_content v)

same_content : (l : ℕ) (t : List ℕ) → l ≡ 0x56 → Bytes t → OnSome (Same hanging_bytes (whole l t)) (read_hanging_content t)
same_content l [] e h = tt
same_content l (p ∷ []) e h = tt
same_content l (p ∷ q ∷ []) e h = tt
same_content l (p ∷ q ∷ w ∷ []) e h = tt
same_content l (p ∷ q ∷ w ∷ r ∷ ls) e h =
    by_if (OnSome (Same hanging_bytes (whole l (p ∷ q ∷ w ∷ r ∷ ls)))) (is_span r)
    (λ _. on_map (λ (m : List RenderLine). lines_bytes m ≡ ls) (Same hanging_bytes (whole l (p ∷ q ∷ w ∷ r ∷ ls))) (hanging (p * 256 + q) w r)
    (read_all read_line (raws ls)) (lines_same ls h.1.1.1.1)
    (λ m k. (tt, ap₂ field (sym e) (ap₂ (λ (x y : List ℕ). x ++ (w ∷ r ∷ y)) (two_same p q (p * 256 + q) h.1.0 refl) k))))
    (λ _. tt)

-- a V field that is read is written again as it stood
pub same_hanging : (r : Raw) → OfBytes r → OnSome (Same hanging_bytes r) (read_hanging r)
unfolding read_hanging
same_hanging broken h = tt
same_hanging (whole l t) h = by_if (OnSome (Same hanging_bytes (whole l t))) (eqb l 0x56) (λ e. same_content l t (eqb-true l 0x56 e) h) (λ _. tt)

-- the bytes of all V fields, one after the other
pub overhang_each : (vs : List Hanging) → overhang_bytes vs ≡ each hanging_bytes vs
unfolding overhang_bytes
overhang_each [] = refl
overhang_each (v ∷ vs) = ap (λ (x : List ℕ). hanging_bytes v ++ x) (overhang_each vs)

-- ---- the names that wait

-- an F field
abbrev pub name_bytes : List ℕ → List ℕ
name_bytes n = field 0x46 n

same_name : (r : Raw) → OfBytes r → OnSome (Same name_bytes r) (read_name r)
unfolding read_name
same_name broken h = tt
same_name (whole l t) h =
    by_if (OnSome (Same name_bytes (whole l t))) (eqb l 0x46) (λ e. (tt, ap (λ (x : ℕ). field x t) (sym (eqb-true l 0x46 e)))) (λ _. tt)

names_each : (ns : List (List ℕ)) → names_bytes ns ≡ each name_bytes ns
unfolding names_bytes
names_each [] = refl
names_each (n ∷ ns) = ap (λ (x : List ℕ). name_bytes n ++ x) (names_each ns)

-- F fields that are read from bytes have these bytes.
pub names_same : (bs : List ℕ) → Bytes bs → OnSome (λ ns. names_bytes ns ≡ bs) (read_all read_name (raws bs))
names_same bs h = go (read_all read_name (raws bs)) (same_all name_bytes read_name same_name (raws bs) (splits bs h).0)
  where
    go : (o : Option (List (List ℕ))) → OnSome (SameAll name_bytes (raws bs)) o → OnSome (λ ns. names_bytes ns ≡ bs) o
    go none k = tt
    go (some ns) k = names_each ns ∙ from_same name_bytes bs (raws bs) (splits bs h) ns k

-- ---- the sheet

split_whole : (rs : List Raw) → before_hanging rs ++ from_hanging rs ≡ rs
unfolding before_hanging from_hanging
split_whole [] = refl
split_whole (r ∷ rs) = go (is_hanging r) (split_whole rs)
  where
    go : (b : Bool) → before_hanging rs ++ from_hanging rs ≡ rs → (if b then [] else r ∷ before_hanging rs) ++ (if b then r ∷ rs else from_hanging rs) ≡ r ∷ rs
    go true e = refl
    go false e = ap (λ (l : List Raw). r ∷ l) e

split_names : (rs : List Raw) → before_names rs ++ from_names rs ≡ rs
unfolding before_names from_names
split_names [] = refl
split_names (r ∷ rs) = go (is_name r) (split_names rs)
  where
    go : (b : Bool) → before_names rs ++ from_names rs ≡ rs → (if b then [] else r ∷ before_names rs) ++ (if b then r ∷ rs else from_names rs) ≡ r ∷ rs
    go true e = refl
    go false e = ap (λ (l : List Raw). r ∷ l) e

-- the three parts are all fields
split_three : (rs : List Raw) → before_names (before_hanging rs) ++ (from_names (before_hanging rs) ++ from_hanging rs) ≡ rs
split_three rs =
    sym (append_assoc (before_names (before_hanging rs)) (from_names (before_hanging rs)) (from_hanging rs))
    ∙ ap (λ (l : List Raw). l ++ from_hanging rs) (split_names (before_hanging rs)) ∙ split_whole rs

every_left : {A : Type 0} (P : A → Type 0) (l m : List A) → Every P (l ++ m) → Every P l
every_left P [] m h = tt
every_left P (a ∷ l) m h = (h.0, every_left P l m h.1)

every_right : {A : Type 0} (P : A → Type 0) (l m : List A) → Every P (l ++ m) → Every P m
every_right P [] m h = h
every_right P (a ∷ l) m h = every_right P l m h.1

-- what holds of each member of two lists holds of each member of both together
pub every_both : {A : Type 0} (P : A → Type 0) (l m : List A) → Every P l → Every P m → Every P (l ++ m)
every_both P [] m h k = k
every_both P (a ∷ l) m h k = (h.0, every_both P l m h.1 k)

raws_append : (l m : List Raw) → raws_bytes (l ++ m) ≡ raws_bytes l ++ raws_bytes m
raws_append [] m = refl
raws_append (r ∷ l) m = ap (λ (b : List ℕ). raw_bytes r ++ b) (raws_append l m) ∙ sym (append_assoc (raw_bytes r) (raws_bytes l) (raws_bytes m))

abbrev SameSheet : List Raw → Sheet → Type 0
SameSheet rs t = Every IsWhole rs × (sheet_bytes t ≡ raws_bytes rs)

same_counted : (l : ℕ) (t : List ℕ) (xs ys zs : List Raw) → l ≡ 0x48 → Bytes t
    → (o : Option (List RenderLine)) (p : Option (List (List ℕ))) (q : Option (List Hanging))
    → OnSome (SameAll line_bytes xs) o → OnSome (SameAll name_bytes ys) p → OnSome (SameAll hanging_bytes zs) q
    → OnSome (SameSheet (whole l t ∷ xs ++ (ys ++ zs))) (counted t (parts o p q))
unfolding sheet_bytes
same_counted l t xs ys zs e h none p q k j m = tt
same_counted l t xs ys zs e h (some ls) none q k j m = tt
same_counted l t xs ys zs e h (some ls) (some ns) none k j m = tt
same_counted l [] xs ys zs e h (some ls) (some ns) (some vs) k j m = tt
same_counted l (a ∷ []) xs ys zs e h (some ls) (some ns) (some vs) k j m = tt
same_counted l (a ∷ b ∷ []) xs ys zs e h (some ls) (some ns) (some vs) k j m =
    by_if (OnSome (SameSheet (whole l (a ∷ b ∷ []) ∷ xs ++ (ys ++ zs)))) (eqb (a * 256 + b) (length ls))
    (λ c. let n = two_back a b (length ls) h.1.0 (eqb-true (a * 256 + b) (length ls) c) in (
      (tt, every_both IsWhole xs (ys ++ zs) k.0 (every_both IsWhole ys zs j.0 m.0)),
      rw (n.0, n.1, e)
          (ap (λ (x : List ℕ). field 0x48 (a ∷ b ∷ []) ++ x)
          (ap₂ (λ (x y : List ℕ). x ++ y) (lines_each ls ∙ k.1)
          (ap₂ (λ (x y : List ℕ). x ++ y) (names_each ns ∙ j.1) (overhang_each vs ∙ m.1) ∙ sym (raws_append ys zs))
          ∙ sym (raws_append xs (ys ++ zs)))),
    ))
    (λ _. tt)
same_counted l (a ∷ b ∷ c ∷ t) xs ys zs e h (some ls) (some ns) (some vs) k j m = tt

same_headed : (rs : List Raw) → Every OfBytes rs → OnSome (SameSheet rs) (read_headed rs)
unfolding read_headed
same_headed [] h = tt
same_headed (broken ∷ rs) h = tt
same_headed (whole l t ∷ rs) h =
    let xs = before_names (before_hanging rs) in
    let ys = from_names (before_hanging rs) in
    let zs = from_hanging rs in
    let g : Every OfBytes (xs ++ (ys ++ zs)) = rw (split_three rs) h.1 in
    let gr = every_right OfBytes xs (ys ++ zs) g in
    by_if (OnSome (SameSheet (whole l t ∷ rs))) (eqb l 0x48)
    (λ e. subst (λ (q : List Raw). OnSome (SameSheet (whole l t ∷ q)) (counted t (parts (read_all read_line xs) (read_all read_name ys) (read_all read_hanging zs)))) (split_three rs)
    (same_counted l t xs ys zs (eqb-true l 0x48 e) h.0 (read_all read_line xs) (read_all read_name ys) (read_all read_hanging zs)
    (same_all line_bytes read_line same_line xs (every_left OfBytes xs (ys ++ zs) g)) (same_all name_bytes read_name same_name ys (every_left OfBytes ys zs gr))
    (same_all hanging_bytes read_hanging same_hanging zs (every_right OfBytes ys zs gr))))
    (λ _. tt)

-- A SHEET THAT IS READ FROM BYTES AND WRITTEN AGAIN HAS THESE BYTES.
pub sheet_same : (bs : List ℕ) → Bytes bs → OnSome (λ t. sheet_bytes t ≡ bs) (read_sheet bs)
unfolding read_sheet
sheet_same bs h = go (read_headed (raws bs)) (same_headed (raws bs) (splits bs h).0)
  where
    go : (o : Option Sheet) → OnSome (SameSheet (raws bs)) o → OnSome (λ t. sheet_bytes t ≡ bs) o
    go none k = tt
    go (some t) k = k.1 ∙ (splits bs h).1 k.0

-- Its lines, names and what hangs from it stand past its head.
pub parts_stood : (bs : List ℕ) (t : Sheet) → read_sheet bs ≡ some t → Bytes bs
    → body_bytes t.lines t.names t.overhang ≡ drop 5 bs
parts_stood bs t e h = sym (past_head t) ∙ ap (drop 5) (some_of (λ rs. sheet_bytes rs ≡ bs) (read_sheet bs) t e (sheet_same bs h))
