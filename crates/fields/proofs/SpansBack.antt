-- A sheet that was written is read back, with its holes, the names that wait and its hanging cells, and its head counts its lines alone.
-- Assumes nothing.
use mathlib.Core.Path.{◌≡◌, refl, ap, ap₂, ◌∙◌}
use mathlib.Core.Bool.{Bool, true, false, ◌&&◌}
use mathlib.Core.Option.{some}
use mathlib.Core.List.{List, [], ◌∷◌, ◌++◌, map, append_assoc}
use Prim.Native.Nat.{ℕ, zero, suc, ◌+◌, ◌*◌, ◌/◌, ◌%◌, ◌≤◌, ◌<◌}
use native.Mathlib.Omega.{arith}
use native.Mathlib.Nat.{div-add-mod', not-suc-le-zero}
use lib.Dec.{leb}
use lib.ListN.{length, take, drop, get_or, length-append, length-drop, length-map}
use lib.Seq.{take-append_seam, drop-append_seam, length-take-le}
use borrow.Author.Tests.{le-leb, leb-true, eq-eqb}
use Rattle.std.specs.Prelude.{if◌then◌else◌}
use Rattle.characters.proofs.Tests.{if_cong}
use Rattle.fields.specs.Field.{two, field, Raw, whole, broken, raws_f, raws, read_all, all}
use Rattle.fields.specs.Sheet.{Piece, str, fragment, read_piece, piece_bytes}
use Rattle.fields.proofs.Fields.{raws_nil, raws_field}
use Rattle.fields.proofs.Back.{Every, GoodPiece, pieces_back, segments_back}
use Rattle.fields.specs.Spans.{Hole, hole, RenderLine, text, border, Hanging, Sheet, RawHole, punched, torn, raw_holes_f, raw_holes, read_hole, read_holes, ends_within, read_holed, read_line, is_span, read_hanging, is_hanging, before_hanging, from_hanging, read_name, is_name, before_names, from_names, read_headed, read_sheet, holes_bytes, content, letter, lines_bytes, hanging_content, overhang_bytes, names_bytes, body_bytes, sheet_bytes, HeadCounts}

-- ---- holes

-- any fuel that is large enough gives the same
holes_fuel : (f g : ℕ) (bs : List ℕ) → length bs ≤ f → length bs ≤ g → raw_holes_f f bs ≡ raw_holes_f g bs
unfolding raw_holes_f
holes_fuel zero zero bs hf hg = refl
holes_fuel zero (suc g) [] hf hg = refl
holes_fuel zero (suc g) (b ∷ bs) hf hg = absurd (not-suc-le-zero hf)
holes_fuel (suc f) zero [] hf hg = refl
holes_fuel (suc f) zero (b ∷ bs) hf hg = absurd (not-suc-le-zero hg)
holes_fuel (suc f) (suc g) [] hf hg = refl
holes_fuel (suc f) (suc g) (p ∷ []) hf hg = refl
holes_fuel (suc f) (suc g) (p ∷ q ∷ []) hf hg = refl
holes_fuel (suc f) (suc g) (p ∷ q ∷ l ∷ []) hf hg = refl
holes_fuel (suc f) (suc g) (p ∷ q ∷ l ∷ h ∷ []) hf hg = refl
holes_fuel (suc f) (suc g) (p ∷ q ∷ l ∷ h ∷ o ∷ rest) hf hg =
    let n = h * 256 + o in
    if_cong (leb n (length rest))
    (ap (λ (rs : List RawHole). punched (p * 256 + q) (whole l (take n rest)) ∷ rs)
    (holes_fuel f g (drop n rest) (omega (arith, length-drop n rest)) (omega (arith, length-drop n rest))))
    refl

-- a hole whose bytes are there, and what follows it
pub holes_cons : (p q l h o : ℕ) (rest : List ℕ) → h * 256 + o ≤ length rest
    → raw_holes (p ∷ q ∷ l ∷ h ∷ o ∷ rest) ≡ punched (p * 256 + q) (whole l (take (h * 256 + o) rest)) ∷ raw_holes (drop (h * 256 + o) rest)
unfolding raw_holes raw_holes_f
holes_cons p q l h o rest k =
    let n = h * 256 + o in
    rw (le-leb n (length rest) k)
    (ap (λ (rs : List RawHole). punched (p * 256 + q) (whole l (take n rest)) ∷ rs)
    (holes_fuel (suc (suc (suc (suc (length rest))))) (length (drop n rest)) (drop n rest) (omega (arith, length-drop n rest)) (omega arith)))

-- a place and a whole field behind it
pub hole_whole : (p q : ℕ) (bs : List ℕ) (l : ℕ) (t : List ℕ) (rs : List Raw) → raws bs ≡ whole l t ∷ rs
    → raw_holes (p ∷ q ∷ bs) ≡ punched (p * 256 + q) (whole l t) ∷ raw_holes (drop (3 + length t) bs)
unfolding raws raws_f
hole_whole p q [] l t rs e = absurd (let z : ◌≡◌ {A = ℕ} 0 1 = cc in omega arith)
hole_whole p q (a ∷ []) l t rs e = absurd (let z : ◌≡◌ {A = ℕ} 0 1 = cc in omega arith)
hole_whole p q (a ∷ h ∷ []) l t rs e = absurd (let z : ◌≡◌ {A = ℕ} 0 1 = cc in omega arith)
hole_whole p q (a ∷ h ∷ o ∷ rest) l t rs e = go (leb (h * 256 + o) (length rest)) refl e
  where
    go : (b : Bool) → leb (h * 256 + o) (length rest) ≡ b
        → (if b then whole a (take (h * 256 + o) rest) ∷ raws_f (suc (suc (length rest))) (drop (h * 256 + o) rest) else broken ∷ []) ≡ whole l t ∷ rs
        → raw_holes (p ∷ q ∷ a ∷ h ∷ o ∷ rest) ≡ punched (p * 256 + q) (whole l t) ∷ raw_holes (drop (3 + length t) (a ∷ h ∷ o ∷ rest))
    go true x k =
        let n = h * 256 + o in
        let fits = leb-true n (length rest) x in
        let el : a ≡ l = cc in
        let et : take n rest ≡ t = cc in
        let size : 3 + length t ≡ suc (suc (suc n)) = omega (arith, ap length et, length-take-le n rest fits) in
        holes_cons p q a h o rest fits ∙ rw (size, ← el, ← et) refl
    go false x k = absurd (let z : ◌≡◌ {A = ℕ} 0 1 = cc in omega arith)

-- a place behind which no whole field stands
pub hole_torn : (p q : ℕ) (bs : List ℕ) → ((l : ℕ) (t : List ℕ) (rs : List Raw) → raws bs ≡ whole l t ∷ rs → ⊥) → raw_holes (p ∷ q ∷ bs) ≡ torn ∷ []
unfolding raw_holes raw_holes_f raws raws_f
hole_torn p q [] e = refl
hole_torn p q (l ∷ []) e = refl
hole_torn p q (l ∷ h ∷ []) e = refl
hole_torn p q (l ∷ h ∷ o ∷ rest) e = go (leb (h * 256 + o) (length rest)) e
  where
    go : (b : Bool)
        → ((x : ℕ) (t : List ℕ) (rs : List Raw) → (if b then whole l (take (h * 256 + o) rest) ∷ raws_f (suc (suc (length rest))) (drop (h * 256 + o) rest) else broken ∷ []) ≡ whole x t ∷ rs → ⊥)
        → (if b then punched (p * 256 + q) (whole l (take (h * 256 + o) rest)) ∷ raw_holes_f (suc (suc (suc (suc (length rest))))) (drop (h * 256 + o) rest) else torn ∷ []) ≡ torn ∷ []
    go true k = absurd (k _ _ _ refl)
    go false k = refl

-- a hole that was written is read back, whatever follows it
pub holes_field : (p l : ℕ) (t bs : List ℕ) → raw_holes (two p ++ (field l t ++ bs)) ≡ punched p (whole l t) ∷ raw_holes bs
unfolding field
holes_field p l t bs =
    let n = length t in
    let e : n / 256 * 256 + n % 256 ≡ n = div-add-mod' n 256 in
    holes_cons (p / 256) (p % 256) l (n / 256) (n % 256) (t ++ bs) (omega (arith, e, length-append t bs))
    ∙ rw (e, div-add-mod' p 256, take-append_seam t bs, drop-append_seam t bs)

-- ---- what a sheet can hold

-- a piece within n segments
abbrev pub GoodHole : ℕ → Hole → Type 0
GoodHole n h = GoodPiece h.piece × (ends_within n h ≡ true)

-- segments are 0 to 11, and holes within them
abbrev pub GoodLine : RenderLine → Type 0
GoodLine (text ps) = Every GoodPiece ps
GoodLine (border a segs hs) = Every (λ (s : ℕ). s ≤ 11) segs × Every (GoodHole (length segs)) hs

-- the lines of a sheet
abbrev pub GoodLines : List RenderLine → Type 0
GoodLines ls = Every GoodLine ls

-- 1 to 16 rows left
abbrev pub GoodHanging : Hanging → Type 0
GoodHanging v = (is_span v.rows ≡ true) × GoodLines v.lines

-- a sheet: any names may wait
abbrev pub GoodSheet : Sheet → Type 0
GoodSheet t = GoodLines t.lines × Every GoodHanging t.overhang

-- ---- what is written is read back

hole_back : (p : ℕ) (t : Piece) (bs : List ℕ) (hs : List Hole) → GoodPiece t → read_holes (raw_holes bs) ≡ some hs
    → read_holes (raw_holes (two p ++ (piece_bytes t ++ bs))) ≡ some (hole p t ∷ hs)
unfolding read_holes read_hole read_piece
hole_back p (str a []) bs hs g e = absurd (omega arith)
hole_back p (str a (b ∷ t)) bs hs g e = rw (holes_field p 0x53 (a ∷ b ∷ t) bs, read_holes) (rw e)
hole_back p (fragment n) bs hs g e = rw (holes_field p 0x46 n bs, read_holes) (rw e)

-- no bytes, no holes
pub no_holes : raw_holes [] ≡ []
unfolding raw_holes raw_holes_f
no_holes = refl

holes_back : (n : ℕ) (hs : List Hole) → Every (GoodHole n) hs → read_holes (raw_holes (holes_bytes hs)) ≡ some hs
unfolding holes_bytes read_holes
holes_back n [] g = rw no_holes
holes_back n (h ∷ hs) g = hole_back h.place h.piece (holes_bytes hs) hs g.0.0 (holes_back n hs g.1)

within_back : (n : ℕ) (hs : List Hole) → Every (GoodHole n) hs → all (ends_within n) hs ≡ true
unfolding all
within_back n [] g = refl
within_back n (h ∷ hs) g = ap₂ ◌&&◌ g.0.1 (within_back n hs g.1)

holed_back : (a : ℕ) (segs : List ℕ) (h : Hole) (hs : List Hole) → Every (λ (s : ℕ). s ≤ 11) segs → Every (GoodHole (length segs)) (h ∷ hs)
    → read_holed (content (border a segs (h ∷ hs))) ≡ some (border a segs (h ∷ hs))
unfolding read_holed
holed_back a segs h hs k g =
    let n = length segs in
    let bs = holes_bytes (h ∷ hs) in
    rw (div-add-mod' n 256)
    (rw (le-leb n (length (segs ++ bs)) (omega (arith, length-append segs bs)))
    (rw (take-append_seam segs bs, drop-append_seam segs bs, holes_back n (h ∷ hs) g)
    (rw (segments_back segs k, within_back n (h ∷ hs) g))))

-- a line as a field
abbrev pub line_field : RenderLine → Raw
line_field l = whole (letter l) (content l)

-- A line is read back.
pub line_back : (l : RenderLine) → GoodLine l → read_line (line_field l) ≡ some l
unfolding read_line
line_back (text ps) h = rw (pieces_back ps h)
line_back (border a segs []) h = rw (segments_back segs h.0)
line_back (border a segs (o ∷ hs)) h = holed_back a segs o hs h.0 h.1

-- The fields of lines that were written are the lines, one for one, whatever follows.
pub lines_fields : (ls : List RenderLine) (bs : List ℕ) → raws (lines_bytes ls ++ bs) ≡ map line_field ls ++ raws bs
unfolding lines_bytes
lines_fields [] bs = refl
lines_fields (l ∷ ls) bs =
    ap raws (append_assoc (field (letter l) (content l)) (lines_bytes ls) bs)
    ∙ raws_field (letter l) (content l) (lines_bytes ls ++ bs)
    ∙ ap (λ (rs : List Raw). line_field l ∷ rs) (lines_fields ls bs)

lines_alone : (ls : List RenderLine) → raws (lines_bytes ls) ≡ map line_field ls
unfolding lines_bytes
lines_alone [] = raws_nil
lines_alone (l ∷ ls) =
    raws_field (letter l) (content l) (lines_bytes ls) ∙ ap (λ (rs : List Raw). line_field l ∷ rs) (lines_alone ls)

read_fields : (ls : List RenderLine) → GoodLines ls → read_all read_line (map line_field ls) ≡ some ls
unfolding read_all
read_fields [] h = refl
read_fields (l ∷ ls) h = rw (line_back l h.0, read_fields ls h.1)

-- Lines are read back.
pub lines_back : (ls : List RenderLine) → GoodLines ls → read_all read_line (raws (lines_bytes ls)) ≡ some ls
lines_back ls h = ap (read_all read_line) (lines_alone ls) ∙ read_fields ls h

-- ---- cells that hang

-- a V field
abbrev pub hanging_field : Hanging → Raw
hanging_field v = whole 0x56 (hanging_content v)

hanging_back : (v : Hanging) → GoodHanging v → read_hanging (hanging_field v) ≡ some v
unfolding read_hanging
hanging_back v h = rw h.0 (rw (lines_back v.lines h.1, div-add-mod' v.pos 256))

pub hangings_fields : (vs : List Hanging) → raws (overhang_bytes vs) ≡ map hanging_field vs
unfolding overhang_bytes
hangings_fields [] = raws_nil
hangings_fields (v ∷ vs) =
    raws_field 0x56 (hanging_content v) (overhang_bytes vs) ∙ ap (λ (rs : List Raw). hanging_field v ∷ rs) (hangings_fields vs)

read_hangings : (vs : List Hanging) → Every GoodHanging vs → read_all read_hanging (map hanging_field vs) ≡ some vs
unfolding read_all
read_hangings [] h = refl
read_hangings (v ∷ vs) h = rw (hanging_back v h.0, read_hangings vs h.1)

-- ---- names

-- an F field
abbrev pub name_field : List ℕ → Raw
name_field n = whole 0x46 n

-- The fields of names that were written are the names, one for one, whatever follows.
pub names_fields : (ns : List (List ℕ)) (bs : List ℕ) → raws (names_bytes ns ++ bs) ≡ map name_field ns ++ raws bs
unfolding names_bytes
names_fields [] bs = refl
names_fields (n ∷ ns) bs =
    ap raws (append_assoc (field 0x46 n) (names_bytes ns) bs)
    ∙ raws_field 0x46 n (names_bytes ns ++ bs)
    ∙ ap (λ (rs : List Raw). name_field n ∷ rs) (names_fields ns bs)

read_names : (ns : List (List ℕ)) → read_all read_name (map name_field ns) ≡ some ns
unfolding read_all read_name
read_names [] = refl
read_names (n ∷ ns) = rw (read_names ns)

-- ---- the three parts

-- no line is a V field
line_stays : (l : RenderLine) → is_hanging (line_field l) ≡ false
line_stays (text ps) = refl
line_stays (border a segs []) = refl
line_stays (border a segs (h ∷ hs)) = refl

-- nor an F field
line_no_name : (l : RenderLine) → is_name (line_field l) ≡ false
line_no_name (text ps) = refl
line_no_name (border a segs []) = refl
line_no_name (border a segs (h ∷ hs)) = refl

-- what follows the head
abbrev pub body_fields : List RenderLine → List (List ℕ) → List Hanging → List Raw
body_fields ls ns vs = map line_field ls ++ (map name_field ns ++ map hanging_field vs)

-- The fields before the first V are the lines and the names.
pub before_hung : (ls : List RenderLine) (ns : List (List ℕ)) (vs : List Hanging)
    → before_hanging (body_fields ls ns vs) ≡ map line_field ls ++ map name_field ns
unfolding before_hanging
before_hung [] [] [] = refl
before_hung [] [] (v ∷ vs) = refl
before_hung [] (n ∷ ns) vs = ap (λ (rs : List Raw). name_field n ∷ rs) (before_hung [] ns vs)
before_hung (l ∷ ls) ns vs = rw (line_stays l) (ap (λ (rs : List Raw). line_field l ∷ rs) (before_hung ls ns vs))

-- Those from it on are the cells that hang.
pub from_hung : (ls : List RenderLine) (ns : List (List ℕ)) (vs : List Hanging) → from_hanging (body_fields ls ns vs) ≡ map hanging_field vs
unfolding from_hanging
from_hung [] [] [] = refl
from_hung [] [] (v ∷ vs) = refl
from_hung [] (n ∷ ns) vs = from_hung [] ns vs
from_hung (l ∷ ls) ns vs = rw (line_stays l) (from_hung ls ns vs)

-- The fields before the first F are the lines.
pub before_named : (ls : List RenderLine) (ns : List (List ℕ)) → before_names (map line_field ls ++ map name_field ns) ≡ map line_field ls
unfolding before_names
before_named [] [] = refl
before_named [] (n ∷ ns) = refl
before_named (l ∷ ls) ns = rw (line_no_name l) (ap (λ (rs : List Raw). line_field l ∷ rs) (before_named ls ns))

-- Those from it on are the names.
pub from_named : (ls : List RenderLine) (ns : List (List ℕ)) → from_names (map line_field ls ++ map name_field ns) ≡ map name_field ns
unfolding from_names
from_named [] [] = refl
from_named [] (n ∷ ns) = refl
from_named (l ∷ ls) ns = rw (line_no_name l) (from_named ls ns)

-- ---- the sheet

-- The fields of lines, names and cells that hang.
pub body_fields_lem : (ls : List RenderLine) (ns : List (List ℕ)) (vs : List Hanging) → raws (body_bytes ls ns vs) ≡ body_fields ls ns vs
body_fields_lem ls ns vs =
    lines_fields ls (names_bytes ns ++ overhang_bytes vs)
    ∙ ap (λ (rs : List Raw). map line_field ls ++ rs)
    (names_fields ns (overhang_bytes vs) ∙ ap (λ (rs : List Raw). map name_field ns ++ rs) (hangings_fields vs))

-- A sheet's fields: its head, its lines, the names that wait, what hangs from it.
pub sheet_fields : (t : Sheet) → raws (sheet_bytes t) ≡ whole 0x48 (two (length t.lines)) ∷ body_fields t.lines t.names t.overhang
unfolding sheet_bytes
sheet_fields t =
    raws_field 0x48 (two (length t.lines)) (body_bytes t.lines t.names t.overhang)
    ∙ ap (λ (rs : List Raw). whole 0x48 (two (length t.lines)) ∷ rs) (body_fields_lem t.lines t.names t.overhang)

-- A SHEET THAT WAS WRITTEN IS READ BACK.
pub sheet_back : (t : Sheet) → GoodSheet t → read_sheet (sheet_bytes t) ≡ some t
unfolding read_sheet read_headed
sheet_back t h =
    let ls = t.lines in
    let ns = t.names in
    let vs = t.overhang in
    let n = length ls in
    rw (sheet_fields t, read_headed)
    (rw (before_hung ls ns vs, from_hung ls ns vs)
    (rw (before_named ls ns, from_named ls ns)
    (rw (read_fields ls h.0, read_names ns, read_hangings vs h.1, eq-eqb (n / 256 * 256 + n % 256) n (div-add-mod' n 256)))))

-- ---- the head

-- past the head stand the lines, the names and what hangs
pub past_head : (t : Sheet) → drop 5 (sheet_bytes t) ≡ body_bytes t.lines t.names t.overhang
unfolding sheet_bytes field
past_head t = refl

past_fields : (t : Sheet) → raws (drop 5 (sheet_bytes t)) ≡ body_fields t.lines t.names t.overhang
past_fields t = ap raws (past_head t) ∙ body_fields_lem t.lines t.names t.overhang

-- THE HEAD COUNTS THE LINES, AND NEITHER NAMES NOR V FIELDS.
pub head_counts : (t : Sheet) → HeadCounts (sheet_bytes t) t
unfolding sheet_bytes field
head_counts t =
    let ls = t.lines in
    let ns = t.names in
    let vs = t.overhang in
    record {
      head = refl;
      count = div-add-mod' (length ls) 256;
      lines = ap (λ (rs : List Raw). length (before_names (before_hanging rs))) (past_fields t) ∙ ap (λ (rs : List Raw). length (before_names rs)) (before_hung ls ns vs) ∙ ap length (before_named ls ns) ∙ length-map ls line_field;
      names = ap (λ (rs : List Raw). length (from_names (before_hanging rs))) (past_fields t) ∙ ap (λ (rs : List Raw). length (from_names rs)) (before_hung ls ns vs) ∙ ap length (from_named ls ns) ∙ length-map ns name_field;
      hanging = ap (λ (rs : List Raw). length (from_hanging rs)) (past_fields t) ∙ ap length (from_hung ls ns vs) ∙ length-map vs hanging_field;
    }

-- Where there are at most 65,535 lines the two are bytes.
pub head_bytes_lem : (t : Sheet) → length t.lines ≤ 65535 → (get_or (sheet_bytes t) 3 0 < 256) × (get_or (sheet_bytes t) 4 0 < 256)
unfolding sheet_bytes field
head_bytes_lem t h = (omega arith, omega arith)
