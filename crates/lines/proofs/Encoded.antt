-- The encoding of flat lines: what is put together, runs, pieces, a line's bytes, and those of names alone.
-- Assumes nothing.
use mathlib.Core.Path.{◌≡◌, refl, sym, ap, ◌∙◌}
use mathlib.Core.Bool.{Bool, true, false, ◌&&◌, cond, and-false}
use mathlib.Core.List.{List, [], ◌∷◌, ◌++◌, map, append-nil, append_assoc}
use mathlib.Core.Logic.{inl}
use Prim.Native.Nat.{ℕ, zero, suc, ◌%◌, ◌<◌, ◌≤◌}
use native.Mathlib.Omega.{arith}
use borrow.Author.Tests.{eq-eqb, ne_eqb}
use lib.Dec.{ltb, eqb}
use lib.ListN.{length, replicate}
use Rattle.std.specs.Prelude.{if◌then◌else◌}
use Rattle.characters.specs.Utf8.{utf8, text_bytes}
use Rattle.characters.proofs.Tests.{by_if, clash}
use Rattle.characters.proofs.RoundTrip.{Scalars}
use Rattle.fields.specs.Field.{field}
use Rattle.fields.specs.Job.{Mode, normal, pre, pre_wrap}
use Rattle.fields.specs.Sheet.{pieces_bytes}
use Rattle.fields.specs.Spans.{letter, lines_bytes, names_bytes}
use Rattle.fields.specs.Spans as sheet
use Rattle.block.specs.Tag.{Tag, same_tag, same_mode}
use Rattle.block.specs.Flat.{char, name, Line, has_text, spaces, names_in, Run, run, mark, join, runs, run_piece, flat_sheet_line}
use Rattle.lines.specs.Items.{Item, item, mark_tag, name_tag, byte_of, tag_of}
use Rattle.lines.specs.Encode.{joins, on_first, starts_with, pieces, field_of, piece_field, piece_fields, content, line_field, run_t}
use Rattle.lines.specs.Bridge.{mode_no, num, tagged, enc, Valid, text, Cut}
use Rattle.lines.proofs.Buffers.{tagged_append}
use Rattle.block.proofs.Group.{same_tag_lem}

abbrev Bytes : Type 0
Bytes = List Item

-- ---- ++

-- The items of two lines, put together.
pub enc_append : (a b : Line) → enc (a ++ b) ≡ enc a ++ enc b
unfolding enc
enc_append [] b = refl
enc_append (char c t ∷ a) b = rw (enc_append a b, append_assoc)
enc_append (name n ∷ a) b = ap (λ (l : Bytes). item 0 mark_tag ∷ l) (rw (enc_append a b, append_assoc (tagged name_tag n) (enc a) (enc b)))

-- The items of a text of one tag are its bytes with that tag.
pub enc_text : (t : Tag) (cs : List ℕ) → enc (text t cs) ≡ tagged (num t) (text_bytes cs)
unfolding enc text_bytes tagged
enc_text t [] = refl
enc_text t (c ∷ cs) = rw (enc_text t cs, tagged_append (num t) (utf8 c) (text_bytes cs))

-- The items of spaces.
pub enc_spaces : (n : ℕ) (t : Tag) → enc (spaces n t) ≡ replicate n (item 0x20 (num t))
unfolding enc spaces tagged utf8
enc_spaces zero t = refl
enc_spaces (suc n) t = ap (λ (l : Bytes). item 0x20 (num t) ∷ l) (enc_spaces n t)

-- Two valid lines make one.
pub valid_append : (a b : Line) → Valid a → Valid b → Valid (a ++ b)
valid_append [] b v w = w
valid_append (char c t ∷ a) b (x, y, v) w = (x, y, valid_append a b v w)
valid_append (name n ∷ a) b v w = valid_append a b v w

-- A text of scalar values is valid.
pub valid_text : (t : Tag) (cs : List ℕ) → t.ann < 256 → Scalars cs → Valid (text t cs)
valid_text t [] h v = tt
valid_text t (c ∷ cs) h (x, v) = (x, h, valid_text t cs h v)

-- Spaces are valid.
pub valid_spaces : (n : ℕ) (t : Tag) → t.ann < 256 → Valid (spaces n t)
unfolding spaces
valid_spaces zero t h = tt
valid_spaces (suc n) t h = ((inl (omega arith), omega arith), h, valid_spaces n t h)

-- Scalar values in front.
pub scalars_left : (a b : List ℕ) → Scalars (a ++ b) → Scalars a
scalars_left [] b v = tt
scalars_left (c ∷ a) b (x, v) = (x, scalars_left a b v)

-- Scalar values behind.
pub scalars_right : (a b : List ℕ) → Scalars (a ++ b) → Scalars b
scalars_right [] b v = v
scalars_right (c ∷ a) b (x, v) = scalars_right a b v

-- A valid line that starts with a text: the text's scalar values, and the rest.
pub valid_text_scalars : (t : Tag) (cs : List ℕ) (w : Line) → Valid (text t cs ++ w) → Scalars cs × Valid w
valid_text_scalars t [] w v = (tt, v)
valid_text_scalars t (c ∷ cs) w (x, h, v) = let r = valid_text_scalars t cs w v in ((x, r.0), r.1)

-- ---- a character has a byte

-- a list that is not empty
pub record Some (s : List ℕ) : Type 0 where
  pub first : ℕ
  pub more : List ℕ
  pub is : s ≡ first ∷ more

some_of : (b : ℕ) (bs : List ℕ) → Some (b ∷ bs)
some_of b bs = record { first = b; more = bs; is = refl }

-- An encoding is not empty.
pub utf8_some : (c : ℕ) → Some (utf8 c)
unfolding utf8
utf8_some c =
    by_if Some (ltb c 0x80) (λ e. some_of _ _)
    (λ e. by_if Some (ltb c 0x800) (λ f. some_of _ _)
    (λ f. by_if Some (ltb c 0x10000) (λ g. some_of _ _) (λ g. some_of _ _)))

-- An encoding has a byte.
pub utf8_pos : (c : ℕ) → 0 < length (utf8 c)
utf8_pos c = let u = utf8_some c in rw u.is (omega arith)

-- ---- tags and their numbers

mode_no_lem : (m : Mode) → mode_no m ≤ 2
mode_no_lem normal = omega arith
mode_no_lem pre = omega arith
mode_no_lem pre_wrap = omega arith

mode_num : (m n : Mode) → same_mode m n ≡ false → mode_no n ≡ mode_no m → ⊥
mode_num normal normal e = λ q. clash refl e
mode_num normal pre e = λ q. omega arith
mode_num normal pre_wrap e = λ q. omega arith
mode_num pre normal e = λ q. omega arith
mode_num pre pre e = λ q. clash refl e
mode_num pre pre_wrap e = λ q. omega arith
mode_num pre_wrap normal e = λ q. omega arith
mode_num pre_wrap pre e = λ q. omega arith
mode_num pre_wrap pre_wrap e = λ q. clash refl e

-- The number of a tag is below the mark's.
pub num_small : (t : Tag) → t.ann < 256 → num t < 196608
unfolding num
num_small t h = let m = mode_no_lem t.mode in omega arith

-- Its low byte is the annotation.
pub num_ann : (t : Tag) → t.ann < 256 → num t % 256 ≡ t.ann
unfolding num
num_ann t h = let m = mode_no_lem t.mode in omega arith

num_ne : (t u : Tag) → t.ann < 256 → u.ann < 256 → same_tag t u ≡ false → num u ≡ num t → ⊥
unfolding num
num_ne t u h k e q =
    let m = mode_no_lem t.mode in
    let n = mode_no_lem u.mode in
    let a : t.ann ≡ u.ann = omega arith in
    let b : mode_no u.mode ≡ mode_no t.mode = omega arith in
    mode_num t.mode u.mode (sym (ap (λ (x : Bool). x && same_mode t.mode u.mode) (eq-eqb t.ann u.ann a)) ∙ e) b

-- a text's tag joins itself, and no other text's
joins_self : (n : ℕ) → n < 196608 → joins n n ≡ true
unfolding joins
joins_self n h = rw (ne_eqb n name_tag (λ e. omega arith), eq-eqb n n refl, ne_eqb n mark_tag (λ e. omega arith))

joins_not : (n m : ℕ) → m < 196608 → (m ≡ n → ⊥) → joins n m ≡ false
unfolding joins
joins_not n m h k = rw (ne_eqb m name_tag (λ e. omega arith), ne_eqb m n k)

joins_mark : (n : ℕ) → joins n mark_tag ≡ false
unfolding joins
joins_mark n = and-false (eqb mark_tag n)

joins_name : (n : ℕ) → joins n name_tag ≡ true
unfolding joins
joins_name n = refl

-- whether the encoding of a line goes on a piece of the tag with the number n
starts_char : (n c : ℕ) (t : Tag) (l : Line) → starts_with n (enc (char c t ∷ l)) ≡ joins n (num t)
unfolding enc starts_with tagged
starts_char n c t l = let u = utf8_some c in rw u.is

starts_name : (n : ℕ) (m : List ℕ) (l : Line) → starts_with n (enc (name m ∷ l)) ≡ false
unfolding enc starts_with
starts_name n m l = joins_mark n

-- What does not go on a piece of a tag has no item that does.
pub starts_cut : (t : Tag) (l : Line) → t.ann < 256 → Valid l → Cut t l → starts_with (num t) (enc l) ≡ false
unfolding enc starts_with
starts_cut t [] h v k = refl
starts_cut t (char c u ∷ l) h (x, g, v) k = starts_char (num t) c u l ∙ joins_not (num t) (num u) (num_small u g) (num_ne t u h g k)
starts_cut t (name n ∷ l) h v k = starts_name (num t) n l

-- no line goes on a name
pub starts_after_name : (n : ℕ) (l : Line) → 196608 ≤ n → Valid l → starts_with n (enc l) ≡ false
unfolding enc starts_with
starts_after_name n [] h v = refl
starts_after_name n (char c u ∷ l) h (x, g, v) = starts_char n c u l ∙ joins_not n (num u) (num_small u g) (λ e. let s = num_small u g in omega arith)
starts_after_name n (name m ∷ l) h v = starts_name n m l

-- ---- runs

run_stop : (n : ℕ) (l : Bytes) → starts_with n l ≡ false → run_t n (map tag_of l) ≡ 0
unfolding run_t starts_with
run_stop n [] e = refl
run_stop n (x ∷ l) e = rw e

-- The run of a text is all of it.
pub run_text : (n : ℕ) (bs : List ℕ) (l : Bytes) → n < 196608 → starts_with n l ≡ false → run_t n (map tag_of (tagged n bs ++ l)) ≡ length bs
unfolding run_t tagged
run_text n [] l h e = run_stop n l e
run_text n (b ∷ bs) l h e = rw (joins_self n h) (ap suc (run_text n bs l h e))

-- The run of a name is all of it.
pub run_name : (n : ℕ) (bs : List ℕ) (l : Bytes) → starts_with n l ≡ false → starts_with name_tag l ≡ false → run_t n (map tag_of (tagged name_tag bs ++ l)) ≡ length bs
unfolding run_t tagged
run_name n [] l e f = run_stop n l e
run_name n (b ∷ bs) l e f = rw (joins_name n) (ap suc (run_name name_tag bs l f f))

-- ---- pieces

starts_item : (n a u : ℕ) (l : Bytes) → starts_with n (item a u ∷ l) ≡ joins n u
unfolding starts_with
starts_item n a u l = refl

abbrev on_firsts : Bytes → List Bytes → List Bytes
on_firsts p [] = p ∷ []
on_firsts p (q ∷ qs) = (p ++ q) ∷ qs

on_one : (x : Item) (ps : List Bytes) → on_first x ps ≡ on_firsts (x ∷ []) ps
unfolding on_first
on_one x [] = refl
on_one x (p ∷ ps) = refl

on_more : (x : Item) (p : Bytes) (e : Bool) (ps : List Bytes) → on_first x (cond e (on_firsts p ps) (p ∷ ps)) ≡ cond e (on_firsts (x ∷ p) ps) ((x ∷ p) ∷ ps)
unfolding on_first
on_more x p true [] = refl
on_more x p true (q ∷ ps) = refl
on_more x p false ps = refl

text_pieces : (n b : ℕ) (bs : List ℕ) (l : Bytes) → n < 196608
    → pieces (tagged n (b ∷ bs) ++ l) ≡ cond (starts_with n l) (on_firsts (tagged n (b ∷ bs)) (pieces l)) (tagged n (b ∷ bs) ∷ pieces l)
unfolding pieces tagged
text_pieces n b [] l h = rw (on_one (item b n) (pieces l))
text_pieces n b (a ∷ bs) l h =
    let j : starts_with n (item a n ∷ tagged n bs ++ l) ≡ true = starts_self a (tagged n bs ++ l) in
    rw j (ap (on_first (item b n)) (text_pieces n a bs l h) ∙ on_more (item b n) (tagged n (a ∷ bs)) (starts_with n l) (pieces l))
  where
    starts_self : (a : ℕ) (m : Bytes) → starts_with n (item a n ∷ m) ≡ true
    starts_self a m = starts_item n a n m ∙ joins_self n h

name_pieces : (n b : ℕ) (bs : List ℕ) (l : Bytes) → starts_with n l ≡ false → starts_with name_tag l ≡ false
    → pieces (item b n ∷ tagged name_tag bs ++ l) ≡ (item b n ∷ tagged name_tag bs) ∷ pieces l
unfolding pieces tagged on_first
name_pieces n b [] l e f = rw e
name_pieces n b (a ∷ bs) l e f =
    let j : starts_with n (item a name_tag ∷ tagged name_tag bs ++ l) ≡ true = starts_item n a name_tag (tagged name_tag bs ++ l) ∙ joins_name n in
    rw j (ap (on_first (item b n)) (name_pieces name_tag a bs l f f))

abbrev enc_run : Run → Bytes
enc_run (run t cs) = tagged (num t) (text_bytes cs)
enc_run (mark n) = item 0 mark_tag ∷ tagged name_tag n

abbrev first_same : Tag → List Run → Bool
first_same t [] = false
first_same t (run u cs ∷ ps) = same_tag t u
first_same t (mark n ∷ ps) = false

join_enc : (c : ℕ) (t : Tag) (ps : List Run) → map enc_run (join c t ps)
    ≡ cond (first_same t ps) (on_firsts (tagged (num t) (utf8 c)) (map enc_run ps)) (tagged (num t) (utf8 c) ∷ map enc_run ps)
unfolding text_bytes
join_enc c t [] = rw append-nil
join_enc c t (mark n ∷ ps) = rw append-nil
join_enc c t (run u cs ∷ ps) = go (same_tag t u) refl
  where
    go : (e : Bool) → same_tag t u ≡ e → map enc_run (if e then run u (c ∷ cs) ∷ ps else run t (c ∷ []) ∷ run u cs ∷ ps)
        ≡ cond e ((tagged (num t) (utf8 c) ++ tagged (num u) (text_bytes cs)) ∷ map enc_run ps) (tagged (num t) (utf8 c) ∷ tagged (num u) (text_bytes cs) ∷ map enc_run ps)
    go true e = rw (same_tag_lem t u e, tagged_append (num u) (utf8 c) (text_bytes cs))
    go false e = rw append-nil

join_first : (t u : Tag) (c : ℕ) (ps : List Run) → first_same t (join c u ps) ≡ same_tag t u
join_first t u c [] = refl
join_first t u c (mark n ∷ ps) = refl
join_first t u c (run v cs ∷ ps) = go (same_tag u v) refl
  where
    go : (e : Bool) → same_tag u v ≡ e → first_same t (if e then run v (c ∷ cs) ∷ ps else run u (c ∷ []) ∷ run v cs ∷ ps) ≡ same_tag t u
    go true e = rw (same_tag_lem u v e)
    go false e = refl

starts_same : (t : Tag) (l : Line) → t.ann < 256 → Valid l → starts_with (num t) (enc l) ≡ first_same t (runs l)
unfolding enc starts_with runs
starts_same t [] h v = refl
starts_same t (name n ∷ l) h v = starts_name (num t) n l
starts_same t (char c u ∷ l) h (x, g, v) = starts_char (num t) c u l ∙ go (same_tag t u) refl ∙ sym (join_first t u c (runs l))
  where
    go : (e : Bool) → same_tag t u ≡ e → joins (num t) (num u) ≡ same_tag t u
    go true e = rw (same_tag_lem t u e) (joins_self (num u) (num_small u g) ∙ sym (sym (ap (λ (z : Tag). same_tag z u) (same_tag_lem t u e)) ∙ e))
    go false e = joins_not (num t) (num u) (num_small u g) (num_ne t u h g e) ∙ sym e

-- the pieces of a line's items are the line's pieces
pub pieces_same : (l : Line) → Valid l → pieces (enc l) ≡ map enc_run (runs l)
unfolding pieces enc runs
pieces_same [] v = refl
pieces_same (name n ∷ l) v =
    name_pieces mark_tag 0 n (enc l) (starts_after_name mark_tag l (omega arith) v) (starts_after_name name_tag l (omega arith) v)
    ∙ ap (λ (ps : List Bytes). (item 0 mark_tag ∷ tagged name_tag n) ∷ ps) (pieces_same l v)
pieces_same (char c t ∷ l) (x, h, v) =
    let u = utf8_some c in
    let bs : Bytes = tagged (num t) (utf8 c) in
    let one : pieces (bs ++ enc l) ≡ cond (starts_with (num t) (enc l)) (on_firsts bs (pieces (enc l))) (bs ∷ pieces (enc l)) =
    rw u.is (text_pieces (num t) u.first u.more (enc l) (num_small t h)) in
    one ∙ rw (starts_same t l h v, pieces_same l v) (sym (join_enc c t (runs l)))

-- ---- a line's bytes

abbrev Good : List Run → Type 0
Good [] = Unit {0}
Good (run t cs ∷ ps) = (t.ann < 256) × (0 < length cs) × Good ps
Good (mark n ∷ ps) = Good ps

join_good : (c : ℕ) (t : Tag) (ps : List Run) → t.ann < 256 → Good ps → Good (join c t ps)
join_good c t [] h g = (h, omega arith, tt)
join_good c t (mark n ∷ ps) h g = (h, omega arith, g)
join_good c t (run u cs ∷ ps) h (a, b, g) = by_if Good (same_tag t u) (λ e. (a, omega arith, g)) (λ e. (h, omega arith, (a, b, g)))

runs_good : (l : Line) → Valid l → Good (runs l)
unfolding runs
runs_good [] v = tt
runs_good (name n ∷ l) v = runs_good l v
runs_good (char c t ∷ l) (x, h, v) = join_good c t (runs l) h (runs_good l v)

bytes_tagged : (n : ℕ) (bs : List ℕ) → map byte_of (tagged n bs) ≡ bs
unfolding tagged
bytes_tagged n [] = refl
bytes_tagged n (b ∷ bs) = ap (λ (l : List ℕ). b ∷ l) (bytes_tagged n bs)

run_field : (t : Tag) (b : ℕ) (bs : List ℕ) → t.ann < 256 → piece_field (tagged (num t) (b ∷ bs)) ≡ field 0x53 (t.ann ∷ b ∷ bs)
unfolding piece_field field_of tagged
run_field t b bs h =
    let s = num_small t h in
    rw (bytes_tagged (num t) bs, ne_eqb (num t) mark_tag (λ q. omega arith), num_ann t h)

mark_field : (n : List ℕ) → piece_field (item 0 mark_tag ∷ tagged name_tag n) ≡ field 0x46 n
unfolding piece_field field_of
mark_field n = rw (bytes_tagged name_tag n)

text_some : (cs : List ℕ) → 0 < length cs → Some (text_bytes cs)
unfolding text_bytes
text_some [] h = absurd (omega arith)
text_some (c ∷ cs) h =
    let u = utf8_some c in
    record { first = u.first; more = u.more ++ text_bytes cs; is = ap (λ (l : List ℕ). l ++ text_bytes cs) u.is }

fields_same : (ps : List Run) → Good ps → piece_fields (map enc_run ps) ≡ pieces_bytes (map run_piece ps)
unfolding piece_fields pieces_bytes
fields_same [] g = refl
fields_same (mark n ∷ ps) g = rw (mark_field n, fields_same ps g)
fields_same (run t cs ∷ ps) (h, k, g) =
    let u = text_some cs k in
    rw (u.is, run_field t u.first u.more h, fields_same ps g)

-- what a valid line's items hold are the bytes of its pieces
content_bytes : (l : Line) → Valid l → content (enc l) ≡ pieces_bytes (map run_piece (runs l))
unfolding content
content_bytes l v = ap piece_fields (pieces_same l v) ∙ fields_same (runs l) (runs_good l v)

-- The field of a valid line's items is the L field of the sheet's line.
pub line_bytes_lem : (l : Line) → Valid l → line_field (enc l) ≡ field (letter (flat_sheet_line l)) (sheet.content (flat_sheet_line l))
unfolding line_field flat_sheet_line
line_bytes_lem l v = ap (field 0x4C) (content_bytes l v)

-- the pieces of a line without text are its names
names_alone : (l : Line) → has_text l ≡ false → pieces_bytes (map run_piece (runs l)) ≡ names_bytes (names_in l)
unfolding has_text runs pieces_bytes names_in names_bytes
names_alone [] e = refl
names_alone (name n ∷ l) e = ap (λ (bs : List ℕ). field 0x46 n ++ bs) (names_alone l e)
names_alone (char c t ∷ l) e = absurd (clash refl e)

-- What the items of a line without text hold are the F fields of its names.
pub names_bytes_lem : (l : Line) → Valid l → has_text l ≡ false → content (enc l) ≡ names_bytes (names_in l)
names_bytes_lem l v e = content_bytes l v ∙ names_alone l e

-- A line more is its field more.
pub lines_snoc : (ls : List Line) (l : Line) → Valid l → lines_bytes (map flat_sheet_line (ls ++ (l ∷ []))) ≡ lines_bytes (map flat_sheet_line ls) ++ line_field (enc l)
unfolding lines_bytes
lines_snoc [] l v = append-nil _ ∙ sym (line_bytes_lem l v)
lines_snoc (k ∷ ls) l v = rw (lines_snoc ls l v, append_assoc)

-- what encodes to nothing is nothing
pub enc_none : (w : Line) → enc w ≡ [] → w ≡ []
unfolding enc tagged
enc_none [] e = refl
enc_none (name n ∷ w) e = absurd (let z : ◌≡◌ {A = ℕ} 0 1 = cc in omega arith)
enc_none (char c t ∷ w) e =
    absurd (
    let u = utf8_some c in
    let f : item u.first (num t) ∷ tagged (num t) u.more ++ enc w ≡ [] = ap (λ (z : List ℕ). tagged (num t) z ++ enc w) (sym u.is) ∙ e in
    let z : ◌≡◌ {A = ℕ} 0 1 = cc in omega arith)
