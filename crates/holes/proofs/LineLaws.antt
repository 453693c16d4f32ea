-- The columns of a line that is filled, and where it has a piece.
-- Assumes nothing.
use mathlib.Core.Path.{◌≡◌, refl, sym, ap, ◌∙◌}
use mathlib.Core.Bool.{Bool, true, ◌&&◌}
use mathlib.Core.Logic.{⊎_elim}
use mathlib.Core.Option.{Option, none, some, map}
use mathlib.Core.List.{List, [], ◌∷◌}
use Prim.Native.Nat.{ℕ, ◌+◌, ◌-◌, ◌*◌, ◌≤◌, ◌<◌, max}
use native.Mathlib.Omega.{arith}
use lib.Dec.{leb, ltb, eqb}
use lib.ListN.{length, take, drop, replicate, length-append}
use borrow.Author.Tests.{le-leb, lt-ltb, le-ltb, eq-eqb, ne_eqb}
use Rattle.std.proofs.Common.{Option as Maybe, unwrap_or}
use Rattle.std.specs.Option.{is_some}
use Rattle.std.specs.Bool.{then_some}
use Rattle.characters.specs.Utf8.{text_bytes}
use Rattle.characters.proofs.Tests.{by_if, lt_or_le}
use Rattle.fields.specs.Field.{Raw, whole, broken, raws_f, raws, both, read_all, part, all}
use Rattle.fields.specs.Sheet.{Piece, str, fragment, read_str, read_piece, is_segment}
use Rattle.fields.specs.Widths.{width}
use Rattle.fields.proofs.Back.{Every}
use Rattle.fields.proofs.Fields.{raws_nil}
use Rattle.fields.proofs.Readings.{read_none, read_size}
use Rattle.borders.specs.BorderHoriz.{stretch_to, to_string, up_to_hole, into_tagged_from, border_into_tagged_line}
use Rattle.fields.specs.TaggedLine.{WellFormedPiece, push_str, push, push_ws, pad_to}
use Rattle.rows.proofs.Reading.{OnSome, some_of}
use Rattle.rows.proofs.Lines.{push_width, spaces_formed, spaces_width, join_long}
use Rattle.fields.specs.Spans.{Hole, hole, RawHole, punched, torn, raw_holes_f, raw_holes, read_hole, read_holes, RenderLine, text, border, ends_within, holed, read_holed, read_border, read_line}
use Rattle.rows.specs.SubRenderer.{filled}
use Rattle.places.specs.Border.{ReadsBorder}
use Rattle.places.specs.declared.border.Border.{Border}
use Rattle.places.proofs.HolesLaws.{holes_none, read_no_holes}
use Rattle.tagged_line.specs.Pieces.{PiecesOf}
use Rattle.tagged_line.proofs.Laying.{all_formed}
use Rattle.holes.specs.Cols.{Counts, CountsPieces, walk_end, EndsAt, CountsText, CountsBorder, CountsLine}
use Rattle.holes.proofs.Segments.{stretch_length}
use Rattle.holes.proofs.WidthLaws.{walk_width}

-- ---- bytes that are not empty hold a field

raws_some : (bs : List ℕ) → 1 ≤ length bs → 1 ≤ length (raws bs)
unfolding raws raws_f
raws_some [] h = absurd (omega arith)
raws_some (l ∷ []) h = omega arith
raws_some (l ∷ x ∷ []) h = omega arith
raws_some (l ∷ x ∷ o ∷ bs) h = by_if (λ (rs : List Raw). 1 ≤ length rs) (leb (x * 256 + o) (length bs)) (λ _. omega arith) (λ _. omega arith)

holes_some : (bs : List ℕ) → 1 ≤ length bs → 1 ≤ length (raw_holes bs)
unfolding raw_holes raw_holes_f
holes_some [] h = absurd (omega arith)
holes_some (p ∷ []) h = omega arith
holes_some (p ∷ q ∷ []) h = omega arith
holes_some (p ∷ q ∷ l ∷ []) h = omega arith
holes_some (p ∷ q ∷ l ∷ x ∷ []) h = omega arith
holes_some (p ∷ q ∷ l ∷ x ∷ o ∷ bs) h =
    by_if (λ (rs : List RawHole). 1 ≤ length rs) (leb (x * 256 + o) (length bs)) (λ _. omega arith) (λ _. omega arith)

-- ---- a line that something is pushed to

-- it keeps its pieces
push_str_some : (l : List Piece) (a : ℕ) (t : List ℕ) → 1 ≤ length l → 1 ≤ length (push_str l a t)
unfolding push_str
push_str_some l a [] h = h
push_str_some l a (b ∷ t) h = join_long l a (b ∷ t)

push_some : (l : List Piece) (q : Piece) → 1 ≤ length l → 1 ≤ length (push l q)
unfolding push
push_some l (str a t) h = push_str_some l a t h
push_some l (fragment n) h = omega (arith, length-append l (fragment n ∷ []))

-- a piece that leaves a line with a piece
abbrev Lays : Piece → Type 0
Lays q = (l : List Piece) → 1 ≤ length (push l q)

lays_str : (t : List ℕ) → OnSome Lays (read_str t)
unfolding push push_str
lays_str [] = tt
lays_str (a ∷ []) = tt
lays_str (a ∷ b ∷ t) = λ l. join_long l a (b ∷ t)

-- one that was read does
lays_read : (r : Raw) → OnSome Lays (read_piece r)
unfolding read_piece push
lays_read broken = tt
lays_read (whole l t) =
    by_if (OnSome Lays) (eqb l 0x53) (λ _. lays_str t)
    (λ _. by_if (OnSome Lays) (eqb l 0x46) (λ _ m. omega (arith, length-append m (fragment t ∷ []))) (λ _. tt))

-- ---- a border's pieces

up_to_some : (a : ℕ) (segs : List ℕ) (l : List Piece) (pos place : ℕ) → 1 ≤ length l → 1 ≤ length (up_to_hole a segs l pos place)
up_to_some a segs l pos place h =
    by_if (λ (m : List Piece). 1 ≤ length m) (ltb pos place) (λ _. push_str_some l a (to_string (part pos place segs)) h) (λ _. h)

tagged_some : (a : ℕ) (segs : List ℕ) (l : List Piece) (pos : ℕ) (hs : List Hole) → 1 ≤ length l → 1 ≤ length (into_tagged_from a segs l pos hs)
unfolding into_tagged_from
tagged_some a segs l pos [] h = push_str_some l a (to_string (drop pos segs)) h
tagged_some a segs l pos (x ∷ hs) h =
    let m = up_to_hole a segs l pos x.place in
    tagged_some a segs (push m x.piece) _ hs (push_some m x.piece (up_to_some a segs l pos x.place h))

-- holes of which the first leaves a piece
abbrev LaysFirst : List Hole → Type 0
LaysFirst [] = ⊥
LaysFirst (h ∷ hs) = Lays h.piece

both_lays : (p : ℕ) (o : Option Piece) (q : Option (List Hole)) → OnSome Lays o → OnSome LaysFirst (both (map (hole p) o) q)
both_lays p none q h = tt
both_lays p (some t) none h = tt
both_lays p (some t) (some hs) h = h

lays_first : (rs : List RawHole) → 1 ≤ length rs → OnSome LaysFirst (read_holes rs)
unfolding read_holes read_hole
lays_first [] h = absurd (omega arith)
lays_first (torn ∷ rs) h = tt
lays_first (punched p r ∷ rs) h = both_lays p (read_piece r) (read_holes rs) (lays_read r)

tagged_holes : (a : ℕ) (segs : List ℕ) (hs : List Hole) → LaysFirst hs → 1 ≤ length (into_tagged_from a segs [] 0 hs)
unfolding into_tagged_from
tagged_holes a segs [] h = absurd h
tagged_holes a segs (x ∷ hs) h = tagged_some a segs (push (up_to_hole a segs [] 0 x.place) x.piece) _ hs (h (up_to_hole a segs [] 0 x.place))

-- ---- a line with columns has a piece

wide_some : (ps : List Piece) → 0 < width ps → 1 ≤ length ps
unfolding width
wide_some [] h = absurd (omega arith)
wide_some (p ∷ ps) h = omega arith

-- a test on a number, where pieces stand exactly if it is not 0
some_test : (n : ℕ) (ps : List Piece) → (0 < n → 1 ≤ length ps) → (n ≡ 0 → ps ≡ []) → ltb 0 n ≡ leb 1 (length ps)
some_test n ps f g =
    ⊎_elim (λ h. lt-ltb 0 n h ∙ sym (le-leb 1 (length ps) (f h))) (λ h. le-ltb 0 n h ∙ sym (ap (λ (l : List Piece). leb 1 (length l)) (g (omega arith)))) (lt_or_le 0 n)

-- the columns, if there is a piece
counted : (ps : List Piece) (r : Maybe ℕ) (any : Bool) (cols : ℕ) → r ≡ then_some any cols → cols ≡ width ps → any ≡ leb 1 (length ps) → Counts r ps
counted [] r any cols e w s = rw s at e
counted (p ∷ ps) r any cols e w s =
    let t : any ≡ true = s ∙ le-leb 1 (length (p ∷ ps)) (omega arith) in
    rw (t, w) at e

-- ---- a text

pad_width : (ps : List Piece) (to a : ℕ) → Every WellFormedPiece ps → width (pad_to ps to a) ≡ width ps + (to - width ps)
unfolding pad_to push_ws
pad_width ps to a h =
    push_width ps a (replicate (to - width ps) 0x20) h (spaces_formed (to - width ps)) ∙ ap (λ (n : ℕ). width ps + n) (spaces_width (to - width ps))

pad_some : (ps : List Piece) (to a : ℕ) → 1 ≤ length ps → 1 ≤ length (pad_to ps to a)
unfolding pad_to push_ws
pad_some ps to a h = push_str_some ps a (replicate (to - width ps) 0x20) h

pad_nothing : (a : ℕ) → pad_to [] 0 a ≡ []
unfolding pad_to push_ws push_str width
pad_nothing a = refl

-- no bytes, no pieces
no_pieces : (s : List ℕ) (ps : List Piece) → length s ≡ 0 → PiecesOf s ps → ps ≡ []
no_pieces [] ps h e = read_none read_piece ps (sym (ap (read_all read_piece) raws_nil) ∙ e)
no_pieces (b ∷ s) ps h e = absurd (omega arith)

-- THE COLUMNS OF A PADDED TEXT, AND ITS PIECES.
pub text_counts : (s : List ℕ) (to own cols : ℕ) (r : Maybe ℕ) → CountsPieces s own → cols ≡ max own to → r ≡ then_some (ltb 0 (length s + to)) cols
    → CountsText s to r
text_counts s to own cols r c ec ep a ps e ok =
    let f = all_formed ps ok in
    let w = pad_width ps to a f in
    counted (pad_to ps to a) r (ltb 0 (length s + to)) cols ep (omega (arith, ec, c ps e, w))
    (some_test (length s + to) (pad_to ps to a) (has_piece w) has_none)
  where
    has_piece : width (pad_to ps to a) ≡ width ps + (to - width ps) → 0 < length s + to → 1 ≤ length (pad_to ps to a)
    has_piece w h =
        ⊎_elim (λ k. pad_some ps to a (omega (arith, read_size read_piece (raws s) ps e, raws_some s k))) (λ k. wide_some (pad_to ps to a) (omega arith)) (lt_or_le 0 (length s))

    has_none : length s + to ≡ 0 → pad_to ps to a ≡ []
    has_none h =
        let t : to ≡ 0 = omega arith in
        rw (t, no_pieces s ps (omega arith) e) (pad_nothing a)

-- ---- a border

-- no holes and no segments, no pieces
tagged_nothing : (a : ℕ) (segs : List ℕ) → length segs ≡ 0 → into_tagged_from a segs [] 0 [] ≡ []
unfolding into_tagged_from push_str to_string text_bytes
tagged_nothing a [] h = refl
tagged_nothing a (x ∷ segs) h = absurd (omega arith)

-- without holes the walk ends at the border's end
end_plain : (end : ℕ) → walk_end end 0 [] ≡ end
unfolding walk_end
end_plain end = omega arith

-- THE COLUMNS OF A STRETCHED BORDER, AND ITS PIECES.
pub border_counts : (given : Border) (to end cols : ℕ) (r : Maybe ℕ) → end ≡ max to (length given.segments.now)
    → EndsAt given.holes.now end cols → r ≡ then_some (ltb 0 (length given.holes.now + end)) cols → CountsBorder given to r
unfolding width
border_counts given to end cols r ee c ep a ss hs b ok =
    let n : length ss ≡ length given.segments.now = sym (ap length b.segments) in
    let m : length (stretch_to ss to) ≡ end = stretch_length ss to ∙ omega (arith, n, ee) in
    let long : length ss ≤ end = omega (arith, n, ee) in
    let w : width (into_tagged_from a (stretch_to ss to) [] 0 hs) ≡ walk_end end 0 hs =
    walk_width a (stretch_to ss to) (length ss) [] 0 hs (omega (arith, m, long)) b.within ok tt refl ∙ ap (λ (i : ℕ). walk_end i 0 hs) m in
    counted (into_tagged_from a (stretch_to ss to) [] 0 hs) r (ltb 0 (length given.holes.now + end)) cols ep
    (c (length ss) hs (record { reads = b.punched; within = b.within; readable = ok }) long ∙ sym w)
    (some_test (length given.holes.now + end) (into_tagged_from a (stretch_to ss to) [] 0 hs) (has_piece m w) (has_none m))
  where
    -- no bytes behind the segments, no holes
    none_left : length given.holes.now ≡ 0 → hs ≡ []
    none_left h = read_no_holes hs (rw (holes_none given.holes.now h) at b.punched.reads)

    -- without holes the columns are the segments
    plain : length given.holes.now ≡ 0 → walk_end end 0 hs ≡ end
    plain h = ap (walk_end end 0) (none_left h) ∙ end_plain end

    has_piece : length (stretch_to ss to) ≡ end → width (into_tagged_from a (stretch_to ss to) [] 0 hs) ≡ walk_end end 0 hs → 0 < length given.holes.now + end
        → 1 ≤ length (into_tagged_from a (stretch_to ss to) [] 0 hs)
    has_piece m w h =
        ⊎_elim
        (λ (x : 0 < length given.holes.now). tagged_holes a (stretch_to ss to) hs (some_of LaysFirst (read_holes (raw_holes given.holes.now)) hs b.punched.reads
        (lays_first (raw_holes given.holes.now) (holes_some given.holes.now x))))
        (λ (x : length given.holes.now ≤ 0). let z : length given.holes.now ≡ 0 = omega arith in wide_some (into_tagged_from a (stretch_to ss to) [] 0 hs) (omega (arith, w, plain z)))
        (lt_or_le 0 (length given.holes.now))

    has_none : length (stretch_to ss to) ≡ end → length given.holes.now + end ≡ 0 → into_tagged_from a (stretch_to ss to) [] 0 hs ≡ []
    has_none m h = ap (into_tagged_from a (stretch_to ss to) [] 0) (none_left (omega arith)) ∙ tagged_nothing a (stretch_to ss to) (omega (arith, m))

-- ---- a line

read_text_lem : (q : Option (List Piece)) (ps : List Piece) → map text q ≡ some (text ps) → q ≡ some ps
read_text_lem none ps e = absurd (let z : ◌≡◌ {A = ℕ} 0 1 = cc in omega arith)
read_text_lem (some x) ps e = cc

no_border : (q : Option (List Piece)) (a : ℕ) (ss : List ℕ) (hs : List Hole) → map text q ≡ some (border a ss hs) → ⊥
no_border none a ss hs e = let z : ◌≡◌ {A = ℕ} 0 1 = cc in omega arith
no_border (some x) a ss hs e = let z : ◌≡◌ {A = ℕ} 0 1 = cc in omega arith

-- an L field is a text
pub text_line : (l : ℕ) (s : List ℕ) (to : ℕ) (r : Maybe ℕ) → l ≡ 0x4C → CountsText s to r → CountsLine (whole l s) to r
unfolding read_line filled
text_line l s to r h c (text ps) o e ok = c o.annotation ps (read_text_lem (read_all read_piece (raws s)) ps (rw (eq-eqb l 0x4C h) at e)) ok
text_line l s to r h c (border a ss hs) o e ok = absurd (no_border (read_all read_piece (raws s)) a ss hs (rw (eq-eqb l 0x4C h) at e))

-- a line that is a border
abbrev pub IsBorder : RenderLine → Type 0
IsBorder (text ps) = ⊥
IsBorder (border a ss hs) = Unit {0}

plain_border_lem : (s : List ℕ) → OnSome IsBorder (read_border s)
plain_border_lem [] = tt
plain_border_lem (a ∷ ss) = by_if (OnSome IsBorder) (all is_segment ss) (λ _. tt) (λ _. tt)

punched_border : (a : ℕ) (ss : List ℕ) (o : Option (List Hole)) → OnSome IsBorder (holed a ss o)
punched_border a ss none = tt
punched_border a ss (some []) = tt
punched_border a ss (some (h ∷ hs)) = by_if (OnSome IsBorder) (all is_segment ss && all (ends_within (length ss)) (h ∷ hs)) (λ _. tt) (λ _. tt)

holed_border_lem : (s : List ℕ) → OnSome IsBorder (read_holed s)
unfolding read_holed
holed_border_lem [] = tt
holed_border_lem (a ∷ []) = tt
holed_border_lem (a ∷ x ∷ []) = tt
holed_border_lem (a ∷ x ∷ o ∷ s) =
    by_if (OnSome IsBorder) (leb (x * 256 + o) (length s))
    (λ _. punched_border a (take (x * 256 + o) s) (read_holes (raw_holes (drop (x * 256 + o) s)))) (λ _. tt)

pub line_border : (l : ℕ) (s : List ℕ) → (l ≡ 0x4C → ⊥) → OnSome IsBorder (read_line (whole l s))
unfolding read_line
line_border l s n =
    rw (ne_eqb l 0x4C n)
    (by_if (OnSome IsBorder) (eqb l 0x42) (λ _. plain_border_lem s) (λ _. by_if (OnSome IsBorder) (eqb l 0x47) (λ _. holed_border_lem s) (λ _. tt)))

-- another is a border
pub border_line : (l : ℕ) (s : List ℕ) (to : ℕ) (p : Border) (r : Maybe ℕ) → (l ≡ 0x4C → ⊥) → ReadsBorder l s p → CountsBorder p to r
    → CountsLine (whole l s) to r
unfolding filled border_into_tagged_line
border_line l s to p r n f c (text ps) o e ok = absurd (some_of IsBorder (read_line (whole l s)) (text ps) e (line_border l s n))
border_line l s to p r n f c (border a ss hs) o e ok = c a ss hs (f a ss hs e) ok

-- ---- what the columns tell

-- whether a line has a piece
pub has_pieces : (r : Maybe ℕ) (ps : List Piece) → Counts r ps → is_some r ≡ leb 1 (length ps)
has_pieces r [] e = rw e refl
has_pieces r (p ∷ ps) e = rw e (sym (le-leb 1 (length (p ∷ ps)) (omega arith)))

-- its columns
pub own_cols : (r : Maybe ℕ) (ps : List Piece) → Counts r ps → unwrap_or r 0 ≡ width ps
unfolding width
own_cols r [] e = rw e refl
own_cols r (p ∷ ps) e = rw e refl
