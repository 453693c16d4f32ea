-- The walk over the pieces of a line that is filled to a width.
-- Assumes nothing.
use mathlib.Core.Path.{◌≡◌, refl, sym, ap, ap₂, ◌∙◌}
use mathlib.Core.Bool.{Bool, true, false}
use mathlib.Core.Option.{Option, none, some}
use mathlib.Core.List.{List, [], ◌∷◌, ◌++◌, append-nil}
use Prim.Native.Nat.{ℕ, zero, suc, ◌+◌, ◌-◌, ◌*◌, ◌≤◌, ◌<◌}
use native.Mathlib.Omega.{arith}
use lib.Dec.{eqb, leb}
use lib.ListN.{length, replicate, length-append, length-replicate}
use borrow.Author.Tests.{eq-eqb, ne_eqb, eqb-true}
use Rattle.std.specs.Prelude.{if◌then◌else◌, Some, None}
use Rattle.std.specs.List.{starts_with}
use Rattle.characters.proofs.Tests.{by_if, and_left, clash}
use Rattle.fields.specs.Field.{Raw, whole, broken, raws_f, raws, read_all, head, field}
use Rattle.fields.specs.List.{whole_of}
use Rattle.fields.specs.Sheet.{Piece, str, fragment, read_str, read_piece, piece_bytes}
use Rattle.fields.specs.Widths.{text_width, piece_width, width}
use Rattle.fields.proofs.Back.{Every}
use Rattle.fields.proofs.Fields.{raws_empty}
use Rattle.tagged_line.specs.Pieces.{PiecesOf}
use Rattle.fields.proofs.Readings.{read_first, read_none, read_size}
use Rattle.fields.specs.TaggedLine.{WellFormedPiece, join, push_str, push_ws, pad_to}
use Rattle.rows.proofs.Lines.{text_width_append, spaces_formed, spaces_width}
use Rattle.rows.proofs.Reading.{OnSome, some_of}
use Rattle.holes.specs.Cols.{CountsPiece}
use Rattle.row_holes.specs.declared.filled.Part.{Part}
use Rattle.row_holes.specs.declared.filled.Filled.{Filled}
use Rattle.row_holes.specs.Filled.{takes, takes_if, NextPart}

-- ---- `taken`

-- the spaces that the piece of a letter and a content takes in
abbrev pub Takes : Bool → ℕ → List ℕ → List ℕ → ℕ → ℕ → Type 0
Takes last l t annotation n r = (a : ℕ) (q : Piece) → annotation ≡ a ∷ [] → read_piece (whole l t) ≡ some q → r ≡ takes_if last a q n

pub takes_not_last : (last : Bool) (l : ℕ) (t annotation : List ℕ) (n : ℕ) → last ≡ false → Takes last l t annotation n 0
takes_not_last last l t annotation n e a q ea x = rw e

name_takes : (l : ℕ) (t : List ℕ) (last : Bool) (a n : ℕ) → OnSome (λ (q : Piece). 0 ≡ takes_if last a q n) (if eqb l 0x46 then some (fragment t) else none)
name_takes l t true a n = by_if (OnSome (λ (q : Piece). 0 ≡ takes_if true a q n)) (eqb l 0x46) (λ _. refl) (λ _. tt)
name_takes l t false a n = by_if (OnSome (λ (q : Piece). 0 ≡ takes_if false a q n)) (eqb l 0x46) (λ _. refl) (λ _. tt)

pub takes_name : (last : Bool) (l : ℕ) (t annotation : List ℕ) (n : ℕ) → (l ≡ 0x53 → ⊥) → Takes last l t annotation n 0
unfolding read_piece
takes_name last l t annotation n h a q ea x =
    some_of (λ (p : Piece). 0 ≡ takes_if last a p n) (if eqb l 0x46 then some (fragment t) else none) q (rw (ne_eqb l 0x53 h) at x) (name_takes l t last a n)

-- a text takes them where the annotations are equal
own_takes : (t : List ℕ) (a n : ℕ) → starts_with eqb t (a ∷ []) ≡ true → OnSome (λ (q : Piece). n ≡ takes a q n) (read_str t)
own_takes [] a n e = tt
own_takes (c ∷ []) a n e = tt
own_takes (c ∷ d ∷ t) a n e =
    let k : c ≡ a = sym (eqb-true a c (and_left (eqb a c) true e)) in
    rw (eq-eqb c a k) refl

other_takes : (t : List ℕ) (a n : ℕ) → starts_with eqb t (a ∷ []) ≡ false → OnSome (λ (q : Piece). 0 ≡ takes a q n) (read_str t)
other_takes [] a n e = tt
other_takes (c ∷ []) a n e = tt
other_takes (c ∷ d ∷ t) a n e = rw (ne_eqb c a (λ k. clash (rw (eq-eqb a c (sym k)) refl) e)) refl

pub takes_own : (last : Bool) (l : ℕ) (t annotation : List ℕ) (n : ℕ) → last ≡ true → l ≡ 0x53 → starts_with eqb t annotation ≡ true → Takes last l t annotation n n
unfolding read_piece
takes_own last l t annotation n y e h a q ea x =
    rw y (some_of (λ (p : Piece). n ≡ takes a p n) (read_str t) q (rw (eq-eqb l 0x53 e) at x) (own_takes t a n (rw ea at h)))

pub takes_other : (last : Bool) (l : ℕ) (t annotation : List ℕ) (n : ℕ) → last ≡ true → l ≡ 0x53 → starts_with eqb t annotation ≡ false → Takes last l t annotation n 0
unfolding read_piece
takes_other last l t annotation n y e h a q ea x =
    rw y (some_of (λ (p : Piece). 0 ≡ takes a p n) (read_str t) q (rw (eq-eqb l 0x53 e) at x) (other_takes t a n (rw ea at h)))

-- ---- one piece of a filled line

-- a text with spaces behind it
abbrev with_spaces : Piece → ℕ → Piece
with_spaces (str b t) n = str b (t ++ replicate n 0x20)
with_spaces (fragment name) n = fragment name

-- spaces pushed
abbrev pushed : List Piece → ℕ → ℕ → List Piece
pushed l a n = push_str l a (replicate n 0x20)

pushed_none : (l : List Piece) (a n : ℕ) → n ≡ 0 → pushed l a n ≡ l
unfolding push_str
pushed_none l a zero e = refl
pushed_none l a (suc n) e = absurd (omega arith)

pushed_some : (a n m : ℕ) → 1 ≤ n → n ≡ m → pushed [] a m ≡ str a (replicate n 0x20) ∷ []
unfolding push_str join
pushed_some a zero m h e = absurd (omega arith)
pushed_some a (suc n) m h e = rw (← e) refl

pushed_under : (q y : Piece) (l : List Piece) (a n : ℕ) → pushed (q ∷ y ∷ l) a n ≡ q ∷ pushed (y ∷ l) a n
unfolding push_str join
pushed_under q y l a zero = refl
pushed_under q y l a (suc n) = refl

pushed_name : (f : List ℕ) (a n : ℕ) → pushed (fragment f ∷ []) a n ≡ fragment f ∷ pushed [] a n
unfolding push_str join
pushed_name f a zero = refl
pushed_name f a (suc n) = refl

pushed_other : (b : ℕ) (t : List ℕ) (a n : ℕ) → eqb b a ≡ false → pushed (str b t ∷ []) a n ≡ str b t ∷ pushed [] a n
unfolding push_str join
pushed_other b t a zero e = refl
pushed_other b t a (suc n) e = rw e refl

pushed_own : (b : ℕ) (t : List ℕ) (a n : ℕ) → eqb b a ≡ true → pushed (str b t ∷ []) a n ≡ str b (t ++ replicate n 0x20) ∷ []
unfolding push_str join
pushed_own b t a zero e = rw (append-nil t) refl
pushed_own b t a (suc n) e = rw e refl

no_spaces : (q : Piece) → with_spaces q 0 ≡ q
no_spaces (str b t) = ap (str b) (append-nil t)
no_spaces (fragment f) = refl

-- the last piece
fill_last : (q : Piece) (w a : ℕ) → pad_to (q ∷ []) w a ≡ with_spaces q (takes a q (w - piece_width q)) ∷ pad_to [] (w - (piece_width q + takes a q (w - piece_width q))) a
unfolding pad_to push_ws width
fill_last (fragment f) w a =
    let e : w - (0 + 0) ≡ w - (0 + 0) - 0 = omega arith in
    pushed_name f a (w - (0 + 0)) ∙ ap (λ (n : ℕ). fragment f ∷ pushed [] a n) e
fill_last (str b t) w a =
    let k = piece_width (str b t) in
    let x : w - (k + 0) ≡ w - k = omega arith in
    let y : w - (k + 0) ≡ w - (k + 0) - 0 = omega arith in
    by_if (λ (m : ℕ). pushed (str b t ∷ []) a (w - (k + 0)) ≡ with_spaces (str b t) m ∷ pushed [] a (w - (k + m) - 0)) (eqb b a)
    (λ e. pushed_own b t a (w - (k + 0)) e ∙ ap (λ (n : ℕ). str b (t ++ replicate n 0x20) ∷ []) x
    ∙ ap (λ (l : List Piece). str b (t ++ replicate (w - k) 0x20) ∷ l) (sym (pushed_none [] a (w - (k + (w - k)) - 0) (omega arith))))
    (λ e. pushed_other b t a (w - (k + 0)) e ∙ ap (λ (n : ℕ). str b t ∷ pushed [] a n) y
    ∙ ap (λ (q : Piece). q ∷ pushed [] a (w - (k + 0) - 0)) (sym (no_spaces (str b t))))

-- one before others
fill_under : (q y : Piece) (l : List Piece) (w a : ℕ) → pad_to (q ∷ y ∷ l) w a ≡ with_spaces q 0 ∷ pad_to (y ∷ l) (w - (piece_width q + 0)) a
unfolding pad_to push_ws width
fill_under q y l w a =
    let e : w - width (q ∷ y ∷ l) ≡ w - (piece_width q + 0) - width (y ∷ l) = omega arith in
    pushed_under q y l a (w - width (q ∷ y ∷ l))
    ∙ ap (λ (n : ℕ). q ∷ pushed (y ∷ l) a n) e
    ∙ ap (λ (p : Piece). p ∷ pushed (y ∷ l) a (w - (piece_width q + 0) - width (y ∷ l))) (sym (no_spaces q))

-- A FILLED LINE PIECE BY PIECE: `last` tells whether others come behind the first.
fill_first : (q : Piece) (l : List Piece) (w a : ℕ) (last : Bool) → (last ≡ true → l ≡ []) → (last ≡ false → 1 ≤ length l)
    → pad_to (q ∷ l) w a ≡ with_spaces q (takes_if last a q (w - piece_width q)) ∷ pad_to l (w - (piece_width q + takes_if last a q (w - piece_width q))) a
fill_first q l w a true e n = rw (e refl) (fill_last q w a)
fill_first q [] w a false e n = absurd (let h = n refl in omega (arith, h))
fill_first q (y ∷ l) w a false e n = fill_under q y l w a

-- with no piece
pub fill_none : (w a : ℕ) → 1 ≤ w → pad_to [] w a ≡ str a (replicate w 0x20) ∷ []
unfolding pad_to push_ws width
fill_none w a h = pushed_some a w (w - 0) h (omega arith)

-- its columns
fill_width : (q : Piece) (last : Bool) (a n : ℕ) → WellFormedPiece q → piece_width (with_spaces q (takes_if last a q n)) ≡ piece_width q + takes_if last a q n
fill_width q false a n f = ap piece_width (no_spaces q) ∙ omega arith
fill_width (fragment x) true a n f = omega arith
fill_width (str b t) true a n f =
    let m = takes a (str b t) n in
    text_width_append t (replicate m 0x20) f (spaces_formed m) ∙ ap (λ (k : ℕ). text_width t + k) (spaces_width m)

-- ---- its bytes

-- a field with spaces behind its content
abbrev spaced : ℕ → List ℕ → ℕ → List ℕ
spaced l t m = head l (length t + m) ++ (t ++ replicate m 0x20)

spaced_str : (b c : ℕ) (t : List ℕ) (m : ℕ) → piece_bytes (str b ((c ∷ t) ++ replicate m 0x20)) ≡ spaced 0x53 (b ∷ c ∷ t) m
unfolding field
spaced_str b c t m =
    let e : length (b ∷ ((c ∷ t) ++ replicate m 0x20)) ≡ length (b ∷ c ∷ t) + m = rw (length-append, length-replicate) (omega arith) in
    ap (λ (k : ℕ). head 0x53 k ++ (b ∷ ((c ∷ t) ++ replicate m 0x20))) e

spaced_name : (f : List ℕ) → piece_bytes (fragment f) ≡ spaced 0x46 f 0
unfolding field
spaced_name f =
    let e : length f ≡ length f + 0 = omega arith in
    ap (λ (k : ℕ). head 0x46 k ++ f) e ∙ ap (λ (x : List ℕ). head 0x46 (length f + 0) ++ x) (sym (append-nil f))

-- the bytes of a piece with the spaces that it takes in
abbrev Spaced : Bool → ℕ → ℕ → ℕ → List ℕ → Piece → Type 0
Spaced last a n l t q = piece_bytes (with_spaces q (takes_if last a q n)) ≡ spaced l t (takes_if last a q n)

str_spaced : (t : List ℕ) (last : Bool) (a n : ℕ) → OnSome (Spaced last a n 0x53 t) (read_str t)
str_spaced [] last a n = tt
str_spaced (b ∷ []) last a n = tt
str_spaced (b ∷ c ∷ t) last a n = spaced_str b c t (takes_if last a (str b (c ∷ t)) n)

name_spaced : (l : ℕ) (t : List ℕ) (last : Bool) (a n : ℕ) → OnSome (Spaced last a n l t) (if eqb l 0x46 then some (fragment t) else none)
name_spaced l t true a n = by_if (OnSome (Spaced true a n l t)) (eqb l 0x46) (λ e. rw (eqb-true l 0x46 e) (spaced_name t)) (λ _. tt)
name_spaced l t false a n = by_if (OnSome (Spaced false a n l t)) (eqb l 0x46) (λ e. rw (eqb-true l 0x46 e) (spaced_name t)) (λ _. tt)

fill_bytes : (l : ℕ) (t : List ℕ) (q : Piece) (last : Bool) (a n : ℕ) → read_piece (whole l t) ≡ some q → Spaced last a n l t q
unfolding read_piece
fill_bytes l t q last a n =
    by_if (λ (r : Option Piece). r ≡ some q → Spaced last a n l t q) (eqb l 0x53)
    (λ e x. some_of (Spaced last a n l t) (read_str t) q x (rw (eqb-true l 0x53 e) (str_spaced t last a n)))
    (λ e x. some_of (Spaced last a n l t) (if eqb l 0x46 then some (fragment t) else none) q x (name_spaced l t last a n))

-- ---- `next`

raws_some : (b : List ℕ) → 1 ≤ length b → length (raws b) ≡ 0 → ⊥
unfolding raws raws_f
raws_some [] h z = omega arith
raws_some (l ∷ []) h z = omega (arith, z)
raws_some (l ∷ h ∷ []) k z = omega (arith, z)
raws_some (l ∷ h ∷ o ∷ rest) k z = by_if (λ (rs : List Raw). length rs ≡ 0 → ⊥) (leb (h * 256 + o) (length rest)) (λ _ e. omega (arith, e)) (λ _ e. omega (arith, e)) z

-- pieces come where bytes are left, and only there
more_behind : (s : List ℕ) (l : List Piece) → PiecesOf s l → 0 < length s → 1 ≤ length l
more_behind s [] e h = absurd (raws_some s (omega (arith, h)) (read_size read_piece (raws s) [] e))
more_behind s (q ∷ l) e h = omega arith

none_behind : (s : List ℕ) (l : List Piece) → PiecesOf s l → length s ≡ 0 → l ≡ []
none_behind s l e h = read_none read_piece l (sym (ap (read_all read_piece) (raws_empty s h)) ∙ e)

some_length : (n : ℕ) → eqb n 0 ≡ false → 0 < n
some_length zero e = absurd (clash refl e)
some_length (suc n) e = omega arith

-- filled to no width
pub pad_none : (l : List Piece) (a : ℕ) → pad_to l 0 a ≡ l
unfolding pad_to push_ws
pad_none l a = pushed_none l a (0 - width l) (omega arith)

-- A PIECE: `last` tells whether bytes are left behind it.
pub next_piece : (f : Filled) (p : Part) (rest : Filled) (c short : ℕ) (last : Bool)
    → raws f.rest.now ≡ whole p.field.letter p.field.content.now ∷ raws rest.rest.now → length f.rest.now ≡ 3 + length p.field.content.now + length rest.rest.now
    → CountsPiece (whole_of p.field) c → short ≡ f.missing - c → last ≡ eqb (length rest.rest.now) 0
    → p.spaces ≤ short → Takes last p.field.letter p.field.content.now f.annotation.now short p.spaces
    → p.cols ≡ c + p.spaces → rest.missing ≡ short - p.spaces → rest.annotation.now ≡ f.annotation.now → NextPart f (Some p) rest
next_piece f p rest c short last fields size counts es behind low takes-them cols missing same =
    record {
      part_in = record { less = omega (arith, size, es, low, missing); few = omega (arith, size, es, low, missing) };
      gives = λ a qs left.
          let l = p.field.letter in
          let t = p.field.content.now in
          let y = read_first read_piece (whole l t) (raws rest.rest.now) left.pieces (sym (ap (read_all read_piece) fields) ∙ left.reads) in
          let q = y.one in
          let g : Every WellFormedPiece (q ∷ y.more) = rw y.are at left.formed in
          let cq : c ≡ piece_width q = counts q y.first in
          let mq : p.spaces ≡ takes_if last a q short = takes-them a q left.annotation_is y.first in
          let sh : f.missing - piece_width q ≡ short = omega (arith, es, cq) in
          let le : f.missing - (c + p.spaces) ≡ rest.missing = omega (arith, es, low, missing) in
          let fill : pad_to (q ∷ y.more) f.missing a ≡ with_spaces q p.spaces ∷ pad_to y.more rest.missing a =
          fill_first q y.more f.missing a last (λ e. none_behind rest.rest.now y.more y.later (eqb-true (length rest.rest.now) 0 (sym behind ∙ e)))
          (λ e. more_behind rest.rest.now y.more y.later (some_length (length rest.rest.now) (sym behind ∙ e)))
          ∙ ap (λ (k : ℕ). with_spaces q (takes_if last a q k) ∷ pad_to y.more (f.missing - (piece_width q + takes_if last a q k)) a) sh
          ∙ rw (← mq, ← cq) (ap (λ (k : ℕ). with_spaces q p.spaces ∷ pad_to y.more k a) le) in
          record {
            one = with_spaces q p.spaces;
            more = pad_to y.more rest.missing a;
            are = left.are ∙ ap (λ (z : List Piece). pad_to z f.missing a) y.are ∙ fill;
            part_is =
                record {
                  bytes_are = rw mq (fill_bytes l t q last a short y.first);
                  cols_are = ap (λ (k : ℕ). piece_width (with_spaces q k)) mq ∙ fill_width q last a short g.0 ∙ ap₂ (λ (i j : ℕ). i + j) (sym cq) (sym mq) ∙ sym cols;
                };
            goes = record { pieces = y.more; reads = y.later; formed = g.1; annotation_is = same ∙ left.annotation_is; are = refl };
          };
    }

-- THE SPACES ALONE.
pub next_spaces : (f : Filled) (p : Part) (rest : Filled) → eqb (length f.rest.now) 0 ≡ true → 0 < f.missing → p.field.letter ≡ 0x53 → p.field.content.now ≡ f.annotation.now → p.spaces ≡ f.missing
    → p.cols ≡ f.missing → length f.annotation.now ≡ 1 → rest.rest.now ≡ f.rest.now → rest.missing ≡ 0 → rest.annotation.now ≡ f.annotation.now → NextPart f (Some p) rest
unfolding field
next_spaces f p rest empty some-of el ec es ek one er em ea =
    let end = eqb-true (length f.rest.now) 0 empty in
    record {
      part_in =
          let n : length p.field.content.now ≡ 1 = ap length ec ∙ one in
          let m = ap length er in
          record { less = omega (arith, m, em, some-of); few = omega (arith, m, em, some-of, es, n) };
      gives = λ a qs left.
          let none_left = none_behind f.rest.now left.pieces left.reads end in
          let spaces = replicate f.missing 0x20 in
          let content : p.field.content.now ≡ a ∷ [] = ec ∙ left.annotation_is in
          let size : length (a ∷ spaces) ≡ 1 + f.missing = rw length-replicate (omega arith) in
          record {
            one = str a spaces;
            more = [];
            are = left.are ∙ ap (λ (z : List Piece). pad_to z f.missing a) none_left ∙ fill_none f.missing a some-of;
            part_is =
                record {
                  bytes_are = rw (el, content, es) (ap (λ (k : ℕ). head 0x53 k ++ (a ∷ spaces)) size);
                  cols_are = spaces_width f.missing ∙ sym ek;
                };
            goes =
                record {
                  pieces = [];
                  reads = ap (λ (z : List ℕ). read_all read_piece (raws z)) er ∙ (rw none_left at left.reads);
                  formed = tt;
                  annotation_is = ea ∙ left.annotation_is;
                  are = sym (ap (λ (k : ℕ). pad_to [] k a) em ∙ pad_none [] a);
                };
          };
    }

-- NOTHING IS LEFT: no bytes, and no column is missing.
pub next_none : (f rest : Filled) → eqb (length f.rest.now) 0 ≡ true → f.missing ≡ 0 → NextPart f None rest
next_none f rest end full =
    record {
      part_in = tt;
      gives = λ a qs left.
          left.are ∙ ap (λ (z : List Piece). pad_to z f.missing a) (none_behind f.rest.now left.pieces left.reads (eqb-true (length f.rest.now) 0 end)) ∙ ap (λ (k : ℕ). pad_to [] k a) full ∙ pad_none [] a;
    }

-- The bytes that are left are no piece.
pub next_broken : (f rest : Filled) → eqb (length f.rest.now) 0 ≡ false → (0 < length f.rest.now → raws f.rest.now ≡ broken ∷ []) → NextPart f None rest
unfolding read_all read_piece
next_broken f rest some-of breaks =
    record {
      part_in = tt;
      gives = λ a qs left.
          let k : none ≡ some left.pieces = sym (ap (read_all read_piece) (breaks (some_length (length f.rest.now) some-of))) ∙ left.reads in
          absurd (let z : ◌≡◌ {A = ℕ} 0 1 = cc in omega arith);
    }
