-- Laws of the refusals of holes: one hole, the holes from a place on, and the content of a G field.
-- Assumes nothing.
use mathlib.Core.Path.{◌≡◌, refl, sym, ap, ◌∙◌}
use mathlib.Core.Bool.{Bool, true, false}
use mathlib.Core.Option.{Option, none, some, map}
use mathlib.Core.List.{List, [], ◌∷◌}
use Prim.Native.Nat.{ℕ, ◌+◌, ◌-◌, ◌*◌, ◌≤◌, ◌<◌}
use native.Mathlib.Omega.{arith}
use lib.Dec.{leb, eqb}
use lib.ListN.{length, take, drop, get_or, length-drop, drop_of_length-le}
use lib.Seq.{length-take-le}
use borrow.Author.Tests.{le-leb, ne_eqb}
use Rattle.std.specs.Prelude.{if◌then◌else◌}
use Rattle.characters.proofs.Tests.{by_if}
use Rattle.fields.specs.Field.{Raw, whole, all}
use Rattle.fields.specs.First.{first_of, refusal_of, unless}
use Rattle.fields.specs.Sheet.{Piece, str, fragment, read_str, read_piece, is_segment, readable_piece}
use Rattle.fields.specs.Walk.{piece_refusal}
use Rattle.fields.specs.Widths.{text_width, piece_width}
use Rattle.fields.proofs.First.{first_assoc, first_one, first_zero, one_first}
use Rattle.fields.proofs.Texts.{rest}
use Rattle.fields.specs.Spans.{Hole, hole, RawHole, punched, torn, raw_holes_f, raw_holes, read_hole, read_holes, holed, read_holed, read_line, readable_line}
use Rattle.fields.specs.SpanRefusals.{judged_hole, hole_refusal, holes_refusal, line_refusal}
use Rattle.rows.proofs.Refusing.{holed_line}
use Rattle.places.proofs.HolesLaws.{holes_nil}
use Rattle.checks.specs.Walk.{past_refusal}

-- ---- one hole

-- a piece that passes is measured, and one that does not is refused as it is
measured : (n p : ℕ) (q : Piece) (b : Bool) → readable_piece q ≡ b → judged_hole n (hole p q) ≡ (if b then past_refusal n (p + piece_width q) else 3)
measured n p q true e = rw e
measured n p q false e = rw e

-- A field that does not pass.
pub hole_refused : (n p : ℕ) (r : Raw) (x : ℕ) → x ≡ piece_refusal r → (x ≡ 0 → ⊥) → x ≡ hole_refusal n (punched p r)
unfolding piece_refusal hole_refusal read_hole
hole_refused n p r x e k = go (read_piece r) e
  where
    go : (o : Option Piece) → x ≡ refusal_of (λ q. unless (readable_piece q)) o → x ≡ refusal_of (judged_hole n) (map (hole p) o)
    go none e = e
    go (some q) e = pick (readable_piece q) refl e
      where
        pick : (b : Bool) → readable_piece q ≡ b → x ≡ unless b → x ≡ judged_hole n (hole p q)
        pick true t e = absurd (k e)
        pick false t e = e ∙ sym (measured n p q false t)

-- one that passes
passed : (n p : ℕ) (q : Piece) → 0 ≡ unless (readable_piece q) → past_refusal n (p + piece_width q) ≡ judged_hole n (hole p q)
passed n p q e = go (readable_piece q) refl e
  where
    go : (b : Bool) → readable_piece q ≡ b → 0 ≡ unless b → past_refusal n (p + piece_width q) ≡ judged_hole n (hole p q)
    go true t e = sym (measured n p q true t)
    go false t e = absurd (omega arith)

-- A name has no columns.
pub hole_name : (n p l : ℕ) (c : List ℕ) → 0 ≡ piece_refusal (whole l c) → l ≡ 0x46 → past_refusal n p ≡ hole_refusal n (punched p (whole l c))
unfolding piece_refusal hole_refusal read_hole read_piece
hole_name n p l c e k =
    let z : p + 0 ≡ p = omega arith in
    rw k (ap (past_refusal n) (sym z) ∙ passed n p (fragment c) (rw k at e))

-- a field that passes and is no name is a text
text_there : (l : ℕ) (c : List ℕ) → 0 ≡ piece_refusal (whole l c) → (l ≡ 0x46 → ⊥)
    → (2 ≤ length c) × (read_piece (whole l c) ≡ some (str (get_or c 0 0) (drop 1 c)))
unfolding piece_refusal read_piece
text_there l c e k = go (eqb l 0x53) (rw (ne_eqb l 0x46 k) at e)
  where
    has : (t : List ℕ) → 0 ≡ refusal_of (λ q. unless (readable_piece q)) (read_str t) → (2 ≤ length t) × (read_str t ≡ some (str (get_or t 0 0) (drop 1 t)))
    has [] e = absurd (omega arith)
    has (a ∷ []) e = absurd (omega arith)
    has (a ∷ b ∷ t) e = (omega arith, refl)

    go : (b : Bool) → 0 ≡ refusal_of (λ q. unless (readable_piece q)) (if b then read_str c else none)
        → (2 ≤ length c) × ((if b then read_str c else if eqb l 0x46 then some (fragment c) else none) ≡ some (str (get_or c 0 0) (drop 1 c)))
    go true e = has c e
    go false e = absurd (omega arith)

-- Its text has a byte.
pub text_size : (l : ℕ) (c : List ℕ) → 0 ≡ piece_refusal (whole l c) → (l ≡ 0x46 → ⊥) → 2 ≤ length c
text_size l c e k = (text_there l c e k).0

-- A text has its columns.
pub hole_text : (n p l w : ℕ) (c : List ℕ) → 0 ≡ piece_refusal (whole l c) → (l ≡ 0x46 → ⊥) → w ≡ text_width (take (length c - 1) (drop 1 c))
    → past_refusal n (p + w) ≡ hole_refusal n (punched p (whole l c))
unfolding piece_refusal hole_refusal read_hole
hole_text n p l w c e k ew =
    let t = (text_there l c e k).1 in
    rw (ew, rest c 1, t) (passed n p (str (get_or c 0 0) (drop 1 c)) (rw t at e))

-- ---- the holes from a place on: the worst so far and those left give x

abbrev pub HoleWalk : ℕ → ℕ → List RawHole → ℕ → Type 0
HoleWalk n x left worst = first_of worst (holes_refusal n left) ≡ x

-- where the walk starts
pub holes_start : (n : ℕ) (left rs : List RawHole) → left ≡ rs → HoleWalk n (holes_refusal n rs) left 0
unfolding first_of
holes_start n left rs e = rw e refl

module _ (n x : ℕ) (left : List RawHole) (worst : ℕ) (w : HoleWalk n x left worst) where
  -- a hole, judged, is behind
  pub holes_on : (r : RawHole) (more : List RawHole) (m : ℕ) → left ≡ r ∷ more → m ≡ hole_refusal n r → HoleWalk n x more (first_of worst m)
  unfolding holes_refusal
  holes_on r more m e k =
      first_assoc worst m (holes_refusal n more)
      ∙ ap (λ (y : ℕ). first_of worst (first_of y (holes_refusal n more))) k
      ∙ sym (ap (λ (rs : List RawHole). first_of worst (holes_refusal n rs)) e)
      ∙ w

  -- a rest that is no hole is refusal 1
  pub holes_torn : (more : List RawHole) → left ≡ torn ∷ more → 1 ≡ x
  unfolding holes_refusal hole_refusal read_hole
  holes_torn more e =
      sym (first_one worst)
      ∙ ap (first_of worst) (sym (one_first (holes_refusal n more)))
      ∙ sym (ap (λ (rs : List RawHole). first_of worst (holes_refusal n rs)) e)
      ∙ w

  -- nothing is left
  pub holes_end : left ≡ [] → worst ≡ x
  unfolding holes_refusal
  holes_end e = sym (first_zero worst) ∙ sym (ap (λ (rs : List RawHole). first_of worst (holes_refusal n rs)) e) ∙ w

-- ---- the content of a G field

-- bytes that are left are a hole, or a rest that is none
abbrev Some : List RawHole → Type 0
Some l = (r : RawHole) × (rs : List RawHole) × (l ≡ r ∷ rs)

some_hole : (bs : List ℕ) → 0 < length bs → Some (raw_holes bs)
unfolding raw_holes raw_holes_f
some_hole [] h = absurd (omega arith)
some_hole (p ∷ []) h = (torn, [], refl)
some_hole (p ∷ q ∷ []) h = (torn, [], refl)
some_hole (p ∷ q ∷ l ∷ []) h = (torn, [], refl)
some_hole (p ∷ q ∷ l ∷ x ∷ []) h = (torn, [], refl)
some_hole (p ∷ q ∷ l ∷ x ∷ o ∷ bs) h = by_if Some (leb (x * 256 + o) (length bs)) (λ e. (_, _, refl)) (λ e. (torn, [], refl))

-- no annotation, or no count
pub short_holed : (s : List ℕ) → length s < 3 → 1 ≡ line_refusal (whole 0x47 s)
unfolding line_refusal read_line read_holed
short_holed [] h = refl
short_holed (a ∷ []) h = refl
short_holed (a ∷ b ∷ []) h = refl
short_holed (a ∷ b ∷ c ∷ s) h = absurd (omega arith)

-- behind the annotation and the count
module _ (a b c n : ℕ) (s : List ℕ) (e : b * 256 + c ≡ n) where
  bare : (t : Bool) → leb n (length s) ≡ t → length s ≤ n → 1 ≡ line_refusal (whole 0x47 (a ∷ b ∷ c ∷ s))
  unfolding line_refusal read_line read_holed read_holes
  bare true x k = rw (e, x, drop_of_length-le s k, holes_nil)
  bare false x k = rw (e, x)

  crooked : n ≤ length s → all is_segment (take n s) ≡ false → 1 ≡ line_refusal (whole 0x47 (a ∷ b ∷ c ∷ s))
  unfolding line_refusal read_line read_holed
  crooked k t = rw (e, le-leb n (length s) k) (go (read_holes (raw_holes (drop n s))))
    where
      go : (q : Option (List Hole)) → 1 ≡ refusal_of (λ l. unless (readable_line l)) (holed a (take n s) q)
      go none = refl
      go (some []) = refl
      go (some (h ∷ hs)) = rw t

  right : n < length s → all is_segment (take n s) ≡ true → holes_refusal n (raw_holes (drop n s)) ≡ line_refusal (whole 0x47 (a ∷ b ∷ c ∷ s))
  right k t =
      let (r, rs, x) = some_hole (drop n s) (omega (arith, length-drop n s)) in
      ap (λ (m : ℕ). holes_refusal m (raw_holes (drop n s))) (sym (length-take-le n s (omega arith)))
      ∙ rw e at (holed_line a b c s r rs (omega arith) (rw e t) (rw e x))

-- the segments are not there to the last, or no hole follows
pub bare_holed : (s : List ℕ) (n : ℕ) → 3 ≤ length s → n ≡ get_or s 1 0 * 256 + get_or s 2 0 → length s ≤ 3 + n → 1 ≡ line_refusal (whole 0x47 s)
bare_holed [] n h e k = absurd (omega arith)
bare_holed (a ∷ []) n h e k = absurd (omega arith)
bare_holed (a ∷ b ∷ []) n h e k = absurd (omega arith)
bare_holed (a ∷ b ∷ c ∷ s) n h e k = bare a b c n s (sym e) (leb n (length s)) refl (omega arith)

-- a byte that is no segment
pub crooked_holed : (s : List ℕ) (n : ℕ) → n ≡ get_or s 1 0 * 256 + get_or s 2 0 → 3 + n < length s
    → all is_segment (take n (take (length s - 3) (drop 3 s))) ≡ false → 1 ≡ line_refusal (whole 0x47 s)
crooked_holed [] n e k t = absurd (omega arith)
crooked_holed (a ∷ []) n e k t = absurd (omega arith)
crooked_holed (a ∷ b ∷ []) n e k t = absurd (omega arith)
crooked_holed (a ∷ b ∷ c ∷ s) n e k t = crooked a b c n s (sym e) (omega arith) (rw (rest (a ∷ b ∷ c ∷ s) 3) at t)

-- segments, and holes behind them
pub right_holed : (s : List ℕ) (n : ℕ) → n ≡ get_or s 1 0 * 256 + get_or s 2 0 → 3 + n < length s
    → all is_segment (take n (take (length s - 3) (drop 3 s))) ≡ true
    → holes_refusal n (raw_holes (drop n (take (length s - 3) (drop 3 s)))) ≡ line_refusal (whole 0x47 s)
right_holed [] n e k t = absurd (omega arith)
right_holed (a ∷ []) n e k t = absurd (omega arith)
right_holed (a ∷ b ∷ []) n e k t = absurd (omega arith)
right_holed (a ∷ b ∷ c ∷ s) n e k t =
    rw (rest (a ∷ b ∷ c ∷ s) 3) (right a b c n s (sym e) (omega arith) (rw (rest (a ∷ b ∷ c ∷ s) 3) at t))
