-- The walk over a border's holes that looks for an overlap.
-- Assumes nothing.
use mathlib.Core.Path.{◌≡◌, refl, sym, ap, ◌∙◌}
use mathlib.Core.Bool.{Bool, true, false, not, ◌&&◌, ◌||◌}
use mathlib.Core.List.{List, [], ◌∷◌}
use mathlib.Core.Logic.{◌⊎◌, ⊎_elim}
use mathlib.Core.Option.{some}
use Prim.Native.Nat.{ℕ, ◌+◌, ◌≤◌, ◌<◌}
use native.Mathlib.Omega.{arith}
use lib.Dec.{leb}
use lib.ListN.{length}
use borrow.Author.Tests.{le-leb, lt-leb}
use Rattle.fields.specs.Field.{whole}
use Rattle.fields.specs.Widths.{piece_width}
use Rattle.fields.specs.Spans.{Hole, RawHole, punched, torn, raw_holes, read_holes}
use Rattle.fields.specs.Places.{HolesIn}
use Rattle.rows.specs.Columns.{overlaps}
use Rattle.places.proofs.HolesLaws.{read_first_hole, read_torn, read_no_holes}
use Rattle.holes.specs.Cols.{CountsPiece}
use Rattle.holes.specs.Overlap.{FindsOverlap}

-- what is left of the holes, and the walk stands at pos
abbrev pub Looks : List ℕ → ℕ → ℕ → List RawHole → Type 0
Looks holes count pos left =
    (segs : List ℕ) (hs : List Hole) → HolesIn holes hs → length segs ≡ count
    → (rs : List Hole) × (read_holes left ≡ some rs) × (overlaps segs pos rs ≡ overlaps segs 0 hs)

-- before the first
pub look_start : (holes : List ℕ) (count : ℕ) (left : List RawHole) → left ≡ raw_holes holes → Looks holes count 0 left
look_start holes count left x segs hs g e = (hs, rw x g.reads, refl)

one_more : (segs : List ℕ) (pos : ℕ) (h : Hole) (rs : List Hole) → pos ≤ h.place → h.place ≤ length segs
    → overlaps segs pos (h ∷ rs) ≡ overlaps segs (h.place + piece_width h.piece) rs
unfolding overlaps
one_more segs pos h rs k l = rw (le-leb pos h.place k, le-leb h.place (length segs) l)

no_more : (segs : List ℕ) (pos : ℕ) (h : Hole) (rs : List Hole) → h.place < pos → overlaps segs pos (h ∷ rs) ≡ true
unfolding overlaps
no_more segs pos h rs k = rw (lt-leb pos h.place k)

past_end : (segs : List ℕ) (pos : ℕ) (h : Hole) (rs : List Hole) → length segs < h.place → overlaps segs pos (h ∷ rs) ≡ true
unfolding overlaps
past_end segs pos h rs k = rw (lt-leb h.place (length segs) k) (go (leb pos h.place))
  where
    go : (b : Bool) → (not (b && false) || overlaps segs (h.place + piece_width h.piece) rs) ≡ true
    go true = refl
    go false = refl

module _ (holes : List ℕ) (count pos : ℕ) (left : List RawHole) (w : Looks holes count pos left) where
  -- a hole that stands apart
  pub look_on : (p l : ℕ) (t : List ℕ) (more : List RawHole) (c : ℕ) → left ≡ punched p (whole l t) ∷ more → CountsPiece (whole l t) c → pos ≤ p → p ≤ count → Looks holes count (p + c) more
  look_on p l t more c x k lo hi segs hs g e =
      let (rs, gr, eq) = w segs hs g e in
      let f = read_first_hole p l t more rs (rw x at gr) in
      let h = f.one in
      let m : p + c ≡ h.place + piece_width h.piece = omega (arith, k h.piece f.reads, f.place_is) in
      (f.more, f.goes, ap (λ (i : ℕ). overlaps segs i f.more) m ∙ sym (one_more segs pos h f.more (omega (arith, f.place_is)) (omega (arith, f.place_is))) ∙ sym (ap (overlaps segs pos) f.are) ∙ eq)

  -- one that begins before the last ends, or past the last segment
  pub look_over : (p l : ℕ) (t : List ℕ) (more : List RawHole) → left ≡ punched p (whole l t) ∷ more → (p < pos) ⊎ ((pos ≤ p) × (count < p)) → FindsOverlap holes count true
  look_over p l t more x over segs hs g e =
      let (rs, gr, eq) = w segs hs g e in
      let f = read_first_hole p l t more rs (rw x at gr) in
      let first : overlaps segs pos (f.one ∷ f.more) ≡ true =
      ⊎_elim (λ lo. no_more segs pos f.one f.more (omega (arith, f.place_is))) (λ hi. past_end segs pos f.one f.more (omega (arith, f.place_is, hi.1))) over in
      sym first ∙ sym (ap (overlaps segs pos) f.are) ∙ eq

  -- a rest that is no hole is not there
  pub look_torn : (more : List RawHole) → left ≡ torn ∷ more → FindsOverlap holes count false
  look_torn more x segs hs g e = let (rs, gr, eq) = w segs hs g e in absurd (read_torn more rs (rw x at gr))

  -- past the last
  pub look_end : left ≡ [] → FindsOverlap holes count false
  unfolding overlaps
  look_end x segs hs g e = let (rs, gr, eq) = w segs hs g e in sym (ap (overlaps segs pos) (read_no_holes rs (rw x at gr))) ∙ eq
