-- The hole that bytes begin with, and the holes that the definitions read behind it.
-- Assumes nothing.
use mathlib.Core.Path.{◌≡◌, refl, sym, ◌∙◌}
use mathlib.Core.List.{List, [], ◌∷◌}
use mathlib.Core.Option.{Option, none, some, map}
use Prim.Native.Nat.{ℕ, zero, suc, ◌+◌, ◌*◌, ◌≤◌, ◌<◌}
use native.Mathlib.Omega.{arith}
use lib.Dec.{leb}
use lib.ListN.{length, take, drop, get_or, length-drop}
use lib.Seq.{length-take-le}
use borrow.Author.Tests.{leb-true}
use Rattle.characters.proofs.Tests.{by_if}
use Rattle.fields.specs.Field.{Raw, whole, broken, raws, both}
use Rattle.fields.specs.Sheet.{Piece, read_piece}
use Rattle.fields.specs.Spans.{Hole, hole, RawHole, punched, torn, raw_holes_f, raw_holes, read_hole, read_holes}
use Rattle.fields.proofs.Fields.{raws_nil}
use Rattle.fields.proofs.SpansBack.{hole_whole, hole_torn}

-- no bytes, no holes
pub holes_nil : raw_holes [] ≡ []
unfolding raw_holes raw_holes_f
holes_nil = refl

pub holes_none : (bs : List ℕ) → length bs ≡ 0 → raw_holes bs ≡ []
holes_none [] h = holes_nil
holes_none (b ∷ bs) h = absurd (omega arith)

-- less than a place
pub holes_short : (bs : List ℕ) → length bs < 2 → 0 < length bs → raw_holes bs ≡ torn ∷ []
unfolding raw_holes raw_holes_f
holes_short [] k h = absurd (omega arith)
holes_short (p ∷ []) k h = refl
holes_short (p ∷ q ∷ bs) k h = absurd (omega arith)

-- where no field is read there is no whole one
none_whole : (bs : List ℕ) (l : ℕ) (t : List ℕ) (rs : List Raw) → (0 < length bs → raws bs ≡ broken ∷ []) → raws bs ≡ whole l t ∷ rs → ⊥
none_whole [] l t rs k e = let z : [] ≡ whole l t ∷ rs = sym raws_nil ∙ e in let y : ◌≡◌ {A = ℕ} 0 1 = cc in omega arith
none_whole (b ∷ bs) l t rs k e = let z : broken ∷ [] ≡ whole l t ∷ rs = sym (k (omega arith)) ∙ e in let y : ◌≡◌ {A = ℕ} 0 1 = cc in omega arith

-- A place behind which no whole field stands.
pub holes_torn : (bs behind : List ℕ) → length behind + 2 ≡ length bs → behind ≡ drop 2 bs → (0 < length behind → raws behind ≡ broken ∷ []) → raw_holes bs ≡ torn ∷ []
holes_torn [] behind k e r = absurd (omega arith)
holes_torn (p ∷ []) behind k e r = absurd (omega arith)
holes_torn (p ∷ q ∷ bs) behind k e r = hole_torn p q bs (λ l t rs. none_whole bs l t rs (rw e at r))

-- A WHOLE HOLE: a place and the field behind it.
pub holes_first : (bs place behind rest : List ℕ) (p l : ℕ) (t : List ℕ) (others : List Raw) → length behind + 2 ≡ length bs → place ≡ take 2 bs → behind ≡ drop 2 bs
    → p ≡ get_or place 0 0 * 256 + get_or place 1 0 → raws behind ≡ whole l t ∷ others → rest ≡ drop (3 + length t) behind
    → raw_holes bs ≡ punched p (whole l t) ∷ raw_holes rest
holes_first [] place behind rest p l t others k ea eb ep r er = absurd (omega arith)
holes_first (x ∷ []) place behind rest p l t others k ea eb ep r er = absurd (omega arith)
holes_first (x ∷ y ∷ bs) place behind rest p l t others k ea eb ep r er = rw (ep, ea, er, eb) (hole_whole x y bs l t others (rw eb at r))

-- ---- holes that are read

-- the first hole, and those behind it
pub record FirstRead (p l : ℕ) (t : List ℕ) (rs : List RawHole) (hs : List Hole) : Type 0 where
  pub one : Hole
  pub more : List Hole
  pub are : hs ≡ one ∷ more
  pub place_is : one.place ≡ p
  pub reads : read_piece (whole l t) ≡ some one.piece
  pub goes : read_holes rs ≡ some more

read_both : (p l : ℕ) (t : List ℕ) (rs : List RawHole) (hs : List Hole) (o : Option Piece) (q : Option (List Hole)) → read_piece (whole l t) ≡ o
    → read_holes rs ≡ q → both (map (hole p) o) q ≡ some hs → FirstRead p l t rs hs
read_both p l t rs hs none q x y e = absurd (let z : ◌≡◌ {A = ℕ} 0 1 = cc in omega arith)
read_both p l t rs hs (some s) none x y e = absurd (let z : ◌≡◌ {A = ℕ} 0 1 = cc in omega arith)
read_both p l t rs hs (some s) (some m) x y e =
    record { one = hole p s; more = m; are = cc; place_is = refl; reads = x; goes = y }

-- A WHOLE HOLE IS READ FIRST.
pub read_first_hole : (p l : ℕ) (t : List ℕ) (rs : List RawHole) (hs : List Hole) → read_holes (punched p (whole l t) ∷ rs) ≡ some hs → FirstRead p l t rs hs
unfolding read_holes read_hole
read_first_hole p l t rs hs e = read_both p l t rs hs (read_piece (whole l t)) (read_holes rs) refl refl e

-- A REST THAT IS NO HOLE IS NOT READ.
pub read_torn : (rs : List RawHole) (hs : List Hole) → read_holes (torn ∷ rs) ≡ some hs → ⊥
unfolding read_holes read_hole
read_torn rs hs e = let z : ◌≡◌ {A = ℕ} 0 1 = cc in omega arith

-- NO HOLES ARE LEFT.
pub read_no_holes : (hs : List Hole) → read_holes [] ≡ some hs → hs ≡ []
unfolding read_holes
read_no_holes hs e = cc

-- ---- the bytes of holes

-- those of the holes: a place and a head of five bytes, and a content each
unfoldable pub raw_size : List RawHole → ℕ
raw_size [] = 0
raw_size (torn ∷ rs) = raw_size rs
raw_size (punched p broken ∷ rs) = raw_size rs
raw_size (punched p (whole l t) ∷ rs) = 5 + length t + raw_size rs

pub raw_size-cons : (p l : ℕ) (t : List ℕ) (rs : List RawHole) → raw_size (punched p (whole l t) ∷ rs) ≡ 5 + length t + raw_size rs
unfolding raw_size
raw_size-cons p l t rs = refl

size_in : (fuel : ℕ) (bs : List ℕ) → raw_size (raw_holes_f fuel bs) ≤ length bs
unfolding raw_holes_f raw_size
size_in zero bs = omega arith
size_in (suc fuel) [] = omega arith
size_in (suc fuel) (p ∷ []) = omega arith
size_in (suc fuel) (p ∷ q ∷ []) = omega arith
size_in (suc fuel) (p ∷ q ∷ l ∷ []) = omega arith
size_in (suc fuel) (p ∷ q ∷ l ∷ h ∷ []) = omega arith
size_in (suc fuel) (p ∷ q ∷ l ∷ h ∷ o ∷ rest) =
    let n = h * 256 + o in
    by_if (λ (rs : List RawHole). raw_size rs ≤ length (p ∷ q ∷ l ∷ h ∷ o ∷ rest)) (leb n (length rest))
    (λ k.
    let m : n ≤ length rest = leb-true n (length rest) k in
    omega (arith, length-take-le n rest m, length-drop n rest, size_in fuel (drop n rest)))
    (λ _. omega arith)

-- The holes of bytes have no more than there are.
pub raw_size_in : (bs : List ℕ) → raw_size (raw_holes bs) ≤ length bs
unfolding raw_holes
raw_size_in bs = size_in (length bs) bs
