-- How many bytes the fields of a list take, no more than the list has, and where those behind the first stand.
-- Assumes nothing.
use mathlib.Core.Path.{◌≡◌, refl, sym, ap, ◌∙◌}
use mathlib.Core.Bool.{Bool, true, false}
use mathlib.Core.List.{List, [], ◌∷◌}
use Prim.Native.Nat.{ℕ, zero, suc, ◌+◌, ◌*◌, ◌≤◌}
use native.Mathlib.Omega.{arith}
use lib.Dec.{leb}
use lib.ListN.{length, take, drop, length-drop}
use lib.Seq.{length-take-le}
use borrow.Author.Tests.{leb-true}
use Rattle.characters.proofs.Tests.{by_if}
use Rattle.fields.proofs.Fields.{raws_cons}
use Rattle.fields.specs.Field.{Raw, whole, broken, raws_f, raws}

-- the heads and contents of whole fields
abbrev pub raws_size : List Raw → ℕ
raws_size [] = 0
raws_size (broken ∷ rs) = raws_size rs
raws_size (whole l t ∷ rs) = 3 + length t + raws_size rs

size_fuel : (f : ℕ) (bs : List ℕ) → raws_size (raws_f f bs) ≤ length bs
unfolding raws_f
size_fuel zero bs = omega arith
size_fuel (suc f) [] = omega arith
size_fuel (suc f) (l ∷ []) = omega arith
size_fuel (suc f) (l ∷ h ∷ []) = omega arith
size_fuel (suc f) (l ∷ h ∷ o ∷ rest) =
    let n = h * 256 + o in
    by_if (λ (rs : List Raw). raws_size rs ≤ length (l ∷ h ∷ o ∷ rest)) (leb n (length rest))
    (λ e. omega (arith, size_fuel f (drop n rest), length-drop n rest, length-take-le n rest (leb-true n (length rest) e), leb-true n (length rest) e))
    (λ _. omega arith)

-- Fields take no more bytes than the list that they are read from has.
pub raws_bytes : (bs : List ℕ) → raws_size (raws bs) ≤ length bs
unfolding raws
raws_bytes bs = size_fuel (length bs) bs

-- ---- the first field

-- its bytes are there, and the others stand behind them
pub record FirstField (bs : List ℕ) (l : ℕ) (c : List ℕ) (rs : List Raw) : Type 0 where
  pub size : 3 + length c ≤ length bs
  pub behind : raws (drop (3 + length c) bs) ≡ rs

pub first_field : (bs : List ℕ) (l : ℕ) (c : List ℕ) (rs : List Raw) → raws bs ≡ whole l c ∷ rs → FirstField bs l c rs
unfolding raws raws_f
first_field [] l c rs e = absurd (let z : ◌≡◌ {A = ℕ} 0 1 = cc in omega arith)
first_field (x ∷ []) l c rs e = absurd (let z : ◌≡◌ {A = ℕ} 0 1 = cc in omega arith)
first_field (x ∷ h ∷ []) l c rs e = absurd (let z : ◌≡◌ {A = ℕ} 0 1 = cc in omega arith)
first_field (x ∷ h ∷ o ∷ bs) l c rs e = go (leb (h * 256 + o) (length bs)) refl
  where
    go : (t : Bool) → leb (h * 256 + o) (length bs) ≡ t → FirstField (x ∷ h ∷ o ∷ bs) l c rs
    go true k =
        let n = h * 256 + o in
        let fits = leb-true n (length bs) k in
        let first : whole x (take n bs) ∷ raws (drop n bs) ≡ whole l c ∷ rs = sym (raws_cons x h o bs fits) ∙ e in
        let content : take n bs ≡ c = cc in
        let others : raws (drop n bs) ≡ rs = cc in
        let long : 3 + length c ≡ suc (suc (suc n)) = omega (arith, ap length content, length-take-le n bs fits) in
        record { size = omega arith; behind = rw long others }
    go false k = absurd (let z : ◌≡◌ {A = ℕ} 0 1 = (let y : broken ∷ [] ≡ whole l c ∷ rs = rw k at e in cc) in omega arith)
