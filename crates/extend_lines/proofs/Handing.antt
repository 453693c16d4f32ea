-- The laws of V fields that are handed on: those that are read have the bytes that they were read from, and none is too long.
-- Assumes nothing.
use mathlib.Core.Path.{◌≡◌, refl, sym, ap, ap₂, ◌∙◌}
use mathlib.Core.Bool.{true}
use mathlib.Core.Option.{Option, none, some}
use mathlib.Core.List.{List, [], ◌∷◌, ◌++◌}
use Prim.Native.Nat.{ℕ, zero, suc, ◌+◌, ◌*◌, ◌≤◌, ◌<◌}
use native.Mathlib.Omega.{arith}
use borrow.Author.Tests.{eqb-true, leb-true, le-leb}
use lib.Dec.{leb, eqb}
use lib.ListN.{length, drop, get_or}
use lib.Seq.{length-take-le}
use Rattle.characters.proofs.Tests.{by_if}
use Rattle.fields.specs.Field.{two, field, Raw, whole, broken, raws_f, raws, both, read_all, all}
use Rattle.fields.proofs.Back.{Every}
use Rattle.block.proofs.Bounds.{length_field}
use Rattle.rows.proofs.Reading.{OnSome, some_of, Bytes, bytes_drop, OfBytes, two_back, splits, Same, each, SameAll, same_all, from_same, on_map}
use Rattle.fields.specs.Spans.{RenderLine, Hanging, hanging, read_line, is_span, read_hanging_content, read_hanging, lines_bytes, hanging_content, overhang_bytes}
use Rattle.rows.specs.Answer.{fits_hanging}
use Rattle.rows.proofs.Same.{lines_same, hanging_bytes}

-- ---- bytes

-- Each number that is read from a slice of bytes is one.
pub bytes_known : (s : List ℕ) → ((i : ℕ) → get_or s i 0 < 256) → Bytes s
bytes_known [] h = tt
bytes_known (b ∷ s) h = (h 0, bytes_known s (λ i. h (suc i)))

-- a field's content has at most 65,535 bytes
abbrev ShortRaw : Raw → Type 0
ShortRaw broken = Unit {0}
ShortRaw (whole l t) = length t ≤ 65535

short_fuel : (f : ℕ) (bs : List ℕ) → Bytes bs → Every ShortRaw (raws_f f bs)
unfolding raws_f
short_fuel zero bs k = tt
short_fuel (suc f) [] k = tt
short_fuel (suc f) (l ∷ []) k = (tt, tt)
short_fuel (suc f) (l ∷ x ∷ []) k = (tt, tt)
short_fuel (suc f) (l ∷ x ∷ o ∷ rest) k =
    let n = x * 256 + o in
    by_if (Every ShortRaw) (leb n (length rest))
    (λ e. (
      omega (arith, length-take-le n rest (leb-true n (length rest) e), k.1.0, k.1.1.0),
      short_fuel f (drop n rest) (bytes_drop n rest k.1.1.1),
    ))
    (λ _. (tt, tt))

raws_short : (bs : List ℕ) → Bytes bs → Every ShortRaw (raws bs)
unfolding raws
raws_short bs k = short_fuel (length bs) bs k

-- ---- one V field

two_same : (h o n : ℕ) → o < 256 → h * 256 + o ≡ n → two n ≡ h ∷ o ∷ []
two_same h o n k e = let (x, y) = two_back h o n k e in rw (x, y)

-- A V that is read: its bytes are the field's, and its position has two bytes.
abbrev Handed : Raw → Hanging → Type 0
Handed r v = Same hanging_bytes r v × (v.pos ≤ 65535)

handed_content : (l : ℕ) (t : List ℕ) → l ≡ 0x56 → Bytes t → OnSome (Handed (whole l t)) (read_hanging_content t)
handed_content l [] e h = tt
handed_content l (p ∷ []) e h = tt
handed_content l (p ∷ q ∷ []) e h = tt
handed_content l (p ∷ q ∷ w ∷ []) e h = tt
handed_content l (p ∷ q ∷ w ∷ r ∷ ls) e h =
    by_if (OnSome (Handed (whole l (p ∷ q ∷ w ∷ r ∷ ls)))) (is_span r)
    (λ _. on_map (λ (m : List RenderLine). lines_bytes m ≡ ls) (Handed (whole l (p ∷ q ∷ w ∷ r ∷ ls))) (hanging (p * 256 + q) w r)
    (read_all read_line (raws ls)) (lines_same ls h.1.1.1.1)
    (λ m k. (
      (tt, ap₂ field (sym e) (ap₂ (λ (x y : List ℕ). x ++ (w ∷ r ∷ y)) (two_same p q (p * 256 + q) h.1.0 refl) k)),
      omega (arith, h.0, h.1.0),
    )))
    (λ _. tt)

handed_one : (r : Raw) → OfBytes r → OnSome (Handed r) (read_hanging r)
unfolding read_hanging
handed_one broken h = tt
handed_one (whole l t) h = by_if (OnSome (Handed (whole l t))) (eqb l 0x56) (λ e. handed_content l t (eqb-true l 0x56 e) h) (λ _. tt)

same_one : (r : Raw) → OfBytes r → OnSome (Same hanging_bytes r) (read_hanging r)
same_one r h = go (read_hanging r) (handed_one r h)
  where
    go : (o : Option Hanging) → OnSome (Handed r) o → OnSome (Same hanging_bytes r) o
    go none k = tt
    go (some v) k = k.0

-- It is not too long.
handed_fits : (r : Raw) (v : Hanging) → ShortRaw r → Handed r v → fits_hanging v ≡ true
handed_fits broken v s h = absurd h.0.0
handed_fits (whole l t) v s h =
    let n : length (field 0x56 (hanging_content v)) ≡ length (field l t) = ap length h.0.1 in
    let few : length (hanging_content v) ≤ 65535 = omega (arith, n, length_field 0x56 (hanging_content v), length_field l t, s) in
    rw (le-leb (length (hanging_content v)) 65535 few, le-leb v.pos 65535 h.1)

-- ---- all V fields

fits_both : (r : Raw) (o : Option Hanging) (q : Option (List Hanging)) → ShortRaw r → OnSome (Handed r) o → OnSome (λ vs. all fits_hanging vs ≡ true) q
    → OnSome (λ vs. all fits_hanging vs ≡ true) (both o q)
unfolding all
fits_both r none q s h k = tt
fits_both r (some v) none s h k = tt
fits_both r (some v) (some vs) s h k = rw (handed_fits r v s h) k

fits_all : (rs : List Raw) → Every OfBytes rs → Every ShortRaw rs → OnSome (λ vs. all fits_hanging vs ≡ true) (read_all read_hanging rs)
unfolding read_all all
fits_all [] h s = refl
fits_all (r ∷ rs) h s = fits_both r (read_hanging r) (read_all read_hanging rs) s.0 (handed_one r h.0) (fits_all rs h.1 s.1)

overhang_each : (vs : List Hanging) → overhang_bytes vs ≡ each hanging_bytes vs
unfolding overhang_bytes
overhang_each [] = refl
overhang_each (v ∷ vs) = ap (λ (x : List ℕ). hanging_bytes v ++ x) (overhang_each vs)

-- V fields that are read from bytes have these bytes.
pub overhang_same : (bs : List ℕ) (vs : List Hanging) → Bytes bs → read_all read_hanging (raws bs) ≡ some vs → overhang_bytes vs ≡ bs
overhang_same bs vs h e =
    let s = splits bs h in
    overhang_each vs
    ∙ from_same hanging_bytes bs (raws bs) s vs (some_of (SameAll hanging_bytes (raws bs)) (read_all read_hanging (raws bs)) vs e (same_all hanging_bytes read_hanging same_one (raws bs) s.0))

-- None of them is too long.
pub overhang_fits : (bs : List ℕ) (vs : List Hanging) → Bytes bs → read_all read_hanging (raws bs) ≡ some vs → all fits_hanging vs ≡ true
overhang_fits bs vs h e =
    some_of (λ (l : List Hanging). all fits_hanging l ≡ true) (read_all read_hanging (raws bs)) vs e (fits_all (raws bs) (splits bs h).0 (raws_short bs h))
