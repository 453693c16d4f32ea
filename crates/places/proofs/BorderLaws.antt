-- What a border's field is read as.
-- Assumes nothing.
use mathlib.Core.Path.{◌≡◌, refl, sym, ap, subst, ◌∙◌}
use mathlib.Core.Bool.{◌&&◌}
use mathlib.Core.Option.{Option, none, some, map}
use mathlib.Core.List.{List, [], ◌∷◌, ◌++◌}
use Prim.Native.Nat.{ℕ, ◌+◌, ◌-◌, ◌*◌, ◌≤◌, ◌<◌}
use native.Mathlib.Omega.{arith}
use lib.Dec.{leb, eqb}
use lib.ListN.{length, take, drop, get_or, length-append}
use lib.Seq.{take_all}
use Rattle.std.proofs.lemmas.List.{append-nil, take-append-drop}
use borrow.Author.Tests.{lt-leb, ne_eqb}
use Rattle.std.specs.List.{IsSplitAt}
use Rattle.characters.proofs.Tests.{by_if, and_right}
use Rattle.fields.specs.Field.{whole, raws, read_all, all, Raw, broken}
use Rattle.fields.specs.Sheet.{Piece, read_piece, is_segment}
use Rattle.fields.specs.Spans.{Hole, RenderLine, text, border, raw_holes, read_holes, ends_within, holed, read_holed, read_border, read_line}
use Rattle.fields.proofs.Readings.{read_first}
use Rattle.fields.proofs.Texts.{rest}
use Rattle.places.specs.declared.border.Border.{Border}
use Rattle.places.specs.declared.border.Parts.{Parts}
use Rattle.places.specs.Border.{ReadsBorder, no_parts, PartsIn, PartsAre, FindsParts}
use Rattle.places.proofs.HolesLaws.{holes_nil}

-- A rest that is no field is read as no line.
pub broken_line : (rs : List Raw) (ls : List RenderLine) → read_all read_line (broken ∷ rs) ≡ some ls → ⊥
unfolding read_line
broken_line rs ls e = let x = (read_first read_line broken rs ls e).first in let z : ◌≡◌ {A = ℕ} 0 1 = cc in omega arith

-- of a border that a reading gives
abbrev OnBorder : (ℕ → List ℕ → List Hole → Type 0) → Option RenderLine → Type 0
OnBorder P none = Unit {0}
OnBorder P (some (text ps)) = Unit {0}
OnBorder P (some (border a ss hs)) = P a ss hs

-- three bytes and those behind them
three : (s : List ℕ) → 3 ≤ length s → get_or s 0 0 ∷ get_or s 1 0 ∷ get_or s 2 0 ∷ take (length s - 3) (drop 3 s) ≡ s
three (a ∷ h ∷ o ∷ rest) k =
    let d : length (a ∷ h ∷ o ∷ rest) - 3 ≡ length rest = omega arith in
    rw (d, take_all (length rest) rest (omega arith))
three [] k = absurd (omega arith)
three (a ∷ []) k = absurd (omega arith)
three (a ∷ h ∷ []) k = absurd (omega arith)

-- ---- a G

-- its holes, if they are read
held : (r : Parts) (a : ℕ) (ss : List ℕ) (q : Option (List Hole)) → r.annotation ≡ a → r.segments.now ≡ ss → read_holes (raw_holes r.holes.now) ≡ q
    → OnBorder (PartsAre r) (holed a ss q)
held r a ss none k d e = tt
held r a ss (some []) k d e = tt
held r a ss (some (x ∷ hs)) k d e =
    by_if (OnBorder (PartsAre r)) (all is_segment ss && all (ends_within (length ss)) (x ∷ hs))
    (λ t. record { annotation = k; segments = d; punched = record { reads = e }; within = and_right (all is_segment ss) (all (ends_within (length ss)) (x ∷ hs)) t })
    (λ _. tt)

long_enough : (r : Parts) (a h o : ℕ) (rest : List ℕ) → r.annotation ≡ a → IsSplitAt rest (h * 256 + o) r.segments.now r.holes.now
    → OnBorder (PartsAre r) (read_line (whole 0x47 (a ∷ h ∷ o ∷ rest)))
unfolding read_line read_holed
long_enough r a h o rest k (fits, front, back, m, l) =
    by_if (OnBorder (PartsAre r)) (leb (h * 256 + o) (length rest))
    (λ _. held r a (take (h * 256 + o) rest) (read_holes (raw_holes (drop (h * 256 + o) rest))) k front (rw back))
    (λ _. tt)

too_short : (r : Parts) (a h o : ℕ) (rest : List ℕ) → length rest < h * 256 + o → OnBorder (PartsAre r) (read_line (whole 0x47 (a ∷ h ∷ o ∷ rest)))
unfolding read_line read_holed
too_short r a h o rest k = rw (lt-leb (h * 256 + o) (length rest) k) tt

pub holed_found : (r : Parts) (s : List ℕ) (n : ℕ) → 3 ≤ length s → r.annotation ≡ get_or s 0 0 → n ≡ get_or s 1 0 * 256 + get_or s 2 0
    → IsSplitAt (take (length s - 3) (drop 3 s)) n r.segments.now r.holes.now → FindsParts 0x47 s r
holed_found r s n k ea en p a ss hs e =
    subst (OnBorder (PartsAre r)) e
    (subst (λ (t : List ℕ). OnBorder (PartsAre r) (read_line (whole 0x47 t))) (three s k)
    (long_enough r (get_or s 0 0) (get_or s 1 0) (get_or s 2 0) (take (length s - 3) (drop 3 s)) ea (rw (← en) p)))

pub holed_cut : (r : Parts) (s : List ℕ) (n : ℕ) → 3 ≤ length s → n ≡ get_or s 1 0 * 256 + get_or s 2 0 → length (take (length s - 3) (drop 3 s)) < n → FindsParts 0x47 s r
holed_cut r s n k en p a ss hs e =
    subst (OnBorder (PartsAre r)) e
    (subst (λ (t : List ℕ). OnBorder (PartsAre r) (read_line (whole 0x47 t))) (three s k)
    (too_short r (get_or s 0 0) (get_or s 1 0) (get_or s 2 0) (take (length s - 3) (drop 3 s)) (rw (← en) p)))

pub holed_short : (r : Parts) (s : List ℕ) → length s < 3 → FindsParts 0x47 s r
unfolding read_line read_holed
holed_short r [] k a ss hs e = cc
holed_short r (x ∷ []) k a ss hs e = cc
holed_short r (x ∷ y ∷ []) k a ss hs e = cc
holed_short r (x ∷ y ∷ z ∷ s) k a ss hs e = absurd (omega arith)

-- ---- another border is a B

no_text : (P : ℕ → List ℕ → List Hole → Type 0) (o : Option (List Piece)) → OnBorder P (map text o)
no_text P none = tt
no_text P (some ps) = tt

plain : (r : Parts) (a : ℕ) (ss : List ℕ) → r.annotation ≡ a → r.segments.now ≡ ss → r.holes.now ≡ [] → OnBorder (PartsAre r) (read_border (a ∷ ss))
unfolding all read_holes
plain r a ss k d e =
    by_if (OnBorder (PartsAre r)) (all is_segment ss) (λ _. record { annotation = k; segments = d; punched = record { reads = rw (e, holes_nil) }; within = refl }) (λ _. tt)

plain_line : (P : ℕ → List ℕ → List Hole → Type 0) (l : ℕ) (s : List ℕ) → (l ≡ 0x47 → ⊥) → OnBorder P (read_border s) → OnBorder P (read_line (whole l s))
unfolding read_line
plain_line P l s n k =
    rw (ne_eqb l 0x47 n)
    (by_if (OnBorder P) (eqb l 0x4C) (λ _. no_text P (read_all read_piece (raws s))) (λ _. by_if (OnBorder P) (eqb l 0x42) (λ _. k) (λ _. tt)))

one : (s : List ℕ) → 1 ≤ length s → get_or s 0 0 ∷ take (length s - 1) (drop 1 s) ≡ s
one (a ∷ ss) k =
    let d : length (a ∷ ss) - 1 ≡ length ss = omega arith in
    rw (d, take_all (length ss) ss (omega arith))
one [] k = absurd (omega arith)

pub plain_found : (r : Parts) (l : ℕ) (s : List ℕ) → (l ≡ 0x47 → ⊥) → 1 ≤ length s → r.annotation ≡ get_or s 0 0 → r.segments.now ≡ take (length s - 1) (drop 1 s)
    → r.holes.now ≡ [] → FindsParts l s r
plain_found r l s n k ea ed eh a ss hs e =
    subst (OnBorder (PartsAre r)) e
    (plain_line (PartsAre r) l s n
    (subst (λ (t : List ℕ). OnBorder (PartsAre r) (read_border t)) (one s k) (plain r (get_or s 0 0) (take (length s - 1) (drop 1 s)) ea ed eh)))

pub plain_short : (r : Parts) (l : ℕ) (s : List ℕ) → (l ≡ 0x47 → ⊥) → length s < 1 → FindsParts l s r
plain_short r l [] n k a ss hs e = subst (OnBorder (PartsAre r)) e (plain_line (PartsAre r) l [] n tt)
plain_short r l (x ∷ s) n k a ss hs e = absurd (omega arith)

-- ---- where the parts stand

-- nothing stands at the end
pub in_none : (r : Parts) (s : List ℕ) → no_parts r → PartsIn s r
in_none r s (d, e) = record { front = s; are = sym (rw (d, e, append-nil s)) }

-- those of a G
pub in_holed : (r : Parts) (s : List ℕ) (n : ℕ) → IsSplitAt (take (length s - 3) (drop 3 s)) n r.segments.now r.holes.now → PartsIn s r
in_holed r s n (fits, front, back, m, l) =
    record { front = take 3 s; are = sym (rw (front, back, take-append-drop n (take (length s - 3) (drop 3 s)), rest s 3, take-append-drop 3 s)) }

-- those of a B
pub in_plain : (r : Parts) (s : List ℕ) → r.segments.now ≡ take (length s - 1) (drop 1 s) → r.holes.now ≡ [] → PartsIn s r
in_plain r s d e =
    record { front = take 1 s; are = sym (rw (d, e, append-nil (take (length s - 1) (drop 1 s)), rest s 1, take-append-drop 1 s)) }

-- ---- a border by its parts

-- they take no more than the content
pub parts_within : (s : List ℕ) (r : Parts) → PartsIn s r → length r.segments.now + length r.holes.now ≤ length s
parts_within s r p =
    omega (arith, ap length p.are, length-append p.front (r.segments.now ++ r.holes.now), length-append r.segments.now r.holes.now)

-- A border of these parts is read as they are.
pub parts_read : (letter : ℕ) (s : List ℕ) (p : Parts) (r : Border) → r.annotation ≡ p.annotation → r.segments.now ≡ p.segments.now → r.holes.now ≡ p.holes.now
    → FindsParts letter s p → ReadsBorder letter s r
parts_read letter s p r ea ed eh f a ss hs e =
    let are = f a ss hs e in
    record { annotation = ea ∙ are.annotation; segments = ed ∙ are.segments; punched = rw eh are.punched; within = are.within }
