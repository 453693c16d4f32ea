-- A line of text only grows: what is pushed onto it is never shorter, so a line that is too long stays so.
-- Assumes nothing.
use mathlib.Core.Path.{◌≡◌, refl, ap}
use mathlib.Core.Bool.{Bool, true, false, ◌||◌}
use mathlib.Core.List.{List, [], ◌∷◌, ◌++◌}
use Prim.Native.Nat.{ℕ, ◌+◌, ◌-◌, ◌≤◌, ◌<◌}
use native.Mathlib.Omega.{arith}
use lib.Dec.{eqb}
use lib.ListN.{length, replicate, length-append}
use borrow.Author.Tests.{lt-leb}
use Rattle.characters.proofs.Tests.{by_if}
use Rattle.fields.specs.Field.{field}
use Rattle.fields.specs.Sheet.{Piece, str, fragment, piece_bytes, pieces_bytes}
use Rattle.fields.specs.Widths.{width}
use Rattle.fields.specs.TaggedLine.{onto, join, push_str, push, consume, push_ws, pad_to}
use Rattle.fields.specs.Spans.{RenderLine, text}
use Rattle.rows.specs.declared.RenderOptions.{RenderOptions}
use Rattle.rows.specs.SubRenderer.{padded}
use Rattle.rows.specs.Answer.{fits}
use Rattle.tagged_line.proofs.Holding.{pieces_append}

pub or_first : (a b : Bool) → (a || b) ≡ false → a ≡ false
or_first true b e = e
or_first false b e = refl

pub or_second : (a b : Bool) → (a || b) ≡ false → b ≡ false
or_second true b e = absurd (let z : ◌≡◌ {A = ℕ} 0 1 = cc in omega arith)
or_second false b e = e

-- how many bytes the pieces of a line have
abbrev pub size_of : List Piece → ℕ
size_of l = length (pieces_bytes l)

pub size_cons : (p : Piece) (l : List Piece) → size_of (p ∷ l) ≡ length (piece_bytes p) + size_of l
unfolding pieces_bytes
size_cons p l = length-append (piece_bytes p) (pieces_bytes l)

pub size_str : (a : ℕ) (t : List ℕ) → length (piece_bytes (str a t)) ≡ 4 + length t
unfolding field
size_str a t = omega (arith)

pub size_none : size_of [] ≡ 0
unfolding pieces_bytes
size_none = refl

grow_onto : (p : Piece) (a : ℕ) (t : List ℕ) → length (piece_bytes p) ≤ size_of (onto p a t)
grow_onto (fragment n) a t = omega (arith, size_cons (fragment n) (str a t ∷ []))
grow_onto (str b s) a t =
    by_if (λ (x : List Piece). length (piece_bytes (str b s)) ≤ size_of x) (eqb b a)
    (λ _. omega (arith, size_cons (str b (s ++ t)) [], size_str b (s ++ t), size_str b s, length-append s t))
    (λ _. omega (arith, size_cons (str b s) (str a t ∷ [])))

grow_join : (l : List Piece) (a : ℕ) (t : List ℕ) → size_of l ≤ size_of (join l a t)
unfolding join
grow_join [] a t = omega (arith, size_none)
grow_join (p ∷ []) a t = omega (arith, grow_onto p a t, size_cons p [], size_none)
grow_join (p ∷ q ∷ l) a t = omega (arith, grow_join (q ∷ l) a t, size_cons p (q ∷ l), size_cons p (join (q ∷ l) a t))

-- Text that is pushed.
pub grow_str : (l : List Piece) (a : ℕ) (t : List ℕ) → size_of l ≤ size_of (push_str l a t)
unfolding push_str
grow_str l a [] = omega arith
grow_str l a (b ∷ t) = grow_join l a (b ∷ t)

-- A piece that is pushed.
pub grow_push : (l : List Piece) (p : Piece) → size_of l ≤ size_of (push l p)
unfolding push
grow_push l (str a t) = grow_str l a t
grow_push l (fragment n) = omega (arith, ap length (pieces_append l (fragment n ∷ [])), length-append (pieces_bytes l) (pieces_bytes (fragment n ∷ [])))

-- Pieces that are pushed.
pub grow_consume : (l ps : List Piece) → size_of l ≤ size_of (consume l ps)
unfolding consume
grow_consume l [] = omega arith
grow_consume l (p ∷ ps) = omega (arith, grow_push l p, grow_consume (push l p) ps)

-- A line that is too long does not fit, padded or not.
pub long_unfit : (s : RenderOptions) (l : List Piece) → 65535 < size_of l → fits (padded s (text l)) ≡ false
unfolding padded pad_to push_ws
long_unfit s l h =
    let g = grow_str l s.annotation (replicate (s.width - width l) 0x20) in
    let k : 65535 < size_of (push_str l s.annotation (replicate (s.width - width l) 0x20)) = omega arith in
    by_if (λ (x : RenderLine). fits x ≡ false) s.pad (λ _. lt-leb (size_of (push_str l s.annotation (replicate (s.width - width l) 0x20))) 65535 k) (λ _. lt-leb (size_of l) 65535 h)
