-- The columns of a hole's piece.
-- Assumes nothing.
use mathlib.Core.Path.{◌≡◌, refl, ap, ◌∙◌}
use mathlib.Core.Option.{none, some}
use mathlib.Core.List.{List, [], ◌∷◌}
use Prim.Native.Nat.{ℕ, ◌-◌, ◌<◌}
use native.Mathlib.Omega.{arith}
use lib.Dec.{eqb}
use lib.ListN.{length, take, drop}
use borrow.Author.Tests.{eq-eqb, ne_eqb}
use Rattle.std.specs.Prelude.{if◌then◌else◌}
use Rattle.characters.proofs.Tests.{by_if}
use Rattle.fields.specs.Field.{whole}
use Rattle.fields.specs.Sheet.{Piece, fragment, read_str, read_piece}
use Rattle.fields.specs.Widths.{text_width, piece_width}
use Rattle.fields.proofs.Texts.{rest}
use Rattle.rows.proofs.Reading.{OnSome, some_of}
use Rattle.holes.specs.Cols.{CountsPiece}

-- an S field's columns
str_cols : (t : List ℕ) → OnSome (λ (q : Piece). text_width (drop 1 t) ≡ piece_width q) (read_str t)
str_cols [] = tt
str_cols (a ∷ []) = tt
str_cols (a ∷ b ∷ t) = refl

pub text_cols : (l : ℕ) (t : List ℕ) (r : ℕ) → l ≡ 0x53 → r ≡ text_width (take (length t - 1) (drop 1 t)) → CountsPiece (whole l t) r
unfolding read_piece
text_cols l t r e k q x =
    k ∙ ap text_width (rest t 1) ∙ some_of (λ (p : Piece). text_width (drop 1 t) ≡ piece_width p) (read_str t) q (rw (eq-eqb l 0x53 e) at x) (str_cols t)

-- another field is a name
name_read : (l : ℕ) (t : List ℕ) → OnSome (λ (q : Piece). 0 ≡ piece_width q) (if eqb l 0x46 then some (fragment t) else none)
name_read l t = by_if (OnSome (λ (q : Piece). 0 ≡ piece_width q)) (eqb l 0x46) (λ _. refl) (λ _. tt)

pub name_cols : (l : ℕ) (t : List ℕ) → (l ≡ 0x53 → ⊥) → CountsPiece (whole l t) 0
unfolding read_piece
name_cols l t n q x = some_of (λ (p : Piece). 0 ≡ piece_width p) (if eqb l 0x46 then some (fragment t) else none) q (rw (ne_eqb l 0x53 n) at x) (name_read l t)

-- a field without content is not read, or a name
empty_read : (l : ℕ) → OnSome (λ (q : Piece). 0 ≡ piece_width q) (read_piece (whole l []))
unfolding read_piece
empty_read l = by_if (OnSome (λ (q : Piece). 0 ≡ piece_width q)) (eqb l 0x53) (λ _. tt) (λ _. name_read l [])

pub empty_cols : (l : ℕ) (t : List ℕ) → length t < 1 → CountsPiece (whole l t) 0
empty_cols l [] h q x = some_of (λ (p : Piece). 0 ≡ piece_width p) (read_piece (whole l [])) q x (empty_read l)
empty_cols l (a ∷ t) h q x = absurd (omega arith)
