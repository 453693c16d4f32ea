-- What laying the pieces of a line's content does to the line that they are laid on, for contents that were read and texts that passed refusal 3.
-- Assumes nothing: these are definitions.
use Rattle.std.specs.Prelude.{◌≡◌, Bool, true, List, [], ◌∷◌, ◌++◌, ℕ}
use Rattle.std.proofs.Math.Option.{some}
use Rattle.fields.specs.Field.{Raw, raws, read_all, all}
use Rattle.fields.specs.Sheet.{Piece, fragment, read_str, read_piece, readable_piece, pieces_bytes}
use Rattle.fields.specs.Store.{Wrote}
use Rattle.fields.specs.TaggedLine.{add_piece, add_pieces}
use Rattle.tagged_line.specs.Held.{Held}
use Rattle.tagged_line.specs.declared.line.Line.{Line}

-- the pieces that a line's content holds
abbrev pub PiecesOf : List ℕ → List Piece → Type 0
PiecesOf content ps = read_all read_piece (raws content) ≡ some ps

-- a name
abbrev pub AddsFragment : List ℕ → Line → List ℕ → List ℕ → Line → Type 0
AddsFragment out p name out' r =
    (st : List ℕ) (l : List Piece) → Held st l out p → Held st (l ++ (fragment name ∷ [])) out' r

-- a text
abbrev pub AddsTextPiece : List ℕ → Line → List ℕ → Bool → List ℕ → Line → Type 0
AddsTextPiece out p content joins out' r =
    (q : Piece) → read_str content ≡ some q → readable_piece q ≡ true
    → (st : List ℕ) (l : List Piece) → Held st l out p → Held st (add_piece joins l q) out' r

-- a field
abbrev pub AddsPiece : List ℕ → Line → Raw → Bool → List ℕ → Line → Type 0
AddsPiece out p field joins out' r =
    (q : Piece) → read_piece field ≡ some q → readable_piece q ≡ true
    → (st : List ℕ) (l : List Piece) → Held st l out p → Held st (add_piece joins l q) out' r

-- all fields of a content
abbrev pub AddsPieces : List ℕ → Line → List ℕ → Bool → Bool → List ℕ → Line → Type 0
AddsPieces out p content joins rejoins out' r =
    (ps : List Piece) → PiecesOf content ps → all readable_piece ps ≡ true
    → (st : List ℕ) (l : List Piece) → Held st l out p → Held st (add_pieces joins rejoins l ps) out' r

-- all fields of a content, copied
abbrev pub Copies : List ℕ → ℕ → List ℕ → List ℕ → ℕ → Type 0
Copies out place content out' r = (ps : List Piece) → PiecesOf content ps → Wrote out place (pieces_bytes ps) out' r
