-- The pieces of a line that is filled to a width with spaces, one after the other.
-- Assumes nothing: these are definitions.
use Rattle.std.specs.Prelude.{◌≡◌, Bool, true, false, List, [], ◌∷◌, ◌++◌, ℕ, ◌+◌, ◌*◌, ◌≤◌, ◌<◌, min, eqb, length, replicate, if◌then◌else◌, Option, IfSome, MatchOption}
use Rattle.std.proofs.Math.Option.{some}
use Rattle.fields.specs.Field.{head}
use Rattle.fields.specs.List.{whole_of}
use Rattle.fields.specs.declared.raw.Field.{Field}
use Rattle.fields.specs.Sheet.{Piece, str, fragment, read_piece, piece_bytes}
use Rattle.fields.specs.Widths.{piece_width}
use Rattle.fields.specs.TaggedLine.{WellFormedPiece, pad_to}
use Rattle.fields.proofs.Back.{Every}
use Rattle.tagged_line.specs.Pieces.{PiecesOf}
use Rattle.row_holes.specs.declared.filled.Part.{Part}
use Rattle.row_holes.specs.declared.filled.Filled.{Filled}

-- ---- the spaces that a piece takes in

-- a text under their annotation takes all
abbrev pub takes : ℕ → Piece → ℕ → ℕ
takes a (str b t) n = if eqb b a then n else 0
takes a (fragment name) n = 0

-- the last piece; another takes none
abbrev pub takes_if : Bool → ℕ → Piece → ℕ → ℕ
takes_if true a q n = takes a q n
takes_if false a q n = 0

-- `taken`
abbrev pub TakesSpaces : Bool → Field → List ℕ → ℕ → ℕ → Type 0
TakesSpaces last f annotation spaces r =
    (a : ℕ) (q : Piece) → annotation ≡ a ∷ [] → read_piece (whole_of f) ≡ some q → r ≡ takes_if last a q spaces

-- ---- the walk

-- the bytes that a part stands for: its field, with the spaces behind its content
abbrev pub part_bytes : Part → List ℕ
part_bytes p = head p.field.letter (length p.field.content.now + p.spaces) ++ (p.field.content.now ++ replicate p.spaces 0x20)

-- a part is a piece, by its bytes and its columns
pub record PartIs (p : Part) (q : Piece) : Type 0 where
  pub bytes_are : piece_bytes q ≡ part_bytes p
  pub cols_are : piece_width q ≡ p.cols

-- the pieces that are left, filled to what is missing
pub record PartsLeft (f : Filled) (a : ℕ) (qs : List Piece) : Type 0 where
  pub pieces : List Piece
  pub reads : PiecesOf f.rest.now pieces
  pub formed : Every WellFormedPiece pieces
  pub annotation_is : f.annotation.now ≡ a ∷ []
  pub are : qs ≡ pad_to pieces f.missing a

-- it gets smaller with each part
abbrev pub filled_measure : Filled → ℕ
filled_measure f = length f.rest.now + f.missing

-- the most bytes that the parts which are left have as holes
abbrev pub holes_most : Filled → ℕ
holes_most f = 2 * length f.rest.now + f.missing + 6 * min 1 f.missing

-- numbers of a part, whatever the bytes
pub record PartIn (f : Filled) (p : Part) (rest : Filled) : Type 0 where
  pub less : filled_measure rest < filled_measure f
  pub few : 5 + length p.field.content.now + p.spaces + holes_most rest ≤ holes_most f

-- the first of the pieces that are left, and the others
pub record FirstPart (p : Part) (rest : Filled) (a : ℕ) (qs : List Piece) : Type 0 where
  pub one : Piece
  pub more : List Piece
  pub are : qs ≡ one ∷ more
  pub part_is : PartIs p one
  pub goes : PartsLeft rest a more

-- a call of `next`: the first of the pieces that are left, or none is left
pub record NextPart (f : Filled) (r : Option Part) (rest : Filled) : Type 0 where
  pub part_in : IfSome r (λ p. PartIn f p rest)
  pub gives : (a : ℕ) (qs : List Piece) → PartsLeft f a qs → MatchOption r (qs ≡ []) (λ p. FirstPart p rest a qs)
