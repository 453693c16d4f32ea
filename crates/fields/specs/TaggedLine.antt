-- `TaggedLine` over the pieces of a sheet, where a text is its bytes and a tag an annotation: one definition for each method that the
-- calls on a sheet use, under the Rust's name (document 01, "Pieces of a line"). The block's `TaggedLine` is over
-- characters and over tags with a mode; after the block the mode is gone.
-- Assumes nothing: these are definitions.
use Rattle.std.specs.Prelude.{Bool, true, false, List, [], ◌∷◌, ◌++◌, ℕ, ◌-◌, eqb, replicate, if◌then◌else◌}
use Rattle.fields.specs.Sheet.{Piece, str, fragment}
use Rattle.fields.specs.Widths.{width}
use Rattle.fields.specs.Text.{WellFormed}

-- the text of a piece
abbrev pub WellFormedPiece : Piece → Type 0
WellFormedPiece (str a t) = WellFormed t
WellFormedPiece (fragment n) = Unit {0}

-- the text t after the piece p: joined to it when the annotations are equal
abbrev pub onto : Piece → ℕ → List ℕ → List Piece
onto (fragment n) a t = fragment n ∷ str a t ∷ []
onto (str b s) a t = if eqb b a then str b (s ++ t) ∷ [] else str b s ∷ str a t ∷ []

-- text to the end of a line
unfoldable pub join : List Piece → ℕ → List ℕ → List Piece
join [] a t = str a t ∷ []
join (p ∷ []) a t = onto p a t
join (p ∷ q ∷ ps) a t = p ∷ join (q ∷ ps) a t

-- `push_str` drops empty text
unfoldable pub push_str : List Piece → ℕ → List ℕ → List Piece
push_str l a [] = l
push_str l a (b ∷ t) = join l a (b ∷ t)

-- `push`: text, or a name
unfoldable pub push : List Piece → Piece → List Piece
push l (str a t) = push_str l a t
push l (fragment n) = l ++ (fragment n ∷ [])

-- `consume`: each piece pushed
unfoldable pub consume : List Piece → List Piece → List Piece
consume l [] = l
consume l (p ∷ ps) = consume (push l p) ps

-- `push_ws`: so many spaces
unfoldable pub push_ws : List Piece → ℕ → ℕ → List Piece
push_ws l n a = push_str l a (replicate n 0x20)

-- `insert_front`
unfoldable pub insert_front : List Piece → ℕ → List ℕ → List Piece
insert_front [] a t = str a t ∷ []
insert_front (fragment n ∷ ps) a t = str a t ∷ fragment n ∷ ps
insert_front (str b s ∷ ps) a t = if eqb b a then str b (t ++ s) ∷ ps else str a t ∷ str b s ∷ ps

-- `pad_to`: spaces up to the width
unfoldable pub pad_to : List Piece → ℕ → ℕ → List Piece
pad_to l w a = push_ws l (w - width l) a

-- ---- as the code lays pieces, one after the other

-- a piece pushed, or put after the others as it stands
unfoldable pub add_piece : Bool → List Piece → Piece → List Piece
add_piece true l p = push l p
add_piece false l p = l ++ (p ∷ [])

-- the first piece pushed or not, and those after it
unfoldable pub add_pieces : Bool → Bool → List Piece → List Piece → List Piece
add_pieces joins rejoins l [] = l
add_pieces joins rejoins l (p ∷ ps) = add_pieces rejoins rejoins (add_piece joins l p) ps
