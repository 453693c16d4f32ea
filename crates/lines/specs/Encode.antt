-- The pieces of a line of items, and the line's bytes in the house format.
-- Assumes nothing: these are definitions.
use Rattle.std.specs.Prelude.{Bool, false, ◌&&◌, ◌||◌, not, ℕ, suc, ◌%◌, List, [], ◌∷◌, ◌++◌, map, eqb, if◌then◌else◌}
use Rattle.fields.specs.Field.{field}
use Rattle.lines.specs.Items.{Item, byte_of, mark_tag, name_tag}

-- whether an item of tag u goes on the piece of an item of tag t before it: a name's byte does, and else an item of the same tag that is no mark
unfoldable pub joins : ℕ → ℕ → Bool
joins t u = eqb u name_tag || (eqb u t && not (eqb u mark_tag))

-- x in front of the first piece, or a piece of its own
unfoldable pub on_first : Item → List (List Item) → List (List Item)
on_first x [] = (x ∷ []) ∷ []
on_first x (p ∷ ps) = (x ∷ p) ∷ ps

-- whether a line goes on the piece of an item of tag t
unfoldable pub starts_with : ℕ → List Item → Bool
starts_with t [] = false
starts_with t (y ∷ ys) = joins t y.tag

-- a line's pieces
unfoldable pub pieces : List Item → List (List Item)
pieces [] = []
pieces (x ∷ xs) = if starts_with x.tag xs then on_first x (pieces xs) else (x ∷ []) ∷ pieces xs

-- the field of a piece with the tag t and these bytes: a name without its mark, or the annotation and the text
unfoldable pub field_of : ℕ → List ℕ → List ℕ
field_of t [] = []
field_of t (b ∷ bs) = if eqb t mark_tag then field 0x46 bs else field 0x53 (t % 256 ∷ b ∷ bs)

-- the field of a piece
unfoldable pub piece_field : List Item → List ℕ
piece_field [] = []
piece_field (x ∷ xs) = field_of x.tag (map byte_of (x ∷ xs))

-- the fields of pieces, one after the other
unfoldable pub piece_fields : List (List Item) → List ℕ
piece_fields [] = []
piece_fields (p ∷ ps) = piece_field p ++ piece_fields ps

-- what stands in a text line's L field
unfoldable pub content : List Item → List ℕ
content l = piece_fields (pieces l)

-- a whole text line
unfoldable pub line_field : List Item → List ℕ
line_field l = field 0x4C (content l)

-- how many of the tags after a tag t go on its piece
unfoldable pub run_t : ℕ → List ℕ → ℕ
run_t t [] = 0
run_t t (u ∷ us) = if joins t u then suc (run_t u us) else 0

-- how many entries at the front of the tags have the tag t
unfoldable pub same_t : ℕ → List ℕ → ℕ
same_t t [] = 0
same_t t (u ∷ us) = if eqb u t then suc (same_t t us) else 0
