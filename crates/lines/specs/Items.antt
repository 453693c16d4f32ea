-- What a lent pair of buffers holds: a list of items, each a byte with its tag.
-- Assumes nothing: these are definitions.
use Rattle.std.specs.Prelude.{ℕ, List, [], ◌∷◌, take}

-- a byte with its tag
pub record Item : Type 0 where
  pub byte : ℕ
  pub tag : ℕ

abbrev pub item : ℕ → ℕ → Item
item b t = record { byte = b; tag = t }

abbrev pub byte_of : Item → ℕ
byte_of x = x.byte

abbrev pub tag_of : Item → ℕ
tag_of x = x.tag

-- two parallel lists as one list of items
abbrev pub zip : List ℕ → List ℕ → List Item
zip [] ts = []
zip (b ∷ bs) [] = []
zip (b ∷ bs) (t ∷ ts) = item b t ∷ zip bs ts

-- the first n items of two parallel buffers
unfoldable pub items : List ℕ → List ℕ → ℕ → List Item
items bs ts n = zip (take n bs) (take n ts)

-- the tag of a name's start, and that of a name's bytes: no text has them
abbrev pub mark_tag : ℕ
mark_tag = 1048576

abbrev pub name_tag : ℕ
name_tag = 1114112

-- what a line holds, and how many entries its buffers have room for
pub record Entries : Type 0 where
  pub items : List Item
  pub room : ℕ
