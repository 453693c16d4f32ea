-- How the buffers hold a flat line: an item a byte of text, and for a name a mark and an item a byte.
-- Assumes nothing: these are definitions.
use Rattle.std.specs.Prelude.{◌≡◌, false, List, [], ◌∷◌, ◌++◌, ℕ, ◌+◌, ◌*◌, ◌<◌}
use Rattle.characters.specs.Columns.{cols}
use Rattle.characters.specs.Utf8.{utf8, Scalar}
use Rattle.fields.specs.Job.{Mode, normal, pre, pre_wrap}
use Rattle.block.specs.Tag.{Tag, same_tag}
use Rattle.block.specs.Flat.{char, name, Line}
use Rattle.lines.specs.Items.{Item, item, mark_tag, name_tag}

abbrev pub mode_no : Mode → ℕ
mode_no normal = 0
mode_no pre = 1
mode_no pre_wrap = 2

-- annotation and mode in one number
unfoldable pub num : Tag → ℕ
num t = t.ann + 65536 * mode_no t.mode

-- bytes, each with one tag
unfoldable pub tagged : ℕ → List ℕ → List Item
tagged t [] = []
tagged t (b ∷ bs) = item b t ∷ tagged t bs

-- the items of a line
unfoldable pub enc : Line → List Item
enc [] = []
enc (char c t ∷ l) = tagged (num t) (utf8 c) ++ enc l
enc (name n ∷ l) = item 0 mark_tag ∷ tagged name_tag n ++ enc l

-- scalar values, and annotations of a byte
abbrev pub Valid : Line → Type 0
Valid [] = Unit {0}
Valid (char c t ∷ l) = Scalar c × (t.ann < 256) × Valid l
Valid (name n ∷ l) = Valid l

-- characters of one tag
abbrev pub text : Tag → List ℕ → Line
text t [] = []
text t (c ∷ cs) = char c t ∷ text t cs

-- what comes next does not go on a piece of the tag t
abbrev pub Cut : Tag → Line → Type 0
Cut t [] = Unit {0}
Cut t (char c u ∷ l) = same_tag t u ≡ false
Cut t (name n ∷ l) = Unit {0}

-- no more of a text goes on a line with so many columns left
abbrev pub Stops : ℕ → List ℕ → Type 0
Stops k [] = Unit {0}
Stops k (c ∷ cs) = k < cols c
