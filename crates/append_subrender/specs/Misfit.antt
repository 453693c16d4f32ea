-- Refusal 10 of `append_subrender` and `append_vert_row` as a test, and the lines that they add where it does not meet them. That the two
-- calls are these is proved (proofs/Pairing, `subrender_lines`, `vert_row_lines`).
-- Assumes nothing: these are definitions.
use Rattle.std.specs.Prelude.{◌≡◌, Bool, true, false, ◌||◌, List, [], ◌∷◌, ◌++◌, ℕ}
use Rattle.std.proofs.Math.Option.{some}
use Rattle.fields.specs.Field.{Raw, raws, read_all}
use Rattle.fields.specs.Sheet.{read_prefix}
use Rattle.fields.specs.TaggedLine.{push_str}
use Rattle.rows.specs.SubRenderer.{in_front, later, between}
use Rattle.rows.specs.declared.RenderOptions.{RenderOptions}
use Rattle.fields.specs.Spans.{RenderLine, text, border, Cell, read_line, read_plain_cell}
use Rattle.rows.specs.Columns.{overlaps, holed_text}

-- ---- the test

-- a border whose holes overlap, so that `to_string` panics
abbrev pub overlapping : RenderLine → Bool
overlapping (text ps) = false
overlapping (border a segs hs) = overlaps segs 0 hs

-- one of these lines
unfoldable pub any_overlapping : List RenderLine → Bool
any_overlapping [] = false
any_overlapping (l ∷ ls) = overlapping l || any_overlapping ls

-- a line of the guest that has a prefix
unfoldable pub guest_misfit : Bool → List RenderLine → List (List ℕ) → Bool
guest_misfit rep [] ps = false
guest_misfit rep (g ∷ gs) [] = false
guest_misfit rep (g ∷ gs) (p ∷ ps) = overlapping g || guest_misfit rep gs (later rep p ps)

-- a line of a cell
unfoldable pub cells_misfit : List Cell → Bool
cells_misfit [] = false
cells_misfit (c ∷ cs) = any_overlapping c.lines || cells_misfit cs

-- ---- the lines

-- a line of the guest behind its prefix, where its holes do not overlap
abbrev pub behind_prefix : RenderOptions → List ℕ → RenderLine → RenderLine
behind_prefix s p (text ps) = text (in_front ps s.annotation p)
behind_prefix s p (border a segs hs) = text (push_str (push_str [] s.annotation p) s.annotation (holed_text segs 0 hs))

-- lines and prefixes in pairs
unfoldable pub behind_prefixes : RenderOptions → Bool → List RenderLine → List (List ℕ) → List RenderLine
behind_prefixes s rep [] ps = []
behind_prefixes s rep (g ∷ gs) [] = []
behind_prefixes s rep (g ∷ gs) (p ∷ ps) = behind_prefix s p g ∷ behind_prefixes s rep gs (later rep p ps)

-- the lines that cells add, below each other
unfoldable pub cell_lines : RenderOptions → Bool → List Cell → List RenderLine
cell_lines s first [] = []
cell_lines s first (c ∷ cs) = between s first ++ (behind_prefixes s true c.lines ([] ∷ []) ++ cell_lines s false cs)

-- ---- what the functions tell, of inputs that passed refusals 1 to 3

-- of a guest
abbrev pub TellsGuest : List ℕ → List ℕ → Bool → Bool → Type 0
TellsGuest guest prefixes rep r =
    (gs : List RenderLine) (ps : List (List ℕ)) → read_all read_line (raws guest) ≡ some gs → read_all read_prefix (raws prefixes) ≡ some ps
    → r ≡ guest_misfit rep gs ps

-- of one cell
abbrev pub TellsCell : Raw → Bool → Type 0
TellsCell field r = (c : Cell) → read_plain_cell field ≡ some c → r ≡ any_overlapping c.lines

-- of cells whose fields stand in a list
abbrev pub TellsCellFields : List Raw → Bool → Type 0
TellsCellFields fields r = (cs : List Cell) → read_all read_plain_cell fields ≡ some cs → r ≡ cells_misfit cs

-- of cells
abbrev pub TellsCells : List ℕ → Bool → Type 0
TellsCells cells r = TellsCellFields (raws cells) r
