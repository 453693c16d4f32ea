-- The three calls that lay guests onto a sheet (`SubRenderer`) where no cell spans rows, none hangs and no border has holes: one
-- definition for each step of the Rust, its methods under their names (document 01, "Rows and blocks on a sheet").
-- Assumes nothing: these are definitions.
use Rattle.std.specs.Prelude.{Bool, true, false, not, ◌&&◌, ◌||◌, List, [], ◌∷◌, ◌++◌, map, ℕ, zero, suc, ◌+◌, ◌-◌, length, replicate, if◌then◌else◌}
use Rattle.std.proofs.Math.Option
use Rattle.std.proofs.Math.Option.{Option, none, some, get_or}
use Rattle.fields.specs.Sheet.{Piece}
use Rattle.base.specs.Sheet.{RenderLine, text, border, Cell}
use Rattle.borders.specs.BorderSegHoriz.{Horiz, HorizVert}
use Rattle.borders.specs.BorderHoriz.{new_type, stretch_to, join_above, join_below, merge_from_below, merge_from_above, to_vertical_lines_above, to_string}
use Rattle.fields.specs.TaggedLine.{push_str, consume, pad_to}
use Rattle.rows.specs.SubRenderer.{in_front, later, max, edge}
use Rattle.rows.specs.declared.RenderOptions.{RenderOptions}

-- ---- `add_line`

-- `BorderHoriz::into_tagged_line`, under the border's own annotation
abbrev pub border_into_tagged_line : ℕ → List ℕ → List Piece
border_into_tagged_line a segs = push_str [] a (to_string segs)

-- `RenderLine::into_tagged_line`
abbrev pub into_tagged_line : RenderLine → List Piece
into_tagged_line (text ps) = ps
into_tagged_line (border a segs) = border_into_tagged_line a segs

-- with pad a line becomes text, filled to the sheet's width
unfoldable pub padded : RenderOptions → RenderLine → RenderLine
padded s l = if s.pad then text (pad_to (into_tagged_line l) s.width s.annotation) else l

-- `add_line`
unfoldable pub add_line : RenderOptions → List RenderLine → RenderLine → List RenderLine
add_line s ls l = ls ++ (padded s l ∷ [])

-- `extend_lines`
unfoldable pub extend_lines : RenderOptions → List RenderLine → List RenderLine → List RenderLine
extend_lines s ls [] = ls
extend_lines s ls (n ∷ new) = extend_lines s (add_line s ls n) new

-- ---- `append_subrender`

-- a line of the guest behind its prefix: a border becomes text with the sheet's annotation
unfoldable pub with_prefix : RenderOptions → List ℕ → RenderLine → RenderLine
with_prefix s p (text ps) = text (in_front ps s.annotation p)
with_prefix s p (border a segs) = text (push_str (push_str [] s.annotation p) s.annotation (to_string segs))

-- `zip`: pairs end with the shorter list
unfoldable pub prefixed : RenderOptions → Bool → List RenderLine → List (List ℕ) → List RenderLine
prefixed s rep [] ps = []
prefixed s rep (g ∷ gs) [] = []
prefixed s rep (g ∷ gs) (p ∷ ps) = with_prefix s p g ∷ prefixed s rep gs (later rep p ps)

-- `append_subrender`
unfoldable pub append_subrender : RenderOptions → List RenderLine → List RenderLine → Bool → List (List ℕ) → List RenderLine
append_subrender s old guest rep ps = extend_lines s old (prefixed s rep guest ps)

-- ---- `append_columns_with_borders`

-- `LineSet`, with its entry of `column_padding`
pub record LineSet : Type 0 where
  pub width : ℕ
  pub lines : List RenderLine
  pub padding : Option (List ℕ)

-- `LineSet { width, lines }`
abbrev pub line_set : ℕ → List RenderLine → Option (List ℕ) → LineSet
line_set w ls p = record { width = w; lines = ls; padding = p }

-- a text is padded and a border stretched to its cell's width
unfoldable pub filled : RenderOptions → ℕ → RenderLine → RenderLine
filled s w (text ps) = text (pad_to ps w s.annotation)
filled s w (border a segs) = border a (stretch_to segs w)

-- `line_sets`
unfoldable pub line_sets : RenderOptions → List Cell → List LineSet
line_sets s cs = map (λ c. line_set c.width (map (filled s c.width) c.lines) none) cs

-- `tot_width`, one too high
unfoldable pub widths : List LineSet → ℕ
widths [] = 0
widths (c ∷ cs) = suc c.width + widths cs

-- a change of the last line, if that is a border
unfoldable pub on_last : (List ℕ → List ℕ) → List RenderLine → List RenderLine
on_last f [] = []
on_last f (text ps ∷ []) = text ps ∷ []
on_last f (border a segs ∷ []) = border a (f segs) ∷ []
on_last f (r ∷ q ∷ ls) = r ∷ on_last f (q ∷ ls)

-- `matches!(.., RenderLine::Line(_))`
abbrev pub is_border : RenderLine → Bool
is_border (text ps) = false
is_border (border a segs) = true

-- the last line is a border
unfoldable pub ends_in_border : List RenderLine → Bool
ends_in_border [] = false
ends_in_border (r ∷ []) = is_border r
ends_in_border (r ∷ q ∷ ls) = ends_in_border (q ∷ ls)

-- "Join the vertical lines to all the borders": a join at each inner edge
unfoldable pub join_edges : (List ℕ → ℕ → List ℕ) → ℕ → List LineSet → List ℕ → List ℕ
join_edges join pos [] b = b
join_edges join pos (c ∷ []) b = b
join_edges join pos (c ∷ d ∷ cs) b = join_edges join (pos + c.width + 1) (d ∷ cs) (join b (pos + c.width))

-- `prev_border`: joined below, and stretched if this row is wider
unfoldable pub prev_border : List LineSet → List ℕ → List ℕ
prev_border cs b = stretch_to (join_edges join_below 0 cs b) (widths cs - 1)

-- `next_border`: joined above if there is a border above the row
unfoldable pub next_border : Bool → List LineSet → List ℕ
next_border joined cs =
    if joined then join_edges join_above 0 cs (new_type (widths cs - 1) Horiz) else new_type (widths cs - 1) Horiz

-- `starts_border`
abbrev pub starts_border : List RenderLine → Bool
starts_border [] = false
starts_border (r ∷ ls) = is_border r

-- the segments of a first border
abbrev pub top : List RenderLine → List ℕ
top [] = []
top (text ps ∷ ls) = []
top (border a segs ∷ ls) = segs

-- `pop_front` of a first border
abbrev pub without_top : List RenderLine → List RenderLine
without_top [] = []
without_top (text ps ∷ ls) = text ps ∷ ls
without_top (border a segs ∷ ls) = ls

-- "Collapse any top border"
unfoldable pub merge_tops : ℕ → List LineSet → List ℕ → List ℕ
merge_tops pos [] b = b
merge_tops pos (c ∷ cs) b = merge_tops (pos + c.width + 1) cs (merge_from_below b (top c.lines) pos)

-- a cell without its first border
unfoldable pub drop_top : LineSet → LineSet
drop_top c = line_set c.width (without_top c.lines) c.padding

-- the segments of a last border
unfoldable pub bottom : List RenderLine → Option (List ℕ)
bottom [] = none
bottom (text ps ∷ []) = none
bottom (border a segs ∷ []) = some segs
bottom (r ∷ q ∷ ls) = bottom (q ∷ ls)

-- `pop_back` of a last border
unfoldable pub without_bottom : List RenderLine → List RenderLine
without_bottom [] = []
without_bottom (text ps ∷ []) = text ps ∷ []
without_bottom (border a segs ∷ []) = []
without_bottom (r ∷ q ∷ ls) = r ∷ without_bottom (q ∷ ls)

-- "Collapse any bottom border"
unfoldable pub merge_bottoms : ℕ → List LineSet → List ℕ → List ℕ
merge_bottoms pos [] b = b
merge_bottoms pos (c ∷ cs) b =
    merge_bottoms (pos + c.width + 1) cs (merge_from_above b (get_or (bottom c.lines) []) pos)

-- a cell without its last border, which leaves its padding pattern
unfoldable pub drop_bottom : LineSet → LineSet
drop_bottom c = line_set c.width (without_bottom c.lines) (Option.map to_vertical_lines_above (bottom c.lines))

-- `cell_height` of the row: its tallest cell's
unfoldable pub height : List LineSet → ℕ
height [] = 0
height (c ∷ cs) = max (length c.lines) (height cs)

-- what a cell gives to a line of the row: its own line, re-pushed, or its pattern, or spaces
abbrev pub add_cell : RenderOptions → List Piece → LineSet → List RenderLine → List Piece
add_cell s line c [] = push_str line s.annotation (get_or c.padding (replicate c.width 0x20))
add_cell s line c (text ps ∷ ls) = consume line ps
add_cell s line c (border a segs ∷ ls) = push_str line s.annotation (to_string segs)

-- a line of the row
unfoldable pub row_line : RenderOptions → List Piece → List LineSet → List Piece
row_line s line [] = line
row_line s line (c ∷ []) = add_cell s line c c.lines
row_line s line (c ∷ d ∷ cs) = row_line s (push_str (add_cell s line c c.lines) s.annotation (edge s)) (d ∷ cs)

-- all but the first
abbrev pub rest : List RenderLine → List RenderLine
rest [] = []
rest (r ∷ ls) = ls

-- a cell without its first line
unfoldable pub next_line : LineSet → LineSet
next_line c = line_set c.width (rest c.lines) c.padding

-- n lines of the row
unfoldable pub row_lines : RenderOptions → ℕ → List LineSet → List RenderLine
row_lines s zero cs = []
row_lines s (suc n) cs = text (row_line s [] cs) ∷ row_lines s n (map next_line cs)

-- `if self.options.draw_borders`
abbrev pub if_drawn : RenderOptions → RenderLine → List RenderLine
if_drawn s l = if s.borders then l ∷ [] else []

-- the row, with the border below it
unfoldable pub row : RenderOptions → List LineSet → List ℕ → List RenderLine
row s cs b = row_lines s (height cs) cs ++ if_drawn s (border s.annotation b)

-- over the line sets, collapsing or not
unfoldable pub append_line_sets : RenderOptions → List RenderLine → List LineSet → Bool → List RenderLine
append_line_sets s old cs false = extend_lines s (on_last (prev_border cs) old) (row s cs (next_border (ends_in_border old) cs))
append_line_sets s old cs true =
    let ds = map drop_top cs in
    extend_lines s (on_last (λ b. merge_tops 0 cs (prev_border cs b)) old)
    (row s (map drop_bottom ds) (merge_bottoms 0 ds (next_border (ends_in_border old) cs)))

-- `append_columns_with_borders`
unfoldable pub append_columns_with_borders : RenderOptions → List RenderLine → List Cell → Bool → List RenderLine
append_columns_with_borders s old cs collapse = append_line_sets s old (line_sets s cs) collapse

-- some cell starts with a border
unfoldable pub any_starts_border : List Cell → Bool
any_starts_border [] = false
any_starts_border (c ∷ cs) = starts_border c.lines || any_starts_border cs

-- refusal 6
unfoldable pub no_border_above : List RenderLine → List Cell → Bool → Bool
no_border_above old cs collapse = collapse && any_starts_border cs && not (ends_in_border old)

-- ---- `append_vert_row`

-- a border of HorizVert between two cells
abbrev pub between : RenderOptions → Bool → List RenderLine
between s first = if first then [] else if_drawn s (border s.annotation (new_type s.width HorizVert))

-- each cell with an empty prefix that repeats
unfoldable pub append_each : RenderOptions → Bool → List RenderLine → List Cell → List RenderLine
append_each s first old [] = old
append_each s first old (c ∷ cs) =
    append_each s false (append_subrender s (extend_lines s old (between s first)) c.lines true ([] ∷ [])) cs

-- `append_vert_row`
unfoldable pub append_vert_row : RenderOptions → List RenderLine → List Cell → List RenderLine
append_vert_row s old cs =
    extend_lines s (append_each s true old cs) (if_drawn s (border s.annotation (new_type s.width Horiz)))
