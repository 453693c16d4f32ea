-- THE BASE STAYS: on inputs without K, G and V fields and without names that wait, good or broken, the three calls of requests 2.1 and 2.2
-- answer what document 01's do: number, length and every byte of the store.
-- Assumes nothing.
use mathlib.Core.Path.{◌≡◌, refl, sym, ap, ap₂, ◌∙◌}
use mathlib.Core.Bool.{Bool, true, false, not, ◌&&◌, ◌||◌, true≢false}
use mathlib.Core.Option
use mathlib.Core.Option.{Option, none, some, get_or}
use mathlib.Core.List.{List, [], ◌∷◌, ◌++◌, map, append-nil}
use Prim.Native.Nat.{ℕ, zero, suc, ◌+◌, ◌-◌, ◌*◌, ◌≤◌}
use native.Mathlib.Omega.{arith}
use lib.Dec.{leb, ltb, eqb}
use lib.ListN.{length, replicate, drop, length-map}
use Rattle.std.proofs.lemmas.List.{map-append}
use borrow.Author.Tests.{le-leb, not-true}
use Rattle.std.specs.Prelude.{if◌then◌else◌}
use Rattle.characters.proofs.Tests.{by_if, and_left, and_right}
use Rattle.fields.specs.Field.{field, Raw, whole, broken, raws, both, read_all, all}
use Rattle.fields.specs.Text.{readable_text}
use Rattle.fields.specs.Sheet.{Piece, read_piece, is_segment, up_to16, read_prefixes}
use Rattle.base.specs.Sheet.{RenderLine as BaseLine, text as base-text, border as base-border, Cell as BaseCell, read_border as base-readBorder, read_line as base-readLine, counted as base-counted, read_headed as base-readHeaded, read_sheet as base-readSheet, read_cell_content as base-readCellContent, read_cell as base-readCell, read_cells as base-readCells, readable_line as base-readableLine, readable_lines as base-readableLines, readable_cell as base-readableCell, content as base-content, letter as base-letter, lines_bytes as base-linesBytes, sheet_bytes as base-sheetBytes}
use Rattle.fields.specs.Answer.{Verdict, refused, in_store, give}
use Rattle.fields.proofs.Back.{Every}
use Rattle.borders.specs.BorderSegHoriz.{Horiz, HorizVert}
use Rattle.borders.specs.BorderHoriz.{new_type, stretch_to, join_above, join_below, merge_from_below, merge_from_above, to_vertical_lines_above, border_of, to_string_from, holed_to_string, into_tagged_from, border_into_tagged_line}
use Rattle.fields.specs.TaggedLine.{push_str}
use Rattle.rows.specs.declared.RenderOptions.{RenderOptions}
use Rattle.rows.specs.SubRenderer.{Extended, extended, on_sheet, still_waiting, later, max, edge, padded, add_line, extend_lines, if_drawn, with_prefix, prefixed, append_subrender, LineSet, line_set, filled, line_sets, widths, placing, place_all, placed, on_last, ends_in_border, join_edges, prev_border, next_border, starts_border, top, without_top, merge_tops, drop_top, bottom, without_bottom, merge_bottoms, drop_bottom, height, fill, add_cell, row_line, rest, next_line, row_lines, Hangs, hangs, hang_one, hang_all, row, append_line_sets, append_columns_with_borders, any_starts_border, no_border_above, between, append_each, append_vert_row}
use Rattle.base.specs.SubRenderer.{padded as base-padded, add_line as base-add-line, extend_lines as base-extend-lines, with_prefix as base-withPrefix, prefixed as base-prefixed, append_subrender as base-append-subrender, LineSet as BaseSet, filled as base-filled, line_sets as base-lineSets, widths as base-widths, on_last as base-onLast, ends_in_border as base-endsInBorder, join_edges as base-joinEdges, prev_border as base-prevBorder, next_border as base-nextBorder, starts_border as base-startsBorder, top as base-top, without_top as base-withoutTop, merge_tops as base-mergeTops, drop_top as base-dropTop, bottom as base-bottom, without_bottom as base-withoutBottom, merge_bottoms as base-mergeBottoms, drop_bottom as base-dropBottom, height as base-height, add_cell as base-addCell, row_line as base-rowLine, rest as base-rest, next_line as base-nextLine, row_lines as base-rowLines, row as base-row, if_drawn as base-ifDrawn, append_line_sets as base-appendLineSets, append_columns_with_borders as base-append-columns, any_starts_border as base-anyStartsBorder, no_border_above as base-noBorderAbove, between as base-between, append_each as base-appendEach, append_vert_row as base-append-vert-row}
use Rattle.base.specs.Answer.{Verdict as BaseVerdict, refused as base-refused, sheet as base-sheet, give as base-give, has_width as base-wide, fits as base-fits, finished as base-finished, subrender_verdict as base-subrenderVerdict, columns_verdict as base-columnsVerdict, vert_row_verdict as base-vertRowVerdict, subrender_answer as base-subrenderAnswer, columns_answer as base-columnsAnswer, vert_row_answer as base-vertRowAnswer}
use Rattle.fields.specs.Spans.{RenderLine, text, border, cell, read_border, read_line, is_hanging, before_hanging, from_hanging, is_name, before_names, from_names, parts, counted, read_headed, read_sheet, read_cell_content, read_cell, read_cells, read_plain_cell, read_plain_cells, wide, readable_line, readable_lines, readable_names, readable_sheet, readable_cell, content, letter, lines_bytes, overhang_bytes, names_bytes, sheet_bytes}
use Rattle.rows.specs.Answer.{fits, finished, subrender_verdict, columns_verdict, vert_row_verdict, subrender_answer, columns_answer, vert_row_answer}
use Rattle.base.specs.Base.{as_line, as_sheet, as_cell, as_verdict, not_holed, not_hanging, not_name, base_sheet, base_cell, base_cells, read_unwaited}

-- ---- options, choices and lists

map_map : {A B C : Type 0} (g : B → C) (f : A → B) (h : A → C) → ((a : A) → g (f a) ≡ h a) → (o : Option A) → Option.map h o ≡ Option.map g (Option.map f o)
map_map g f h e none = refl
map_map g f h e (some a) = ap some (sym (e a))

-- two readings and no third
pick : {A B : Type 0} (f : A → B) (a b c : Bool) (x : Option B) (x' : Option A) (y : Option B) (y' : Option A) (z : Option B) → c ≡ false
    → x ≡ Option.map f x' → y ≡ Option.map f y'
    → (if a then x else if b then y else if c then z else none) ≡ Option.map f (if a then x' else if b then y' else none)
pick f true b c x x' y y' z e p q = p
pick f false true c x x' y y' z e p q = q
pick f false false true x x' y y' z e p q = absurd (true≢false e)
pick f false false false x x' y y' z e p q = refl

pick_one : {A B : Type 0} (f : A → B) (a c : Bool) (x : Option B) (x' : Option A) (z : Option B) → c ≡ false → x ≡ Option.map f x'
    → (if a then x else if c then z else none) ≡ Option.map f (if a then x' else none)
pick_one f true c x x' z e p = p
pick_one f false true x x' z e p = absurd (true≢false e)
pick_one f false false x x' z e p = refl

pick_only : {A B : Type 0} (f : A → B) (a : Bool) (x : Option B) (x' : Option A) → x ≡ Option.map f x'
    → (if a then x else none) ≡ Option.map f (if a then x' else none)
pick_only f true x x' p = p
pick_only f false x x' p = refl

if_map : {A B : Type 0} (f : A → B) (c : Bool) (x y : A) (x' y' : B) → x' ≡ f x → y' ≡ f y → (if c then x' else y') ≡ f (if c then x else y)
if_map f true x y x' y' p q = p
if_map f false x y x' y' p q = q

-- a map through another
map_through : {A B : Type 0} (f : A → B) (g : B → B) (h : A → A) → ((a : A) → g (f a) ≡ f (h a)) → (l : List A) → map g (map f l) ≡ map f (map h l)
map_through f g h e [] = refl
map_through f g h e (a ∷ l) = ap₂ ◌∷◌ (e a) (map_through f g h e l)

all_map : {A B : Type 0} (f : A → B) (p : B → Bool) (q : A → Bool) → ((a : A) → p (f a) ≡ q a) → (l : List A) → all p (map f l) ≡ all q l
unfolding all
all_map f p q e [] = refl
all_map f p q e (a ∷ l) = ap₂ ◌&&◌ (e a) (all_map f p q e l)

and_true : (b : Bool) → (b && true) ≡ b
and_true true = refl
and_true false = refl

-- ---- reading

both_map : {A B : Type 0} (f : A → B) (o : Option A) (q : Option (List A)) → both (Option.map f o) (Option.map (map f) q) ≡ Option.map (map f) (both o q)
both_map f none q = refl
both_map f (some a) none = refl
both_map f (some a) (some l) = refl

read_all_lem : {A B : Type 0} (p : Raw → Bool) (h : A → B) (f : Raw → Option B) (g : Raw → Option A) → ((r : Raw) → p r ≡ true → f r ≡ Option.map h (g r))
    → (rs : List Raw) → all p rs ≡ true → read_all f rs ≡ Option.map (map h) (read_all g rs)
unfolding all read_all
read_all_lem p h f g e [] k = refl
read_all_lem p h f g e (r ∷ rs) k =
    ap₂ both (e r (and_left (p r) (all p rs) k)) (read_all_lem p h f g e rs (and_right (p r) (all p rs) k)) ∙ both_map h (g r) (read_all g rs)

border_base : (t : List ℕ) → read_border t ≡ Option.map as_line (base-readBorder t)
border_base [] = refl
border_base (a ∷ segs) = pick_only as_line (all is_segment segs) _ _ refl

line_base : (r : Raw) → not_holed r ≡ true → read_line r ≡ Option.map as_line (base-readLine r)
unfolding read_line base-readLine
line_base broken e = refl
line_base (whole l t) e =
    pick as_line (eqb l 0x4C) (eqb l 0x42) (eqb l 0x47) _ _ _ _ _ (not-true (eqb l 0x47) e)
    (map_map as_line base-text text (λ ps. refl) (read_all read_piece (raws t))) (border_base t)

-- THE LINES ARE THE BASE'S.
lines_base : (rs : List Raw) → all not_holed rs ≡ true → read_all read_line rs ≡ Option.map (map as_line) (read_all base-readLine rs)
lines_base rs e = read_all_lem not_holed as_line read_line base-readLine line_base rs e

not_hanging_lem : (r : Raw) → not_hanging r ≡ true → is_hanging r ≡ false
not_hanging_lem broken e = refl
not_hanging_lem (whole l t) e = not-true (eqb l 0x56) e

before_all : (rs : List Raw) → all not_hanging rs ≡ true → before_hanging rs ≡ rs
unfolding before_hanging all
before_all [] e = refl
before_all (r ∷ rs) e =
    rw (not_hanging_lem r (and_left (not_hanging r) (all not_hanging rs) e)) (ap (λ (l : List Raw). r ∷ l) (before_all rs (and_right (not_hanging r) (all not_hanging rs) e)))

from_none : (rs : List Raw) → all not_hanging rs ≡ true → from_hanging rs ≡ []
unfolding from_hanging all
from_none [] e = refl
from_none (r ∷ rs) e =
    rw (not_hanging_lem r (and_left (not_hanging r) (all not_hanging rs) e)) (from_none rs (and_right (not_hanging r) (all not_hanging rs) e))

not_name_lem : (r : Raw) → not_name r ≡ true → is_name r ≡ false
not_name_lem broken e = refl
not_name_lem (whole l t) e = not-true (eqb l 0x46) e

before_unnamed : (rs : List Raw) → all not_name rs ≡ true → before_names rs ≡ rs
unfolding before_names all
before_unnamed [] e = refl
before_unnamed (r ∷ rs) e =
    rw (not_name_lem r (and_left (not_name r) (all not_name rs) e)) (ap (λ (l : List Raw). r ∷ l) (before_unnamed rs (and_right (not_name r) (all not_name rs) e)))

from_unnamed : (rs : List Raw) → all not_name rs ≡ true → from_names rs ≡ []
unfolding from_names all
from_unnamed [] e = refl
from_unnamed (r ∷ rs) e =
    rw (not_name_lem r (and_left (not_name r) (all not_name rs) e)) (from_unnamed rs (and_right (not_name r) (all not_name rs) e))

counted_base : (t : List ℕ) (o : Option (List BaseLine)) → counted t (parts (Option.map (map as_line) o) (some []) (some [])) ≡ Option.map as_sheet (base-counted t o)
counted_base t none = refl
counted_base [] (some ls) = refl
counted_base (h ∷ []) (some ls) = refl
counted_base (h ∷ o ∷ []) (some ls) = rw (length-map ls as_line) (pick_only as_sheet (eqb (h * 256 + o) (length ls)) _ _ refl)
counted_base (h ∷ o ∷ x ∷ xs) (some ls) = refl

headed_base : (rs : List Raw) → all not_holed rs ≡ true → all not_hanging rs ≡ true → all not_name rs ≡ true → read_headed rs ≡ Option.map as_sheet (base-readHeaded rs)
unfolding read_headed base-readHeaded all read_all
headed_base [] e k m = refl
headed_base (broken ∷ rs) e k m = refl
headed_base (whole l t ∷ rs) e k m =
    let e' = and_right (not_holed (whole l t)) (all not_holed rs) e in
    let k' = and_right (not_hanging (whole l t)) (all not_hanging rs) k in
    let m' = and_right (not_name (whole l t)) (all not_name rs) m in
    pick_only as_sheet (eqb l 0x48) _ _
    (rw (before_all rs k', from_none rs k', before_unnamed rs m', from_unnamed rs m', lines_base rs e') (counted_base t (read_all base-readLine rs)))

before_still : (rs : List Raw) → all not_name rs ≡ true → all not_name (before_hanging rs) ≡ true
unfolding before_hanging all
before_still [] e = refl
before_still (r ∷ rs) e =
    by_if (λ (l : List Raw). all not_name l ≡ true) (is_hanging r) (λ _. refl)
    (λ _. rw (and_left (not_name r) (all not_name rs) e) (before_still rs (and_right (not_name r) (all not_name rs) e)))

unwaited_headed : (rs : List Raw) → all not_name rs ≡ true → read_headed rs ≡ read_unwaited rs
unfolding read_headed read_unwaited read_all all
unwaited_headed [] e = refl
unwaited_headed (broken ∷ rs) e = refl
unwaited_headed (whole l t ∷ rs) e =
    let k = before_still rs (and_right (not_name (whole l t)) (all not_name rs) e) in
    rw (before_unnamed (before_hanging rs) k, from_unnamed (before_hanging rs) k)

-- A SHEET WITHOUT F FIELDS OF ITS OWN, good or broken, IS READ AS REQUEST 2.1 READS IT: only F fields after the last line left refusal 1.
pub sheet_unwaited : (bs : List ℕ) → all not_name (raws bs) ≡ true → read_sheet bs ≡ read_unwaited (raws bs)
unfolding read_sheet
sheet_unwaited bs e = unwaited_headed (raws bs) e

-- THE SHEET IS THE BASE'S.
pub sheet_base : (bs : List ℕ) → base_sheet bs ≡ true → read_sheet bs ≡ Option.map as_sheet (base-readSheet bs)
unfolding read_sheet base-readSheet
sheet_base bs e =
    let x = all not_holed (raws bs) in
    let y = all not_hanging (raws bs) in
    let z = all not_name (raws bs) in
    let f = and_left (x && y) z e in
    headed_base (raws bs) (and_left x y f) (and_right x y f) (and_right (x && y) z e)

content_base : (t : List ℕ) → all not_holed (raws (drop 1 t)) ≡ true → read_cell_content t ≡ Option.map as_cell (base-readCellContent t)
content_base [] e = refl
content_base (w ∷ ls) e = rw (lines_base (raws ls) e) (inner (read_all base-readLine (raws ls)))
  where
    inner : (o : Option (List BaseLine)) → Option.map (cell w 1) (Option.map (map as_line) o) ≡ Option.map as_cell (Option.map (λ ls. record { width = w; lines = ls }) o)
    inner none = refl
    inner (some l) = refl

cell_base : (r : Raw) → base_cell r ≡ true → read_cell r ≡ Option.map as_cell (base-readCell r)
unfolding read_cell base-readCell
cell_base broken e = refl
cell_base (whole l t) e =
    pick_one as_cell (eqb l 0x43) (eqb l 0x4B) _ _ _ (not-true (eqb l 0x4B) (and_left (not (eqb l 0x4B)) (all not_holed (raws (drop 1 t))) e))
    (content_base t (and_right (not (eqb l 0x4B)) (all not_holed (raws (drop 1 t))) e))

plain_base : (r : Raw) → base_cell r ≡ true → read_plain_cell r ≡ Option.map as_cell (base-readCell r)
unfolding read_plain_cell base-readCell
plain_base broken e = refl
plain_base (whole l t) e =
    pick_only as_cell (eqb l 0x43) _ _ (content_base t (and_right (not (eqb l 0x4B)) (all not_holed (raws (drop 1 t))) e))

sixteen : {A B : Type 0} (f : A → B) (o : Option (List A)) → up_to16 (Option.map (map f) o) ≡ Option.map (map f) (up_to16 o)
sixteen f none = refl
sixteen f (some l) = rw (length-map l f) (pick_only (map f) (leb (length l) 16) _ _ refl)

-- THE CELLS ARE THE BASE'S.
pub cells_base : (bs : List ℕ) → base_cells bs ≡ true → read_cells bs ≡ Option.map (map as_cell) (base-readCells bs)
unfolding read_cells base-readCells
cells_base bs e = ap up_to16 (read_all_lem base_cell as_cell read_cell base-readCell cell_base (raws bs) e) ∙ sixteen as_cell (read_all base-readCell (raws bs))

pub plain_cells_base : (bs : List ℕ) → base_cells bs ≡ true → read_plain_cells bs ≡ Option.map (map as_cell) (base-readCells bs)
unfolding read_plain_cells base-readCells
plain_cells_base bs e = ap up_to16 (read_all_lem base_cell as_cell read_plain_cell base-readCell plain_base (raws bs) e) ∙ sixteen as_cell (read_all base-readCell (raws bs))

-- ---- `add_line`

padded_base : (s : RenderOptions) (l : BaseLine) → padded s (as_line l) ≡ as_line (base-padded s l)
unfolding padded base-padded border_into_tagged_line into_tagged_from
padded_base s (base-text ps) = if_map as_line s.pad _ _ _ _ refl refl
padded_base s (base-border a segs) = if_map as_line s.pad _ _ _ _ refl refl

-- lines on which no name waits
abbrev bare : List BaseLine → Extended
bare ls = extended (map as_line ls) []

none_waits : (l : RenderLine) → still_waiting [] l ≡ []
none_waits (text ps) = refl
none_waits (border a segs hs) = refl

extend_base : (s : RenderOptions) (ls new : List BaseLine) → extend_lines s (bare ls) (map as_line new) ≡ bare (base-extend-lines s ls new)
unfolding extend_lines base-extend-lines add_line base-add-line
extend_base s ls [] = refl
extend_base s ls (n ∷ new) =
    ap₂ (λ (l : List RenderLine) (ns : List (List ℕ)). extend_lines s (extended l ns) (map as_line new))
    (ap (λ (r : RenderLine). map as_line ls ++ (r ∷ [])) (padded_base s n) ∙ sym (map-append as_line ls (base-padded s n ∷ [])))
    (none_waits (as_line n))
    ∙ extend_base s (base-add-line s ls n) new

drawn_base : (s : RenderOptions) (l : BaseLine) → if_drawn s (as_line l) ≡ map as_line (base-ifDrawn s l)
drawn_base s l = if_map (map as_line) s.borders (l ∷ []) [] _ _ refl refl

-- ---- `append_subrender`

prefix_base : (s : RenderOptions) (p : List ℕ) (g : BaseLine) → with_prefix s p (as_line g) ≡ some (as_line (base-withPrefix s p g))
unfolding with_prefix base-withPrefix holed_to_string to_string_from
prefix_base s p (base-text ps) = refl
prefix_base s p (base-border a segs) = refl

prefixed_base : (s : RenderOptions) (rep : Bool) (gs : List BaseLine) (ps : List (List ℕ)) → prefixed s rep (map as_line gs) ps ≡ some (map as_line (base-prefixed s rep gs ps))
unfolding prefixed base-prefixed
prefixed_base s rep [] ps = refl
prefixed_base s rep (g ∷ gs) [] = refl
prefixed_base s rep (g ∷ gs) (p ∷ ps) = rw (prefix_base s p g) (rw (prefixed_base s rep gs (later rep p ps)))

-- `append_subrender` IS THE BASE'S.
pub subrender_lines_base : (s : RenderOptions) (old guest : List BaseLine) (rep : Bool) (ps : List (List ℕ))
    → append_subrender s (bare old) (map as_line guest) rep ps ≡ some (bare (base-append-subrender s old guest rep ps))
unfolding append_subrender base-append-subrender
subrender_lines_base s old guest rep ps = rw (prefixed_base s rep guest ps) (ap some (extend_base s old (base-prefixed s rep guest ps)))

-- ---- `append_columns_with_borders`: line sets

-- the base's line sets, the first at pos
abbrev as_sets : ℕ → List BaseSet → List LineSet
as_sets pos [] = []
as_sets pos (d ∷ ds) = line_set pos d.width 1 (map as_line d.lines) d.padding ∷ as_sets (pos + d.width + 1) ds

filled_base : (s : RenderOptions) (w : ℕ) (l : BaseLine) → filled s w (as_line l) ≡ as_line (base-filled s w l)
unfolding filled base-filled
filled_base s w (base-text ps) = refl
filled_base s w (base-border a segs) = refl

sets_base : (s : RenderOptions) (pos : ℕ) (cs : List BaseCell) → line_sets s pos (map as_cell cs) ≡ as_sets pos (base-lineSets s cs)
unfolding line_sets base-lineSets
sets_base s pos [] = refl
sets_base s pos (c ∷ cs) =
    ap₂ (λ (ls : List RenderLine) (rs : List LineSet). line_set pos c.width 1 ls none ∷ rs)
    (map_through as_line (filled s c.width) (base-filled s c.width) (filled_base s c.width) c.lines)
    (sets_base s (pos + c.width + 1) cs)

widths_base : (q : ℕ) (ds : List BaseSet) → widths (as_sets q ds) ≡ base-widths ds
unfolding widths base-widths
widths_base q [] = refl
widths_base q (d ∷ ds) = ap (λ (n : ℕ). suc d.width + n) (widths_base (q + d.width + 1) ds)

-- each cell is within the row
within : (t : ℕ) (ds : List BaseSet) → base-widths ds ≤ suc t → Every (λ (d : BaseSet). d.width ≤ t) ds
unfolding base-widths
within t [] h = tt
within t (d ∷ ds) h = (omega arith, within t ds (omega arith))

edges_base : (join : List ℕ → ℕ → List ℕ) (pos q : ℕ) (ds : List BaseSet) (b : List ℕ) → join_edges join pos (as_sets q ds) b ≡ base-joinEdges join pos ds b
unfolding join_edges base-joinEdges
edges_base join pos q [] b = refl
edges_base join pos q (d ∷ []) b = refl
edges_base join pos q (d ∷ e ∷ ds) b = edges_base join (pos + d.width + 1) (q + d.width + 1) (e ∷ ds) (join b (pos + d.width))

prev_base : (q : ℕ) (ds : List BaseSet) (b : List ℕ) → prev_border (as_sets q ds) b ≡ base-prevBorder ds b
unfolding prev_border base-prevBorder
prev_base q ds b = ap₂ stretch_to (edges_base join_below 0 q ds b) (ap (λ (n : ℕ). n - 1) (widths_base q ds))

next_base : (joined : Bool) (q : ℕ) (ds : List BaseSet) → next_border joined (base-widths ds - 1) (as_sets q ds) ≡ base-nextBorder joined ds
unfolding next_border base-nextBorder
next_base true q ds = edges_base join_above 0 q ds (new_type (base-widths ds - 1) Horiz)
next_base false q ds = refl

-- ---- first and last borders

top_base : (ls : List BaseLine) → top (map as_line ls) ≡ base-top ls
top_base [] = refl
top_base (base-text ps ∷ ls) = refl
top_base (base-border a segs ∷ ls) = refl

without_top_base : (ls : List BaseLine) → without_top (map as_line ls) ≡ map as_line (base-withoutTop ls)
without_top_base [] = refl
without_top_base (base-text ps ∷ ls) = refl
without_top_base (base-border a segs ∷ ls) = refl

bottom_base : (ls : List BaseLine) → bottom (map as_line ls) ≡ base-bottom ls
unfolding bottom base-bottom
bottom_base [] = refl
bottom_base (base-text ps ∷ []) = refl
bottom_base (base-border a segs ∷ []) = refl
bottom_base (base-text ps ∷ q ∷ ls) = bottom_base (q ∷ ls)
bottom_base (base-border a segs ∷ q ∷ ls) = bottom_base (q ∷ ls)

without_bottom_base : (ls : List BaseLine) → without_bottom (map as_line ls) ≡ map as_line (base-withoutBottom ls)
unfolding without_bottom base-withoutBottom
without_bottom_base [] = refl
without_bottom_base (base-text ps ∷ []) = refl
without_bottom_base (base-border a segs ∷ []) = refl
without_bottom_base (base-text ps ∷ q ∷ ls) = ap (λ (l : List RenderLine). text ps ∷ l) (without_bottom_base (q ∷ ls))
without_bottom_base (base-border a segs ∷ q ∷ ls) = ap (λ (l : List RenderLine). border a segs [] ∷ l) (without_bottom_base (q ∷ ls))

tops_base : (pos q : ℕ) (ds : List BaseSet) (b : List ℕ) → merge_tops pos (as_sets q ds) b ≡ base-mergeTops pos ds b
unfolding merge_tops base-mergeTops
tops_base pos q [] b = refl
tops_base pos q (d ∷ ds) b =
    ap (λ (t : List ℕ). merge_tops (pos + d.width + 1) (as_sets (q + d.width + 1) ds) (merge_from_below b t pos)) (top_base d.lines)
    ∙ tops_base (pos + d.width + 1) (q + d.width + 1) ds (merge_from_below b (base-top d.lines) pos)

drop_tops_base : (q : ℕ) (ds : List BaseSet) → map drop_top (as_sets q ds) ≡ as_sets q (map base-dropTop ds)
unfolding drop_top base-dropTop
drop_tops_base q [] = refl
drop_tops_base q (d ∷ ds) =
    ap₂ (λ (ls : List RenderLine) (rs : List LineSet). line_set q d.width 1 ls d.padding ∷ rs) (without_top_base d.lines) (drop_tops_base (q + d.width + 1) ds)

bottoms_base : (pos q : ℕ) (ds : List BaseSet) (b : List ℕ) → merge_bottoms pos (as_sets q ds) b ≡ base-mergeBottoms pos ds b
unfolding merge_bottoms base-mergeBottoms
bottoms_base pos q [] b = refl
bottoms_base pos q (d ∷ ds) b =
    ap (λ (o : Option (List ℕ)). merge_bottoms (pos + d.width + 1) (as_sets (q + d.width + 1) ds) (merge_from_above b (get_or o []) pos))
    (bottom_base d.lines)
    ∙ bottoms_base (pos + d.width + 1) (q + d.width + 1) ds (merge_from_above b (get_or (base-bottom d.lines) []) pos)

drop_bottoms_base : (q : ℕ) (ds : List BaseSet) → map drop_bottom (as_sets q ds) ≡ as_sets q (map base-dropBottom ds)
unfolding drop_bottom base-dropBottom
drop_bottoms_base q [] = refl
drop_bottoms_base q (d ∷ ds) =
    rw (bottom_base d.lines, without_bottom_base d.lines)
    (ap (λ (rs : List LineSet). line_set q d.width 1 (map as_line (base-withoutBottom d.lines)) (Option.map to_vertical_lines_above (base-bottom d.lines)) ∷ rs)
    (drop_bottoms_base (q + d.width + 1) ds))

-- ---- the lines of the row

height_base : (q : ℕ) (ds : List BaseSet) → height (as_sets q ds) ≡ base-height ds
unfolding height base-height
height_base q [] = refl
height_base q (d ∷ ds) = ap₂ max (length-map d.lines as_line) (height_base (q + d.width + 1) ds)

fill_base : (t w : ℕ) (p : Option (List ℕ)) → w ≤ t → fill t w p ≡ some (get_or p (replicate w 0x20))
fill_base t w none h = rw (le-leb w t h)
fill_base t w (some p) h = refl

add_base : (s : RenderOptions) (t : ℕ) (line : List Piece) (q : ℕ) (d : BaseSet) (ls : List BaseLine) → d.width ≤ t
    → add_cell s t line (line_set q d.width 1 (map as_line d.lines) d.padding) (map as_line ls) ≡ some (base-addCell s line d ls)
unfolding holed_to_string to_string_from
add_base s t line q d [] h = rw (fill_base t d.width d.padding h)
add_base s t line q d (base-text ps ∷ ls) h = refl
add_base s t line q d (base-border a segs ∷ ls) h = refl

line_laid : (s : RenderOptions) (t : ℕ) (line : List Piece) (q : ℕ) (ds : List BaseSet) → Every (λ (d : BaseSet). d.width ≤ t) ds
    → row_line s t line (as_sets q ds) ≡ some (base-rowLine s line ds)
unfolding row_line base-rowLine
line_laid s t line q [] h = refl
line_laid s t line q (d ∷ []) h = add_base s t line q d d.lines h.0
line_laid s t line q (d ∷ e ∷ ds) h =
    rw (add_base s t line q d d.lines h.0)
    (line_laid s t (push_str (base-addCell s line d d.lines) s.annotation (edge s)) (q + d.width + 1) (e ∷ ds) h.1)

rest_base : (ls : List BaseLine) → rest (map as_line ls) ≡ map as_line (base-rest ls)
rest_base [] = refl
rest_base (l ∷ ls) = refl

nexts_base : (q : ℕ) (ds : List BaseSet) → map next_line (as_sets q ds) ≡ as_sets q (map base-nextLine ds)
unfolding next_line base-nextLine
nexts_base q [] = refl
nexts_base q (d ∷ ds) =
    ap₂ (λ (ls : List RenderLine) (rs : List LineSet). line_set q d.width 1 ls d.padding ∷ rs) (rest_base d.lines) (nexts_base (q + d.width + 1) ds)

-- a change that keeps the width
still_within : (t : ℕ) (f : BaseSet → BaseSet) → ((d : BaseSet) → (f d).width ≡ d.width) → (ds : List BaseSet)
    → Every (λ (d : BaseSet). d.width ≤ t) ds → Every (λ (d : BaseSet). d.width ≤ t) (map f ds)
still_within t f e [] h = tt
still_within t f e (d ∷ ds) h = (omega (arith, e d, h.0), still_within t f e ds h.1)

next_width : (d : BaseSet) → (base-nextLine d).width ≡ d.width
unfolding base-nextLine
next_width d = refl

top_width : (d : BaseSet) → (base-dropTop d).width ≡ d.width
unfolding base-dropTop
top_width d = refl

bottom_width : (d : BaseSet) → (base-dropBottom d).width ≡ d.width
unfolding base-dropBottom
bottom_width d = refl

lines_laid : (s : RenderOptions) (t n q : ℕ) (ds : List BaseSet) → Every (λ (d : BaseSet). d.width ≤ t) ds
    → row_lines s t n (as_sets q ds) ≡ some (map as_line (base-rowLines s n ds))
unfolding row_lines base-rowLines
lines_laid s t zero q ds h = refl
lines_laid s t (suc n) q ds h =
    rw (line_laid s t [] q ds h)
    (rw (nexts_base q ds) (rw (lines_laid s t n q (map base-nextLine ds) (still_within t base-nextLine next_width ds h))))

-- no cell hangs on
none_hangs : (s : RenderOptions) (n pos q : ℕ) (h : Hangs) (ds : List BaseSet) → hang_all s n pos h (as_sets q ds) ≡ some h
unfolding hang_all hang_one
none_hangs s n pos q h [] = refl
none_hangs s n pos q h (d ∷ ds) = none_hangs s n (pos + d.width + 1) (q + d.width + 1) h ds

-- ---- the call

row_base : (s : RenderOptions) (old : List BaseLine) (t q : ℕ) (ds : List BaseSet) (b : List ℕ) → Every (λ (d : BaseSet). d.width ≤ t) ds
    → row s (bare old) t (as_sets q ds) b ≡ some (as_sheet (base-extend-lines s old (base-row s ds b)))
unfolding row base-row
row_base s old t q ds b h =
    let n = base-height ds in
    rw (height_base q ds)
    (rw (lines_laid s t n q ds h)
    (rw (none_hangs s n 0 q (hangs (border_of b []) []) ds)
    (ap (λ (a : Extended). some (on_sheet a []))
    (ap (λ (l : List RenderLine). extend_lines s (bare old) (map as_line (base-rowLines s n ds) ++ l)) (drawn_base s (base-border s.annotation b))
    ∙ ap (extend_lines s (bare old)) (sym (map-append as_line (base-rowLines s n ds) (base-ifDrawn s (base-border s.annotation b))))
    ∙ extend_base s old (base-rowLines s n ds ++ base-ifDrawn s (base-border s.annotation b))))))

last_base : (f g : List ℕ → List ℕ) → ((b : List ℕ) → f b ≡ g b) → (old : List BaseLine) → on_last f (map as_line old) ≡ map as_line (base-onLast g old)
unfolding on_last base-onLast
last_base f g e [] = refl
last_base f g e (base-text ps ∷ []) = refl
last_base f g e (base-border a segs ∷ []) = rw (e segs)
last_base f g e (base-text ps ∷ q ∷ old) = ap (λ (l : List RenderLine). text ps ∷ l) (last_base f g e (q ∷ old))
last_base f g e (base-border a segs ∷ q ∷ old) = ap (λ (l : List RenderLine). border a segs [] ∷ l) (last_base f g e (q ∷ old))

ends_base : (old : List BaseLine) → ends_in_border (map as_line old) ≡ base-endsInBorder old
unfolding ends_in_border base-endsInBorder
ends_base [] = refl
ends_base (base-text ps ∷ []) = refl
ends_base (base-border a segs ∷ []) = refl
ends_base (base-text ps ∷ q ∷ old) = ends_base (q ∷ old)
ends_base (base-border a segs ∷ q ∷ old) = ends_base (q ∷ old)

append_base : (s : RenderOptions) (old : List BaseLine) (ds : List BaseSet) (collapse : Bool)
    → append_line_sets s (bare old) (base-widths ds - 1) (as_sets 0 ds) collapse ≡ some (as_sheet (base-appendLineSets s old ds collapse))
unfolding append_line_sets base-appendLineSets
append_base s old ds false =
    let t = base-widths ds - 1 in
    rw (last_base (prev_border (as_sets 0 ds)) (base-prevBorder ds) (prev_base 0 ds) old, ends_base old, next_base (base-endsInBorder old) 0 ds)
    (row_base s (base-onLast (base-prevBorder ds) old) t 0 ds (base-nextBorder (base-endsInBorder old) ds) (within t ds (omega arith)))
append_base s old ds true =
    let t = base-widths ds - 1 in
    let es = map base-dropTop ds in
    let w = within t ds (omega arith) in
    rw (
      last_base (λ b. merge_tops 0 (as_sets 0 ds) (prev_border (as_sets 0 ds) b)) (λ b. base-mergeTops 0 ds (base-prevBorder ds b))
          (λ b. tops_base 0 0 ds (prev_border (as_sets 0 ds) b) ∙ ap (base-mergeTops 0 ds) (prev_base 0 ds b)) old,
      ends_base old,
      next_base (base-endsInBorder old) 0 ds,
      drop_tops_base 0 ds,
      drop_bottoms_base 0 es,
      bottoms_base 0 0 es (base-nextBorder (base-endsInBorder old) ds),
    )
    (row_base s (base-onLast (λ b. base-mergeTops 0 ds (base-prevBorder ds b)) old) t 0 (map base-dropBottom es)
    (base-mergeBottoms 0 es (base-nextBorder (base-endsInBorder old) ds))
    (still_within t base-dropBottom bottom_width es (still_within t base-dropTop top_width ds w)))

placed_base : (s : RenderOptions) (cs : List BaseCell) → placed s [] (map as_cell cs) ≡ placing [] (as_sets 0 (base-lineSets s cs)) 0 (base-widths (base-lineSets s cs))
unfolding placed place_all
placed_base s cs = rw (sets_base s 0 cs, widths_base 0 (base-lineSets s cs))

-- `append_columns_with_borders` IS THE BASE'S.
pub columns_lines_base : (s : RenderOptions) (old : List BaseLine) (cs : List BaseCell) (collapse : Bool)
    → append_columns_with_borders s (as_sheet old) (map as_cell cs) collapse ≡ some (as_sheet (base-append-columns s old cs collapse))
unfolding append_columns_with_borders base-append-columns
columns_lines_base s old cs collapse = rw (placed_base s cs) (append_base s old (base-lineSets s cs) collapse)

starts_base : (s : RenderOptions) (w : ℕ) (ls : List BaseLine) → starts_border (map as_line (map (base-filled s w) ls)) ≡ base-startsBorder ls
unfolding base-filled
starts_base s w [] = refl
starts_base s w (base-text ps ∷ ls) = refl
starts_base s w (base-border a segs ∷ ls) = refl

any_base : (s : RenderOptions) (q : ℕ) (cs : List BaseCell) → any_starts_border (as_sets q (base-lineSets s cs)) ≡ base-anyStartsBorder cs
unfolding any_starts_border base-anyStartsBorder base-lineSets
any_base s q [] = refl
any_base s q (c ∷ cs) = ap₂ ◌||◌ (starts_base s c.width c.lines) (any_base s (q + c.width + 1) cs)

-- REFUSAL 6 IS THE BASE'S.
six_base : (s : RenderOptions) (old : List BaseLine) (cs : List BaseCell) (collapse : Bool)
    → no_border_above s (as_sheet old) (map as_cell cs) collapse ≡ base-noBorderAbove old cs collapse
unfolding no_border_above base-noBorderAbove
six_base s old cs collapse = rw (placed_base s cs) (rw (any_base s 0 cs, ends_base old))

-- ---- `append_vert_row`

between_base : (s : RenderOptions) (first : Bool) → between s first ≡ map as_line (base-between s first)
between_base s true = refl
between_base s false = drawn_base s (base-border s.annotation (new_type s.width HorizVert))

each_base : (s : RenderOptions) (first : Bool) (old : List BaseLine) (cs : List BaseCell)
    → append_each s first (bare old) (map as_cell cs) ≡ some (bare (base-appendEach s first old cs))
unfolding append_each base-appendEach
each_base s first old [] = refl
each_base s first old (c ∷ cs) =
    let mid = base-extend-lines s old (base-between s first) in
    rw (between_base s first) (rw (extend_base s old (base-between s first))
    (rw (subrender_lines_base s mid c.lines true ([] ∷ []))
    (each_base s false (base-append-subrender s mid c.lines true ([] ∷ [])) cs)))

-- `append_vert_row` IS THE BASE'S.
pub vert_lines_base : (s : RenderOptions) (old : List BaseLine) (cs : List BaseCell)
    → append_vert_row s (bare old) (map as_cell cs) ≡ some (bare (base-append-vert-row s old cs))
unfolding append_vert_row base-append-vert-row
vert_lines_base s old cs =
    let last = base-border s.annotation (new_type s.width Horiz) in
    rw (each_base s true old cs)
    (ap some (ap (extend_lines s (bare (base-appendEach s true old cs))) (drawn_base s last)
    ∙ extend_base s (base-appendEach s true old cs) (base-ifDrawn s last)))

-- ---- in bytes

line_bytes_lem : (l : BaseLine) → field (letter (as_line l)) (content (as_line l)) ≡ field (base-letter l) (base-content l)
line_bytes_lem (base-text ps) = refl
line_bytes_lem (base-border a segs) = refl

lines_bytes_lem : (ls : List BaseLine) → lines_bytes (map as_line ls) ≡ base-linesBytes ls
unfolding lines_bytes base-linesBytes
lines_bytes_lem [] = refl
lines_bytes_lem (l ∷ ls) = ap₂ ◌++◌ (line_bytes_lem l) (lines_bytes_lem ls)

-- THE BYTES ARE THE BASE'S.
pub sheet_bytes_base : (ls : List BaseLine) → sheet_bytes (as_sheet ls) ≡ base-sheetBytes ls
unfolding sheet_bytes base-sheetBytes overhang_bytes names_bytes
sheet_bytes_base ls = rw (length-map ls as_line) (rw (lines_bytes_lem ls) (rw (append-nil (base-linesBytes ls))))

fits_base : (l : BaseLine) → fits (as_line l) ≡ base-fits l
fits_base (base-text ps) = refl
fits_base (base-border a segs) = refl

finished_base : (ls : List BaseLine) → finished (as_sheet ls) ≡ as_verdict (base-finished ls)
unfolding finished base-finished all
finished_base ls =
    rw (all_map as_line fits base-fits fits_base ls, and_true (all base-fits ls), length-map ls as_line)
    (if_map as_verdict (not (all base-fits ls)) _ _ _ _ refl (if_map as_verdict (ltb 65535 (length ls)) _ _ _ _ refl refl))

give_base : (v : BaseVerdict) (store : List ℕ) → give (as_verdict v) store ≡ base-give v store
unfolding give base-give
give_base (base-refused n) store = refl
give_base (base-sheet ls) store = ap (λ (bs : List ℕ). in_store bs store) (sheet_bytes_base ls)

readable_line_base : (l : BaseLine) → readable_line (as_line l) ≡ base-readableLine l
unfolding all
readable_line_base (base-text ps) = refl
readable_line_base (base-border a segs) = refl

readable_base : (ls : List BaseLine) → readable_lines (map as_line ls) ≡ base-readableLines ls
unfolding readable_lines base-readableLines
readable_base ls = all_map as_line readable_line base-readableLine readable_line_base ls

readable_sheet_base : (ls : List BaseLine) → readable_sheet (as_sheet ls) ≡ base-readableLines ls
unfolding readable_names all
readable_sheet_base ls = rw (readable_base ls, and_true (base-readableLines ls)) (and_true (base-readableLines ls))

wide_cells : (cs : List BaseCell) → all wide (map as_cell cs) ≡ all base-wide cs
wide_cells cs = all_map as_cell wide base-wide (λ c. refl) cs

readable_cells : (cs : List BaseCell) → all readable_cell (map as_cell cs) ≡ all base-readableCell cs
readable_cells cs = all_map as_cell readable_cell base-readableCell (λ c. readable_base c.lines) cs

-- ---- the verdicts and the answers

subrender_verdict_base : (s : RenderOptions) (old guest : Option (List BaseLine)) (ps : Option (List (List ℕ))) (rep : Bool)
    → subrender_verdict s (Option.map as_sheet old) (Option.map as_sheet guest) ps rep ≡ as_verdict (base-subrenderVerdict s old guest ps rep)
unfolding subrender_verdict base-subrenderVerdict readable_names all
subrender_verdict_base s none guest ps rep = refl
subrender_verdict_base s (some old) none ps rep = refl
subrender_verdict_base s (some old) (some guest) none rep = refl
subrender_verdict_base s (some old) (some guest) (some ps) rep =
    rw (readable_sheet_base old, readable_sheet_base guest, subrender_lines_base s old guest rep ps)
    (narrow (eqb s.width 0) _ _ (if_map as_verdict (not (base-readableLines old && base-readableLines guest && all (readable_text false) ps)) _ _ _ _ refl
    (finished_base (base-append-subrender s old guest rep ps))))
  where
    narrow : (b : Bool) (x : Verdict) (y : BaseVerdict) → x ≡ as_verdict y
        → (if (b || false) then refused 2 else x) ≡ as_verdict (if b then base-refused 2 else y)
    narrow true x y e = refl
    narrow false x y e = e

columns_verdict_base : (s : RenderOptions) (old : Option (List BaseLine)) (cs : Option (List BaseCell)) (collapse : Bool)
    → columns_verdict s (Option.map as_sheet old) (Option.map (map as_cell) cs) collapse ≡ as_verdict (base-columnsVerdict s old cs collapse)
unfolding columns_verdict base-columnsVerdict readable_names all
columns_verdict_base s none cs collapse = refl
columns_verdict_base s (some old) none collapse = refl
columns_verdict_base s (some old) (some cs) collapse =
    rw (wide_cells cs, and_true (all base-wide cs), readable_sheet_base old, readable_cells cs, six_base s old cs collapse, columns_lines_base s old cs collapse)
    (if_map as_verdict (eqb s.width 0 || not (all base-wide cs)) _ _ _ _ refl
    (if_map as_verdict (not (base-readableLines old && all base-readableCell cs)) _ _ _ _ refl
    (if_map as_verdict (base-noBorderAbove old cs collapse) _ _ _ _ refl (finished_base (base-append-columns s old cs collapse)))))

vert_verdict_base : (s : RenderOptions) (old : Option (List BaseLine)) (cs : Option (List BaseCell))
    → vert_row_verdict s (Option.map as_sheet old) (Option.map (map as_cell) cs) ≡ as_verdict (base-vertRowVerdict s old cs)
unfolding vert_row_verdict base-vertRowVerdict readable_names all
vert_verdict_base s none cs = refl
vert_verdict_base s (some old) none = refl
vert_verdict_base s (some old) (some cs) =
    rw (wide_cells cs, and_true (all base-wide cs), readable_sheet_base old, readable_cells cs, vert_lines_base s old cs)
    (if_map as_verdict (eqb s.width 0 || not (all base-wide cs)) _ _ _ _ refl
    (if_map as_verdict (not (base-readableLines old && all base-readableCell cs)) _ _ _ _ refl (finished_base (base-append-vert-row s old cs))))

-- `append_subrender`: THE BASE STAYS.
pub subrender_base : (s : RenderOptions) (old guest ps : List ℕ) (rep : Bool) (store : List ℕ) → base_sheet old ≡ true → base_sheet guest ≡ true
    → subrender_answer s old guest ps rep store ≡ base-subrenderAnswer s old guest ps rep store
unfolding subrender_answer base-subrenderAnswer
subrender_base s old guest ps rep store e k =
    rw (sheet_base old e, sheet_base guest k, subrender_verdict_base s (base-readSheet old) (base-readSheet guest) (read_prefixes ps) rep)
    (give_base (base-subrenderVerdict s (base-readSheet old) (base-readSheet guest) (read_prefixes ps) rep) store)

-- `append_columns_with_borders`: THE BASE STAYS.
pub columns_base : (s : RenderOptions) (old cs : List ℕ) (collapse : Bool) (store : List ℕ) → base_sheet old ≡ true → base_cells cs ≡ true
    → columns_answer s old cs collapse store ≡ base-columnsAnswer s old cs collapse store
unfolding columns_answer base-columnsAnswer
columns_base s old cs collapse store e k =
    rw (sheet_base old e, cells_base cs k, columns_verdict_base s (base-readSheet old) (base-readCells cs) collapse)
    (give_base (base-columnsVerdict s (base-readSheet old) (base-readCells cs) collapse) store)

-- `append_vert_row`: THE BASE STAYS.
pub vert_row_base : (s : RenderOptions) (old cs store : List ℕ) → base_sheet old ≡ true → base_cells cs ≡ true
    → vert_row_answer s old cs store ≡ base-vertRowAnswer s old cs store
unfolding vert_row_answer base-vertRowAnswer
vert_row_base s old cs store e k =
    rw (sheet_base old e, plain_cells_base cs k, vert_verdict_base s (base-readSheet old) (base-readCells cs))
    (give_base (base-vertRowVerdict s (base-readSheet old) (base-readCells cs)) store)
