-- A guest's lines behind their prefixes: what each function does to the sheet's lines and to the names that wait, for inputs that passed
-- refusals 1 to 3 and 10.
-- Assumes nothing: these are definitions.
use Rattle.std.specs.Prelude.{◌≡◌, Bool, true, false, List, [], ◌∷◌, ◌++◌, map, ℕ, Option, None, Some, drop, if◌then◌else◌}
use Rattle.std.proofs.Math.Option.{some}
use Rattle.fields.specs.Field.{Raw, raws, read_all, all}
use Rattle.fields.specs.Text.{readable_text, WellFormed}
use Rattle.fields.specs.Sheet.{read_prefix}
use Rattle.fields.specs.Widths.{text_width}
use Rattle.borders.specs.BorderSegHoriz.{HorizVert}
use Rattle.borders.specs.BorderHoriz.{new_type}
use Rattle.rows.specs.declared.RenderOptions.{RenderOptions}
use Rattle.rows.specs.SubRenderer.{later, with_names, padded, plain_border}
use Rattle.rows.specs.Named.{named_lines, names_left}
use Rattle.fields.specs.Spans.{RenderLine, read_name, read_line, readable_line, Cell, read_plain_cell, readable_cell}
use Rattle.extend_lines.specs.Emitted.{Emitted}
use Rattle.extend_lines.specs.declared.line.Lines.{Lines}
use Rattle.append_subrender.specs.Misfit.{overlapping, any_overlapping, guest_misfit, cells_misfit, behind_prefix, behind_prefixes, cell_lines}
use Rattle.append_subrender.specs.declared.prefix.Prefix.{Prefix}
use Rattle.append_subrender.specs.declared.prefixed.Added.{Added}

-- ---- the prefix of the next line

-- the prefixes to come, where qs are those after the last one
abbrev pub coming : Option Prefix → Bool → List (List ℕ) → List (List ℕ)
coming None rep qs = qs
coming (Some p) rep qs = later rep p.text.now qs

-- a prefix is text, of so many columns
abbrev pub Formed : Option Prefix → Type 0
Formed None = Unit {0}
Formed (Some p) = WellFormed p.text.now × (text_width p.text.now ≡ p.cols)

-- the prefixes to come are ps, where the fields of those after the last one are left
pub record Coming (left : List Raw) (rep : Bool) (last : Option Prefix) (ps : List (List ℕ)) : Type 0 where
  pub after : List (List ℕ)
  pub reads : read_all read_prefix left ≡ some after
  pub readable : all (readable_text false) after ≡ true
  pub all_coming : ps ≡ coming last rep after
  pub formed : Formed last

-- one of them is found, or none is left
abbrev pub Found : Option Prefix → List Raw → Bool → List (List ℕ) → Type 0
Found None left rep ps = ps ≡ []
Found (Some p) left rep ps = (qs : List (List ℕ)) × (ps ≡ p.text.now ∷ qs) × Coming left rep (Some p) (later rep p.text.now qs)

-- from one prefix to the next
abbrev pub Steps : List Raw → Bool → Option Prefix → List Raw → Option Prefix → Type 0
Steps left rep last left' r = (ps : List (List ℕ)) → Coming left rep last ps → Found r left' rep ps

-- ---- lines

-- the names that F fields hold
abbrev pub NamesOf : List ℕ → List (List ℕ) → Type 0
NamesOf names ns = read_all read_name (raws names) ≡ some ns

-- one line behind the names ns that wait and its prefix
abbrev pub AddsPrefixed : List ℕ → Lines → RenderOptions → List ℕ → List ℕ → ℕ → Raw → List ℕ → Lines → Type 0
AddsPrefixed out p s names prefix cols field out' r =
    (ns : List (List ℕ)) (g : RenderLine) → NamesOf names ns → read_line field ≡ some g → readable_line g ≡ true → overlapping g ≡ false
    → WellFormed prefix → text_width prefix ≡ cols
    → (st : List ℕ) (ls : List RenderLine) → Emitted st ls [] [] out p
    → Emitted st (ls ++ (padded s (with_names ns (behind_prefix s prefix g)) ∷ [])) [] [] out' r

-- new lines are added while the names ns wait, which are those of the F fields `names` from the place of p on: the first text takes them, and
-- those that are left stand from the place of r on
pub record Adds (out : List ℕ) (p : Added) (s : RenderOptions) (names : List ℕ) (ns : List (List ℕ)) (new : List RenderLine) (out' : List ℕ) (r : Added) : Type 0 where
  pub lines : (st : List ℕ) (ls : List RenderLine) → Emitted st ls [] [] out p.lines → Emitted st (ls ++ map (padded s) (named_lines ns new)) [] [] out' r.lines
  pub waiting : NamesOf (drop r.from names) (names_left ns new)

-- lines, and the place where the names that still wait begin
abbrev pub added : Lines → ℕ → Added
added p from = record { lines = p; from = from }

-- all pairs
abbrev pub AddsGuest : List ℕ → Lines → RenderOptions → List ℕ → List ℕ → List ℕ → Bool → List ℕ → Added → Type 0
AddsGuest out p s names guest prefixes rep out' r =
    (ns : List (List ℕ)) (gs : List RenderLine) (ps : List (List ℕ)) → NamesOf names ns → read_all read_line (raws guest) ≡ some gs → all readable_line gs ≡ true
    → read_all read_prefix (raws prefixes) ≡ some ps → all (readable_text false) ps ≡ true → guest_misfit rep gs ps ≡ false
    → Adds out (added p 0) s names ns (behind_prefixes s rep gs ps) out' r

-- ---- cells

-- a border of one segment
abbrev pub AddsRule : List ℕ → Lines → RenderOptions → ℕ → List ℕ → Lines → Type 0
AddsRule out p s segment out' r =
    (st : List ℕ) (ls : List RenderLine) → Emitted st ls [] [] out p
    → Emitted st (ls ++ (padded s (plain_border s.annotation (new_type s.width segment)) ∷ [])) [] [] out' r

-- a border of one segment, or nothing where it is not drawn
abbrev pub rule_if : RenderOptions → ℕ → Bool → List RenderLine
rule_if s segment drawn = if drawn then plain_border s.annotation (new_type s.width segment) ∷ [] else []

-- the same, added
abbrev pub AddsRuleIf : List ℕ → Lines → RenderOptions → ℕ → Bool → List ℕ → Lines → Type 0
AddsRuleIf out p s segment drawn out' r =
    (st : List ℕ) (ls : List RenderLine) → Emitted st ls [] [] out p → Emitted st (ls ++ map (padded s) (rule_if s segment drawn)) [] [] out' r

-- lines whose fields stand in a list, with an empty prefix that repeats
abbrev pub AddsLines : List ℕ → Added → RenderOptions → List ℕ → List Raw → List ℕ → Added → Type 0
AddsLines out p s names fields out' r =
    (ns : List (List ℕ)) (gs : List RenderLine) → NamesOf (drop p.from names) ns → read_all read_line fields ≡ some gs → all readable_line gs ≡ true
    → any_overlapping gs ≡ false → Adds out p s names ns (behind_prefixes s true gs ([] ∷ [])) out' r

-- the lines of one cell
abbrev pub AddsCell : List ℕ → Added → RenderOptions → List ℕ → List ℕ → List ℕ → Added → Type 0
AddsCell out p s names body out' r = AddsLines out p s names (raws body) out' r

-- a cell behind a border of HorizVert, or behind nothing where that is not drawn
abbrev pub StacksCell : List ℕ → Added → RenderOptions → List ℕ → Bool → Raw → List ℕ → Added → Type 0
StacksCell out p s names drawn field out' r =
    (ns : List (List ℕ)) (c : Cell) → NamesOf (drop p.from names) ns → read_plain_cell field ≡ some c → readable_cell c ≡ true → any_overlapping c.lines ≡ false
    → Adds out p s names ns (rule_if s HorizVert drawn ++ behind_prefixes s true c.lines ([] ∷ [])) out' r

-- all cells
abbrev pub AddsCells : List ℕ → Lines → RenderOptions → List ℕ → List ℕ → List ℕ → Added → Type 0
AddsCells out p s names cells out' r =
    (ns : List (List ℕ)) (cs : List Cell) → NamesOf names ns → read_all read_plain_cell (raws cells) ≡ some cs → all readable_cell cs ≡ true
    → cells_misfit cs ≡ false → Adds out (added p 0) s names ns (cell_lines s true cs) out' r
