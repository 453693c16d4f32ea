-- The fields behind a sheet's head: lines, F fields, V fields.
-- Assumes nothing: these are definitions.
use Rattle.std.specs.Prelude.{◌≡◌, Bool, false, List, [], ◌∷◌, ℕ, ◌≤◌, eqb, length, take, drop, if◌then◌else◌}
use Rattle.std.proofs.Math.Option.{some}
use Rattle.fields.specs.Field.{Raw, whole, broken, raws, read_all, part}
use Rattle.fields.specs.First.{first_of}
use Rattle.fields.specs.Spans.{RenderLine, Hanging, Sheet, read_line, read_name, read_hanging, before_hanging, from_hanging, before_names, from_names, read_sheet}
use Rattle.fields.specs.SpanRefusals.{lines_refusal, names_refusal, overhang_refusal}
use Rattle.checks.specs.declared.sheet.Split.{Split}
use Rattle.checks.specs.declared.sheet.Body.{Body}
use Rattle.checks.specs.declared.sheet.Parts.{Parts}

-- ---- one split

-- a field with a letter, whatever is in it
abbrev pub has_letter : ℕ → Raw → Bool
has_letter l broken = false
has_letter l (whole x content) = eqb x l

-- the fields before the first with a letter
unfoldable pub before_letter : ℕ → List Raw → List Raw
before_letter l [] = []
before_letter l (r ∷ rs) = if has_letter l r then [] else r ∷ before_letter l rs

-- and those from it on
unfoldable pub from_letter : ℕ → List Raw → List Raw
from_letter l [] = []
from_letter l (r ∷ rs) = if has_letter l r then r ∷ rs else from_letter l rs

-- where the fields before the first with a letter end, and how many they are
pub record SplitAt (l : ℕ) (s : List ℕ) (r : Split) : Type 0 where
  pub inside : r.end ≤ length s
  pub before : raws (take r.end s) ≡ before_letter l (raws s)
  pub behind : raws (drop r.end s) ≡ from_letter l (raws s)
  pub count : r.count ≡ length (before_letter l (raws s))

-- ---- a sheet's parts

-- the parts of the fields behind a head, and the number of its lines
pub record BodyAt (s : List ℕ) (r : Body) : Type 0 where
  pub order : r.names ≤ r.hanging
  pub inside : r.hanging ≤ length s
  pub lines : raws (take r.names s) ≡ before_names (before_hanging (raws s))
  pub names : raws (part r.names r.hanging s) ≡ from_names (before_hanging (raws s))
  pub hung : raws (drop r.hanging s) ≡ from_hanging (raws s)
  pub count : r.count ≡ length (before_names (before_hanging (raws s)))

-- numbers of a sheet's places that hold whatever the bytes
pub record PartsIn (s : List ℕ) (r : Parts) : Type 0 where
  pub order : r.names ≤ r.hanging
  pub inside : r.hanging ≤ length s
  pub behind : 5 ≤ length s → 5 ≤ r.names

-- the lines that stand between two places
pub record LinesAt (s : List ℕ) (from to : ℕ) (ls : List RenderLine) : Type 0 where
  pub order : from ≤ to
  pub inside : to ≤ length s
  pub reads : read_all read_line (raws (part from to s)) ≡ some ls

-- the F fields that stand between two places
pub record NamesAt (s : List ℕ) (from to : ℕ) (ns : List (List ℕ)) : Type 0 where
  pub order : from ≤ to
  pub inside : to ≤ length s
  pub reads : read_all read_name (raws (part from to s)) ≡ some ns

-- the V fields from a place on
pub record HungFrom (s : List ℕ) (at : ℕ) (vs : List Hanging) : Type 0 where
  pub reads : read_all read_hanging (raws (drop at s)) ≡ some vs

-- the parts of a sheet that is read, and that its lines are few, since its head counts them in two bytes
pub record SheetAt (s : List ℕ) (r : Parts) (t : Sheet) : Type 0 where
  pub lines : LinesAt s 5 r.names t.lines
  pub names : NamesAt s r.names r.hanging t.names
  pub hung : HungFrom s r.hanging t.overhang
  pub few : length (raws (part 5 r.names s)) ≤ 65535

-- `sheet_parts`
abbrev pub FindsParts : List ℕ → Parts → Type 0
FindsParts s r = (t : Sheet) → read_sheet s ≡ some t → SheetAt s r t

-- ---- refusals

-- 1, 2 and 3 of lines, F fields and V fields
abbrev pub parts_refusal : List Raw → ℕ
parts_refusal rs =
    first_of (lines_refusal (before_names (before_hanging rs)))
    (first_of (names_refusal (from_names (before_hanging rs))) (overhang_refusal (from_hanging rs)))

-- 1, 2 and 3 of the fields behind a head that says n lines
unfoldable pub counted_refusal : ℕ → List Raw → ℕ
counted_refusal n rs = if eqb (length (before_names (before_hanging rs))) n then parts_refusal rs else 1
