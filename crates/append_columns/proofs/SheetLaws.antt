-- Laws of the parts of an old sheet: the last line is apart if it is a border.
-- Assumes nothing.
use mathlib.Core.Path.{◌≡◌, refl, sym, ap, subst, ◌∙◌}
use mathlib.Core.Bool.{false}
use mathlib.Core.Option.{some}
use mathlib.Core.List.{List, [], ◌∷◌, ◌++◌}
use Prim.Native.Nat.{ℕ, ◌-◌, ◌≤◌}
use native.Mathlib.Omega.{arith}
use lib.ListN.{length, drop, length-append, length-drop}
use lib.Seq.{take_all}
use Rattle.std.specs.Prelude.{Option, Some, None, IfSome, MatchOption}
use Rattle.characters.proofs.Tests.{clash}
use Rattle.fields.specs.Field.{raws, read_all, part}
use Rattle.fields.specs.List.{whole_of}
use Rattle.fields.specs.declared.raw.Field.{Field}
use Rattle.fields.specs.Spans.{RenderLine, text, border, read_line, read_name, read_hanging}
use Rattle.fields.specs.SpanRefusals.{sheet_refusal}
use Rattle.fields.specs.Places.{LinesIn}
use Rattle.fields.proofs.Readings.{read_size}
use Rattle.rows.specs.SubRenderer.{is_border, ends_in_border}
use Rattle.rows.proofs.Reading.{Bytes, bytes_drop}
use Rattle.extend_lines.proofs.Handing.{overhang_same}
use Rattle.places.specs.declared.border.Border.{Border}
use Rattle.places.specs.Border.{ReadsBorder}
use Rattle.bodies.specs.declared.walk.Walked.{Walked}
use Rattle.bodies.specs.Walk.{LastIs, Walks}
use Rattle.bodies.proofs.LineLaws.{line_border, line_text}
use Rattle.checks.specs.Split.{SheetAt, FindsParts}
use Rattle.checks.specs.declared.sheet.Parts.{Parts}
use Rattle.checks.proofs.Passing.{sheet_passes}
use Rattle.append_columns.specs.declared.sheet.OldSheet.{OldSheet}
use Rattle.append_columns.specs.Last.{LastBorder, OldLines, there}
use Rattle.append_columns.specs.Sheet.{Splits, joined}

-- ---- the last line

-- the kind of the last of some lines
ends_in : (before : List RenderLine) (l : RenderLine) → ends_in_border (before ++ (l ∷ [])) ≡ is_border l
unfolding ends_in_border
ends_in [] l = refl
ends_in (r ∷ []) l = refl
ends_in (r ∷ q ∷ ls) l = ends_in (q ∷ ls) l

none_ends : ends_in_border [] ≡ false
unfolding ends_in_border
none_ends = refl

-- There is none, or it is a text.
pub last_plain : (bytes : List ℕ) (w : Walked) → Walks bytes w → IfSome w.last (λ f. f.letter ≡ 0x4C) → (ls : List RenderLine) → LinesIn bytes ls → OldLines None bytes ls
last_plain bytes w walks kind ls lines = (lines, go w.last (walks ls lines).last_is kind)
  where
    go : (o : Option Field) → MatchOption o (ls ≡ []) (λ f. LastIs f w.before.now ls) → IfSome o (λ f. f.letter ≡ 0x4C) → ends_in_border ls ≡ false
    go None none t = ap ends_in_border none ∙ none_ends
    go (Some f) is t = ap ends_in_border is.are ∙ ends_in is.before is.line ∙ line_text f.letter f.content.now is.line is.line_is t

-- It is a border.
pub last_border : (bytes : List ℕ) (w : Walked) (f : Field) (b : Border) → Walks bytes w → w.last ≡ Some f → (f.letter ≡ 0x4C → ⊥) → ReadsBorder f.letter f.content.now b
    → (ls : List RenderLine) → LinesIn bytes ls → OldLines (Some b) w.before.now ls
last_border bytes w f b walks e no-l reads ls lines = go is is.line is.are is.line_is
  where
    is : LastIs f w.before.now ls
    is = subst (λ (o : Option Field). MatchOption o (ls ≡ []) (λ g. LastIs g w.before.now ls)) e (walks ls lines).last_is

    go : (t : LastIs f w.before.now ls) (x : RenderLine) → ls ≡ t.before ++ (x ∷ []) → read_line (whole_of f) ≡ some x → LastBorder b w.before.now ls
    go t (text ps) are read = absurd (clash (line_border f.letter f.content.now (text ps) read no-l) refl)
    go t (border a ss hs) are read =
        record { before = t.before; annotation = a; segments = ss; holes = hs; are = are; before_in = t.before_in; border_is = reads a ss hs read }

-- ---- a sheet that passed

-- lines without a last one are no more than all
lines_few : (o : Option Border) (bytes : List ℕ) (ls : List RenderLine) → OldLines o bytes ls → length (raws bytes) ≤ length ls
lines_few None bytes ls is = omega (arith, read_size read_line (raws bytes) ls is.0.reads)
lines_few (Some b) bytes ls is =
    omega (arith, read_size read_line (raws bytes) is.before is.before_in.reads, ap length is.are ∙ length-append is.before (border is.annotation is.segments is.holes ∷ []))

module _ (sheet : List ℕ) (at : Parts) (passed : sheet_refusal sheet ≡ 0) (finds : FindsParts sheet at) where
  found : SheetAt sheet at (sheet_passes sheet passed).sheet
  found = finds (sheet_passes sheet passed).sheet (sheet_passes sheet passed).reads

  -- The lines begin behind the head.
  pub lines_behind : (5 ≤ at.names) × (at.names ≤ length sheet)
  lines_behind = (found.lines.order, found.lines.inside)

  -- They are few.
  pub few_lines : (o : Option Border) (bytes : List ℕ) → ((ls : List RenderLine) → LinesIn (part 5 at.names sheet) ls → OldLines o bytes ls) → length (raws bytes) ≤ 65535
  few_lines o bytes splits =
      let ls = (sheet_passes sheet passed).sheet.lines in
      omega (
        arith,
        found.few,
        read_size read_line (raws (part 5 at.names sheet)) ls found.lines.reads,
        lines_few o bytes ls (splits ls (record { reads = found.lines.reads })),
      )

-- The parts are the sheet's.
pub parts_are : (sheet : List ℕ) (at : Parts) (old : OldSheet) → Bytes sheet → FindsParts sheet at → ((ls : List RenderLine) → LinesIn (part 5 at.names sheet) ls → OldLines old.last old.lines.now ls)
    → old.names.now ≡ part at.names at.hanging sheet → old.hanging.now ≡ part at.hanging (length sheet) sheet → Splits sheet old
parts_are sheet at old k finds splits names hanging t read =
    let f = finds t read in
    let same : old.hanging.now ≡ drop at.hanging sheet = hanging ∙ take_all (length sheet - at.hanging) (drop at.hanging sheet) (omega (arith, length-drop at.hanging sheet)) in
    record {
      lines = splits t.lines (record { reads = f.lines.reads });
      names = ap (λ (s : List ℕ). read_all read_name (raws s)) names ∙ f.names.reads;
      hanging = record { reads = ap (λ (s : List ℕ). read_all read_hanging (raws s)) same ∙ f.hung.reads };
      size = ap length (overhang_same (drop at.hanging sheet) t.overhang (bytes_drop at.hanging sheet k) f.hung.reads ∙ sym same);
    }

-- The row is joined exactly where the lines end in a border.
pub joined_is : (old : OldSheet) (ls : List RenderLine) → OldLines old.last old.lines.now ls → joined old ≡ ends_in_border ls
joined_is old ls is = go old.last is
  where
    go : (o : Option Border) → OldLines o old.lines.now ls → there o ≡ ends_in_border ls
    go None k = sym k.1
    go (Some b) k = sym (ap ends_in_border k.are ∙ ends_in k.before (border k.annotation k.segments k.holes))
