-- The inputs of the two calls where no refusal of 1 to 3 is found: they are read and pass, and the verdict is what follows these refusals.
-- Assumes nothing.
use mathlib.Core.Path.{◌≡◌, refl, sym}
use mathlib.Core.Bool.{Bool, true, false}
use mathlib.Core.Option.{Option, none, some}
use mathlib.Core.List.{List}
use Prim.Native.Nat.{ℕ, ◌≤◌}
use native.Mathlib.Omega.{arith}
use Rattle.std.specs.Prelude.{if◌then◌else◌}
use Rattle.fields.specs.Field.{all}
use Rattle.fields.specs.Text.{readable_text}
use Rattle.fields.specs.First.{first_of, refusal_of}
use Rattle.fields.specs.Sheet.{read_prefixes}
use Rattle.fields.specs.Refusals.{prefixes_refusal}
use Rattle.fields.specs.Spans.{Sheet, Cell, read_sheet, read_plain_cells, readable_sheet, readable_cell}
use Rattle.fields.specs.SpanRefusals.{sheet_refusal, plain_cells_refusal}
use Rattle.rows.specs.Answer.{width_refusal, subrender_verdict, vert_row_verdict}
use Rattle.rows.specs.declared.RenderOptions.{RenderOptions}
use Rattle.extend_lines.proofs.Refusing.{sheet_low, plain_cells_low, prefixes_low, width_low, first_low}
use Rattle.checks.proofs.Passing.{sheet_passes, plain_cells_pass}
use Rattle.checks.proofs.Verdicts.{subrender_number, after_subrender, subrender_goes, vert_row_number, after_vert_row, vert_row_goes, first_none}

-- ---- `append_subrender`

-- the inputs are read and pass
pub record SubrenderPasses (s : RenderOptions) (o g : Option Sheet) (p : Option (List (List ℕ))) (rep : Bool) : Type 0 where
  pub old : Sheet
  pub guest : Sheet
  pub prefixes : List (List ℕ)
  pub reads_old : o ≡ some old
  pub reads_guest : g ≡ some guest
  pub reads_prefixes : p ≡ some prefixes
  pub readable_guest : readable_sheet guest ≡ true
  pub readable_prefixes : all (readable_text false) prefixes ≡ true
  pub verdict : subrender_verdict s o g p rep ≡ after_subrender s rep old guest prefixes

-- prefixes that are read, and whose texts are readable
record PrefixesPass (o : Option (List (List ℕ))) : Type 0 where
  prefixes : List (List ℕ)
  reads : o ≡ some prefixes
  readable : all (readable_text false) prefixes ≡ true

prefixes_pass : (o : Option (List (List ℕ))) → refusal_of (λ ps. if all (readable_text false) ps then 0 else 3) o ≡ 0 → PrefixesPass o
prefixes_pass none e = absurd (omega arith)
prefixes_pass (some ps) e = go (all (readable_text false) ps) refl e
  where
    go : (b : Bool) → all (readable_text false) ps ≡ b → ◌≡◌ {A = ℕ} (if b then 0 else 3) 0 → PrefixesPass (some ps)
    go true h k = record { prefixes = ps; reads = refl; readable = h }
    go false h k = absurd (omega arith)

-- WHERE NO REFUSAL IS FOUND THE INPUTS PASS.
pub subrender_passes : (s : RenderOptions) (old guest ps : List ℕ) (rep : Bool) → 0 ≡ subrender_number s old guest ps
    → SubrenderPasses s (read_sheet old) (read_sheet guest) (read_prefixes ps) rep
unfolding prefixes_refusal
subrender_passes s old guest ps rep e =
    let (a, b) = first_none (first_of (sheet_refusal old) (sheet_refusal guest)) (first_of (prefixes_refusal ps) (width_refusal s.width)) (sym e) in
    let (i, j) = first_none (sheet_refusal old) (sheet_refusal guest) a in
    let x = sheet_passes old i in
    let y = sheet_passes guest j in
    let z = prefixes_pass (read_prefixes ps) (first_none (prefixes_refusal ps) (width_refusal s.width) b).0 in
    record {
      old = x.sheet;
      guest = y.sheet;
      prefixes = z.prefixes;
      reads_old = x.reads;
      reads_guest = y.reads;
      reads_prefixes = z.reads;
      readable_guest = y.readable;
      readable_prefixes = z.readable;
      verdict = subrender_goes 0 s old guest ps rep e refl x.sheet y.sheet z.prefixes x.reads y.reads z.reads;
    }

-- Both sheets pass.
pub sheets_pass : (s : RenderOptions) (old guest ps : List ℕ) → 0 ≡ subrender_number s old guest ps → (sheet_refusal old ≡ 0) × (sheet_refusal guest ≡ 0)
sheets_pass s old guest ps e =
    first_none (sheet_refusal old) (sheet_refusal guest)
    (first_none (first_of (sheet_refusal old) (sheet_refusal guest)) (first_of (prefixes_refusal ps) (width_refusal s.width)) (sym e)).0

-- A refusal of these inputs is 1 to 3.
pub subrender_low : (s : RenderOptions) (old guest ps : List ℕ) → subrender_number s old guest ps ≤ 3
subrender_low s old guest ps =
    first_low _ _ (first_low _ _ (sheet_low old) (sheet_low guest)) (first_low _ _ (prefixes_low ps) (width_low s.width))

-- ---- `append_vert_row`

-- the inputs are read and pass
pub record VertRowPasses (s : RenderOptions) (o : Option Sheet) (c : Option (List Cell)) : Type 0 where
  pub old : Sheet
  pub cells : List Cell
  pub reads_old : o ≡ some old
  pub reads_cells : c ≡ some cells
  pub readable_cells : all readable_cell cells ≡ true
  pub verdict : vert_row_verdict s o c ≡ after_vert_row s old cells

-- WHERE NO REFUSAL IS FOUND THE INPUTS PASS.
pub vert_row_passes : (s : RenderOptions) (old cs : List ℕ) → 0 ≡ vert_row_number s old cs → VertRowPasses s (read_sheet old) (read_plain_cells cs)
vert_row_passes s old cs e =
    let (a, b) = first_none (first_of (sheet_refusal old) (plain_cells_refusal cs)) (width_refusal s.width) (sym e) in
    let (i, j) = first_none (sheet_refusal old) (plain_cells_refusal cs) a in
    let x = sheet_passes old i in
    let y = plain_cells_pass cs j in
    record {
      old = x.sheet;
      cells = y.cells;
      reads_old = x.reads;
      reads_cells = y.reads;
      readable_cells = y.readable;
      verdict = vert_row_goes 0 s old cs e refl x.sheet y.cells x.reads y.reads;
    }

-- The sheet passes.
pub sheet_alone_passes : (s : RenderOptions) (old cs : List ℕ) → 0 ≡ vert_row_number s old cs → sheet_refusal old ≡ 0
sheet_alone_passes s old cs e =
    (first_none (sheet_refusal old) (plain_cells_refusal cs) (first_none (first_of (sheet_refusal old) (plain_cells_refusal cs)) (width_refusal s.width) (sym e)).0).0

-- A refusal of these inputs is 1 to 3.
pub vert_row_low : (s : RenderOptions) (old cs : List ℕ) → vert_row_number s old cs ≤ 3
vert_row_low s old cs = first_low _ _ (first_low _ _ (sheet_low old) (plain_cells_low cs)) (width_low s.width)
