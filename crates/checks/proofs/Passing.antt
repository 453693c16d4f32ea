-- What passes refusals 1, 2 and 3: sheets and cells that are read, and that calls can lay.
-- Assumes nothing.
use mathlib.Core.Path.{◌≡◌, refl, sym, ap, ◌∙◌}
use mathlib.Core.Bool.{Bool, true, false, not}
use mathlib.Core.Option.{Option, none, some}
use mathlib.Core.List.{List, [], ◌∷◌}
use Prim.Native.Nat.{ℕ, ◌≤◌}
use native.Mathlib.Omega.{arith}
use lib.Dec.{leb, eqb}
use lib.ListN.{length}
use borrow.Author.Tests.{leb-true}
use Rattle.std.specs.Prelude.{if◌then◌else◌}
use Rattle.fields.specs.Field.{Raw, whole, broken, raws, read_all, all}
use Rattle.fields.specs.First.{refusal_of}
use Rattle.fields.specs.Sheet.{up_to16}
use Rattle.fields.proofs.Back.{Every}
use Rattle.fields.proofs.Readings.{read_first, read_on, read_size}
use Rattle.rows.proofs.Reading.{some_of, GoodCell, sheet_reads, sheet_from, cells_reads, plain_reads, cells_from}
use Rattle.fields.specs.Spans.{Sheet, Cell, read_sheet, read_cell_content, read_span_content, read_cell, read_cells, read_plain_cell, read_plain_cells, wide_hanging, wide, readable_sheet, readable_cell}
use Rattle.fields.specs.SpanRefusals.{sheet_refusal, cells_refusal, plain_cells_refusal}
use Rattle.fields.specs.Places.{CellsIn}
use Rattle.rows.specs.Fine.{FineSheet, FineCell}
use Rattle.fields.proofs.SpansBack.{GoodSheet}

-- no refusal: both tests are passed
two_tests : (w x : Bool) → ◌≡◌ {A = ℕ} (if not w then 2 else if x then 0 else 3) 0 → (w ≡ true) × (x ≡ true)
two_tests true true e = (refl, refl)
two_tests true false e = absurd (omega arith)
two_tests false x e = absurd (omega arith)

-- what is judged by two tests and is no refusal is read and passes them
record Passed {A : Type 0} (o : Option A) (w x : A → Bool) : Type 0 where
  one : A
  reads : o ≡ some one
  first : w one ≡ true
  second : x one ≡ true

passed : {A : Type 0} (o : Option A) (w x : A → Bool) → refusal_of (λ a. if not (w a) then 2 else if x a then 0 else 3) o ≡ 0 → Passed o w x
passed none w x e = absurd (omega arith)
passed (some a) w x e = let (h, k) = two_tests (w a) (x a) e in record { one = a; reads = refl; first = h; second = k }

-- ---- a sheet

-- it is read, its V fields have a width, and its texts and names are readable
pub record SheetPasses (s : List ℕ) : Type 0 where
  pub sheet : Sheet
  pub reads : read_sheet s ≡ some sheet
  pub wide : all wide_hanging sheet.overhang ≡ true
  pub readable : readable_sheet sheet ≡ true
  pub fine : FineSheet sheet

-- A SHEET WITHOUT A REFUSAL.
pub sheet_passes : (s : List ℕ) → sheet_refusal s ≡ 0 → SheetPasses s
unfolding sheet_refusal
sheet_passes s e =
    let p = passed (read_sheet s) (λ t. all wide_hanging t.overhang) readable_sheet e in
    let t = p.one in
    record {
      sheet = t;
      reads = p.reads;
      wide = p.first;
      readable = p.second;
      fine = sheet_from t (some_of GoodSheet (read_sheet s) t p.reads (sheet_reads s)) p.first p.second;
    }

-- ---- cells

-- they are read from the first byte on, at most 16, have a width, and their texts are readable
pub record CellsPass (s : List ℕ) (o : Option (List Cell)) : Type 0 where
  pub cells : List Cell
  pub reads : o ≡ some cells
  pub there : CellsIn s cells
  pub few : length cells ≤ 16
  pub fields : length (raws s) ≡ length cells
  pub wide : all wide cells ≡ true
  pub readable : all readable_cell cells ≡ true
  pub fine : Every FineCell cells

few_of : (o : Option (List Cell)) (cs : List Cell) → up_to16 o ≡ some cs → (o ≡ some cs) × (length cs ≤ 16)
few_of none cs e = absurd (let z : ◌≡◌ {A = ℕ} 0 1 = cc in omega arith)
few_of (some ds) cs e = go (leb (length ds) 16) refl e
  where
    go : (b : Bool) → leb (length ds) 16 ≡ b → (if b then some ds else none) ≡ some cs → (some ds ≡ some cs) × (length cs ≤ 16)
    go true k e = let same : ds ≡ cs = cc in (e, omega (arith, leb-true (length ds) 16 k, ap length same))
    go false k e = absurd (let z : ◌≡◌ {A = ℕ} 0 1 = cc in omega arith)

-- C AND K FIELDS WITHOUT A REFUSAL.
pub cells_pass : (s : List ℕ) → cells_refusal s ≡ 0 → CellsPass s (read_cells s)
unfolding cells_refusal read_cells
cells_pass s e =
    let p = passed (read_cells s) (all wide) (all readable_cell) e in
    let cs = p.one in
    let (r, k) = few_of (read_all read_cell (raws s)) cs p.reads in
    record {
      cells = cs;
      reads = p.reads;
      there = record { reads = r };
      few = k;
      fields = read_size read_cell (raws s) cs r;
      wide = p.first;
      readable = p.second;
      fine = cells_from cs (some_of (Every GoodCell) (read_cells s) cs p.reads (cells_reads s)) p.first p.second;
    }

-- a C field is a cell
plain_is : (r : Raw) (c : Cell) → read_plain_cell r ≡ some c → read_cell r ≡ some c
unfolding read_plain_cell read_cell
plain_is broken c e = e
plain_is (whole l t) c e = go (eqb l 0x43) e
  where
    go : (b : Bool) → (if b then read_cell_content t else none) ≡ some c
        → (if b then read_cell_content t else if eqb l 0x4B then read_span_content t else none) ≡ some c
    go true e = e
    go false e = absurd (let z : ◌≡◌ {A = ℕ} 0 1 = cc in omega arith)

plain_are : (rs : List Raw) (cs : List Cell) → read_all read_plain_cell rs ≡ some cs → read_all read_cell rs ≡ some cs
unfolding read_all
plain_are [] cs e = e
plain_are (r ∷ rs) cs e =
    let x = read_first read_plain_cell r rs cs e in
    read_on read_cell r rs x.one x.more (plain_is r x.one x.first) (plain_are rs x.more x.later) ∙ ap some (sym x.are)

-- C FIELDS WITHOUT A REFUSAL.
pub plain_cells_pass : (s : List ℕ) → plain_cells_refusal s ≡ 0 → CellsPass s (read_plain_cells s)
unfolding plain_cells_refusal read_plain_cells
plain_cells_pass s e =
    let p = passed (read_plain_cells s) (all wide) (all readable_cell) e in
    let cs = p.one in
    let (r, k) = few_of (read_all read_plain_cell (raws s)) cs p.reads in
    record {
      cells = cs;
      reads = p.reads;
      there = record { reads = plain_are (raws s) cs r };
      few = k;
      fields = read_size read_plain_cell (raws s) cs r;
      wide = p.first;
      readable = p.second;
      fine = cells_from cs (some_of (Every GoodCell) (read_plain_cells s) cs p.reads (plain_reads s)) p.first p.second;
    }
