-- Laws of the two calls: an input that passes has few lines, and the lines that are added and the names and cells that are handed on are
-- those of the answer.
-- Assumes nothing.
use mathlib.Core.Path.{◌≡◌, refl, sym, ap, ◌∙◌}
use mathlib.Core.Bool.{Bool, true, false, ◌&&◌}
use mathlib.Core.List.{List, []}
use mathlib.Core.Option.{Option, none, some}
use Prim.Native.Nat.{ℕ, ◌+◌, ◌-◌, ◌≤◌}
use native.Mathlib.Omega.{arith}
use lib.ListN.{length, take, drop, length-drop}
use lib.Seq.{length-take-le, drop-drop}
use Rattle.fields.specs.Field.{raws, read_all, all, part}
use Rattle.fields.specs.SpanRefusals.{sheet_refusal}
use Rattle.fields.specs.Sheet.{up_to16, read_prefixes}
use Rattle.fields.specs.Answer.{Answer, Verdict, refuse_with, refused, give}
use Rattle.fields.specs.Refusal.{number}
use Rattle.fields.specs.declared.refusal.Refusal.{Refusal}
use Rattle.fields.specs.declared.refusal.Refusal.TheVariants.{OverhangMisfit}
use Rattle.fields.proofs.First.{is_some}
use Rattle.fields.proofs.Texts.{rest}
use Rattle.fields.proofs.Parts.{drop_take}
use Rattle.fields.proofs.Readings.{read_size}
use Rattle.borders.specs.BorderSegHoriz.{Horiz}
use Rattle.rows.specs.declared.RenderOptions.{RenderOptions}
use Rattle.std.specs.Prelude.{if◌then◌else◌}
use Rattle.characters.proofs.Tests.{and_left}
use lib.Dec.{leb}
use borrow.Author.Tests.{leb-true}
use Rattle.fields.specs.Spans.{RenderLine, Hanging, Sheet, sheet_of, Cell, read_sheet, read_line, read_plain_cell, read_plain_cells, readable_lines, readable_names, readable_hanging}
use Rattle.rows.specs.Columns.{none_if}
use Rattle.rows.specs.SubRenderer.{Extended, on_sheet, of_sheet}
use Rattle.rows.specs.Named.{names_left}
use Rattle.rows.specs.Answer.{finished, or_misfit, handed_on, subrender_answer, vert_row_answer}
use Rattle.checks.specs.Split.{SheetAt, FindsParts}
use Rattle.checks.specs.declared.sheet.Parts.{Parts}
use Rattle.extend_lines.specs.Emitted.{no_lines, InBounds, Emitted, CopiesLines, TailReads, HandsOn}
use Rattle.extend_lines.specs.declared.line.Lines.{Lines}
use Rattle.extend_lines.proofs.Emitting.{emitted_none, refuses}
use Rattle.extend_lines.proofs.Refusing.{refuses_low}
use Rattle.append_subrender.specs.Inputs.{Splits}
use Rattle.append_subrender.specs.Misfit.{guest_misfit, cells_misfit, cell_lines, TellsGuest, TellsCells}
use Rattle.append_subrender.specs.Prefixes.{NamesOf, added, AddsGuest, rule_if, AddsRuleIf, AddsCells}
use Rattle.append_subrender.specs.declared.prefixed.Added.{Added}
use Rattle.append_subrender.proofs.Waiting.{adds_edge, adds_then}
use Rattle.append_subrender.proofs.Pairing.{subrender_lines, vert_row_lines}
use Rattle.checks.proofs.Verdicts.{subrender_number, subrender_refused, vert_row_number, vert_row_refused}
use Rattle.checks.proofs.Passing.{sheet_passes}
use Rattle.append_subrender.proofs.Refusing.{SubrenderPasses, VertRowPasses, subrender_passes, subrender_low, vert_row_passes, vert_row_low}

-- ---- numbers

-- no lines yet
pub none_bounds : (p : Lines) → p ≡ no_lines → InBounds p × (p.count ≡ 0)
none_bounds p e = rw e (record { at = omega arith; count = omega arith }, refl)

-- cells that are read are few
pub cells_few : (bs : List ℕ) (cs : List Cell) → read_plain_cells bs ≡ some cs → (read_all read_plain_cell (raws bs) ≡ some cs) × (length (raws bs) ≤ 16)
unfolding read_plain_cells
cells_few bs cs e =
    let (r, k) = few_of (read_all read_plain_cell (raws bs)) e in
    (r, omega (arith, read_size read_plain_cell (raws bs) cs r, k))
  where
    few_of : (o : Option (List Cell)) → up_to16 o ≡ some cs → (o ≡ some cs) × (length cs ≤ 16)
    few_of none e = absurd (let z : ◌≡◌ {A = ℕ} 0 1 = cc in omega arith)
    few_of (some ds) e = go (leb (length ds) 16) refl e
      where
        go : (b : Bool) → leb (length ds) 16 ≡ b → (if b then some ds else none) ≡ some cs → (some ds ≡ some cs) × (length cs ≤ 16)
        go true k e = let same : ds ≡ cs = cc in (e, omega (arith, leb-true (length ds) 16 k, ap length same))
        go false k e = absurd (let z : ◌≡◌ {A = ℕ} 0 1 = cc in omega arith)

-- ---- refusals

-- what is handed on with what hangs, or refusal 10
handed : (vs : List Hanging) (b : Bool) (a : Extended) → b ≡ false → or_misfit (handed_on vs (none_if b a)) ≡ finished (on_sheet a vs)
handed vs b a e = rw e

misfits : (vs : List Hanging) (b : Bool) (a : Extended) → b ≡ true → or_misfit (handed_on vs (none_if b a)) ≡ refused 10
misfits vs b a e = rw e

-- ---- the parts of a sheet

-- its lines, copied
copied : (st o₁ : List ℕ) (p₀ p₁ : Lines) (bs : List ℕ) (ls : List RenderLine) → p₀ ≡ no_lines → read_all read_line (raws bs) ≡ some ls → CopiesLines st p₀ bs o₁ p₁
    → Emitted st ls [] [] o₁ p₁
copied st o₁ p₀ p₁ bs ls begun reads copies = copies ls reads st [] (rw begun (emitted_none st))

-- The bytes from a place in the names on: the names that still wait, and what hangs.
tail_reads : (bs : List ℕ) (r : Parts) (from : ℕ) (old : Sheet) (ns : List (List ℕ)) → SheetAt bs r old → from ≤ length (part r.names r.hanging bs)
    → NamesOf (drop from (part r.names r.hanging bs)) ns → TailReads (drop from (drop r.names bs)) ns old.overhang
tail_reads bs r from old ns at few reads =
    let k = r.names in
    let n = r.hanging - k - from in
    let m : length (part k r.hanging bs) ≡ r.hanging - k = length-take-le (r.hanging - k) (drop k bs) (omega (arith, at.names.order, at.names.inside, length-drop k bs)) in
    let i : k + from + n ≡ r.hanging = omega (arith, m, few, at.names.order) in
    let front : take n (drop from (drop k bs)) ≡ drop from (part k r.hanging bs) =
    sym (drop_take from (r.hanging - k) (drop k bs) (omega (arith, m, few)) (omega (arith, at.names.inside, length-drop k bs))) in
    let behind : drop n (drop from (drop k bs)) ≡ drop r.hanging bs = ap (drop n) (drop-drop from k bs) ∙ drop-drop n (k + from) bs ∙ ap (λ (z : ℕ). drop z bs) i in
    record {
      seam = n;
      names = rw front reads;
      hung = rw behind at.hung.reads;
    }

-- Where its parts stand.
pub sheet_at : (bs : List ℕ) (r : Parts) → FindsParts bs r → sheet_refusal bs ≡ 0 → (t : Sheet) × SheetAt bs r t
sheet_at bs r finds e = let x = sheet_passes bs e in (x.sheet, finds x.sheet x.reads)

-- They are its lines, its names and what stands behind the lines.
pub splits : (bs : List ℕ) (r : Parts) → FindsParts bs r → Splits bs (part 5 r.names bs) (part r.names r.hanging bs) (take (length bs - r.names) (drop r.names bs))
splits bs r finds t reads =
    let at = finds t reads in
    record {
      lines_read = at.lines.reads;
      names_read = at.names.reads;
      tail_read = λ from ns few waiting. rw (rest bs r.names) (tail_reads bs r from t ns at few waiting);
    }

-- what a call answers is the end of what stands in the store
abbrev Ends : List ℕ → Lines → Answer → Type 0
Ends out p a =
    (d : List ℕ) (ls : List RenderLine) (ns : List (List ℕ)) (vs : List Hanging) → Emitted d ls ns vs out p → a ≡ give (finished (sheet_of ls ns vs)) d

-- ---- `append_subrender`

-- A refusal of 1 to 3.
pub subrender_refuses : (e : Refusal) (a : Answer) (s : RenderOptions) (old guest ps : List ℕ) (rep : Bool) (st : List ℕ) → number e ≡ subrender_number s old guest ps
    → a ≡ refuse_with e st → a ≡ subrender_answer s old guest ps rep st
unfolding subrender_answer
subrender_refuses e a s old guest ps rep st k is =
    let low : number e ≤ 3 = omega (arith, k, subrender_low s old guest ps) in
    is
    ∙ refuses_low e st low
    ∙ ap (λ (v : Verdict). give v st) (sym (subrender_refused (number e) s old guest ps rep k (λ z. omega (arith, z, is_some e))))

module _ (s : RenderOptions) (old guest ps : List ℕ) (rep : Bool) (passed : 0 ≡ subrender_number s old guest ps) (st lines names behind : List ℕ)
    (split-guest : Splits guest lines names behind) (t : Bool) (told : TellsGuest lines ps rep t) where
  inputs : SubrenderPasses s (read_sheet old) (read_sheet guest) (read_prefixes ps) rep
  inputs = subrender_passes s old guest ps rep passed

  -- the test is that of the definition
  test_is : t ≡ guest_misfit rep inputs.guest.lines inputs.prefixes
  unfolding read_prefixes
  test_is = told inputs.guest.lines inputs.prefixes (split-guest inputs.guest inputs.reads_guest).lines_read inputs.reads_prefixes

  -- Refusal 10.
  pub subrender_misfits : (a : Answer) → t ≡ true → a ≡ refuse_with OverhangMisfit st → a ≡ subrender_answer s old guest ps rep st
  unfolding subrender_answer
  subrender_misfits a so is =
      let k = inputs in
      is
      ∙ refuses OverhangMisfit 10 st refl refl
      ∙ ap (λ (v : Verdict). give v st)
      (sym (k.verdict ∙ ap (λ (o : Option Extended). or_misfit (handed_on k.old.overhang o)) (subrender_lines s (of_sheet k.old) k.guest.lines rep k.prefixes)
      ∙ misfits k.old.overhang _ _ (sym test_is ∙ so)))

  -- The lines of the answer, the names that still wait and what hangs.
  pub subrender_gives : (o₁ o₂ o₃ : List ℕ) (p₀ p₁ : Lines) (p₂ : Added) (p₃ : Lines) (a : Answer) (old-lines waiting tail : List ℕ) → t ≡ false → Splits old old-lines waiting tail
      → p₀ ≡ no_lines → CopiesLines st p₀ old-lines o₁ p₁ → p₂.from ≤ length waiting → AddsGuest o₁ p₁ s waiting lines ps rep o₂ p₂
      → HandsOn o₂ p₂.lines (take (length tail - p₂.from) (drop p₂.from tail)) o₃ p₃ → Ends o₃ p₃ a
      → a ≡ subrender_answer s old guest ps rep st
  unfolding subrender_answer readable_lines read_prefixes
  subrender_gives o₁ o₂ o₃ p₀ p₁ p₂ p₃ a old-lines waiting tail clear split-old begun copies few adds hands close =
      let k = inputs in
      let at = split-old k.old k.reads_old in
      let apart : guest_misfit rep k.guest.lines k.prefixes ≡ false = sym test_is ∙ clear in
      let theirs = split-guest k.guest k.reads_guest in
      let readable =
      and_left (readable_lines k.guest.lines) (readable_names k.guest.names)
      (and_left (readable_lines k.guest.lines && readable_names k.guest.names) (all readable_hanging k.guest.overhang) k.readable_guest) in
      let e₁ = copied st o₁ p₀ p₁ old-lines k.old.lines begun at.lines_read copies in
      let new = adds k.old.names k.guest.lines k.prefixes at.names_read theirs.lines_read readable k.reads_prefixes k.readable_prefixes apart in
      let e₂ = new.lines st k.old.lines e₁ in
      let e₃ = hands _ k.old.overhang (rw (rest tail p₂.from) (at.tail_read p₂.from _ few new.waiting)) st _ e₂ in
      close st _ _ _ e₃
      ∙ ap (λ (v : Verdict). give v st)
      (sym (k.verdict ∙ ap (λ (o : Option Extended). or_misfit (handed_on k.old.overhang o)) (subrender_lines s (of_sheet k.old) k.guest.lines rep k.prefixes)
      ∙ handed k.old.overhang _ _ apart))

-- ---- `append_vert_row`

-- A refusal of 1 to 3.
pub vert_row_refuses : (e : Refusal) (a : Answer) (s : RenderOptions) (old cs st : List ℕ) → number e ≡ vert_row_number s old cs
    → a ≡ refuse_with e st → a ≡ vert_row_answer s old cs st
unfolding vert_row_answer
vert_row_refuses e a s old cs st k is =
    let low : number e ≤ 3 = omega (arith, k, vert_row_low s old cs) in
    is ∙ refuses_low e st low ∙ ap (λ (v : Verdict). give v st) (sym (vert_row_refused (number e) s old cs k (λ z. omega (arith, z, is_some e))))

-- The cells are few.
pub passed_few : (s : RenderOptions) (old cs : List ℕ) → 0 ≡ vert_row_number s old cs → length (raws cs) ≤ 16
passed_few s old cs passed = let k = vert_row_passes s old cs passed in (cells_few cs k.cells k.reads_cells).1

module _ (s : RenderOptions) (old cs : List ℕ) (passed : 0 ≡ vert_row_number s old cs) (st : List ℕ) (t : Bool) (told : TellsCells cs t) where
  cell_inputs : VertRowPasses s (read_sheet old) (read_plain_cells cs)
  cell_inputs = vert_row_passes s old cs passed

  -- the test is that of the definition
  cells_test : t ≡ cells_misfit cell_inputs.cells
  cells_test = told cell_inputs.cells (cells_few cs cell_inputs.cells cell_inputs.reads_cells).0

  -- Refusal 10.
  pub vert_row_misfits : (a : Answer) → t ≡ true → a ≡ refuse_with OverhangMisfit st → a ≡ vert_row_answer s old cs st
  unfolding vert_row_answer
  vert_row_misfits a so is =
      let k = cell_inputs in
      is
      ∙ refuses OverhangMisfit 10 st refl refl
      ∙ ap (λ (v : Verdict). give v st)
      (sym (k.verdict ∙ ap (λ (o : Option Extended). or_misfit (handed_on k.old.overhang o)) (vert_row_lines s (of_sheet k.old) k.cells)
      ∙ misfits k.old.overhang _ _ (sym cells_test ∙ so)))

  -- The lines of the answer, the names that still wait and what hangs: the last border leaves the names.
  pub vert_row_gives : (o₁ o₂ o₃ o₄ : List ℕ) (p₀ p₁ : Lines) (p₂ : Added) (p₃ p₄ : Lines) (a : Answer) (old-lines waiting tail : List ℕ) → t ≡ false
      → Splits old old-lines waiting tail → p₀ ≡ no_lines → CopiesLines st p₀ old-lines o₁ p₁ → p₂.from ≤ length waiting → AddsCells o₁ p₁ s waiting cs o₂ p₂
      → AddsRuleIf o₂ p₂.lines s Horiz s.borders o₃ p₃ → HandsOn o₃ p₃ (take (length tail - p₂.from) (drop p₂.from tail)) o₄ p₄ → Ends o₄ p₄ a
      → a ≡ vert_row_answer s old cs st
  unfolding vert_row_answer
  vert_row_gives o₁ o₂ o₃ o₄ p₀ p₁ p₂ p₃ p₄ a old-lines waiting tail clear split-old begun copies few adds rule hands close =
      let k = cell_inputs in
      let at = split-old k.old k.reads_old in
      let apart : cells_misfit k.cells ≡ false = sym cells_test ∙ clear in
      let ns = k.old.names in
      let new = cell_lines s true k.cells in
      let edge = rule_if s Horiz s.borders in
      let e₁ = copied st o₁ p₀ p₁ old-lines k.old.lines begun at.lines_read copies in
      let a₂ = adds ns k.cells at.names_read (cells_few cs k.cells k.reads_cells).0 k.readable_cells apart in
      let a₃ = adds_edge o₂ p₂ s waiting (names_left ns new) o₃ p₃ Horiz s.borders a₂.waiting rule in
      let all_new = adds_then o₁ (added p₁ 0) s waiting ns o₂ o₃ p₂ (added p₃ p₂.from) new edge a₂ a₃ in
      let e₃ = all_new.lines st k.old.lines e₁ in
      let e₄ = hands _ k.old.overhang (rw (rest tail p₂.from) (at.tail_read p₂.from _ few all_new.waiting)) st _ e₃ in
      close st _ _ _ e₄
      ∙ ap (λ (v : Verdict). give v st)
      (sym (k.verdict ∙ ap (λ (o : Option Extended). or_misfit (handed_on k.old.overhang o)) (vert_row_lines s (of_sheet k.old) k.cells)
      ∙ handed k.old.overhang _ _ apart))
