-- Laws of the row: what is asked of it, which names wait on below it, and that all that is written is the sheet of the definition.
-- Assumes nothing.
use mathlib.Core.Path.{◌≡◌, refl, sym, ap, ap₂, ◌∙◌}
use mathlib.Core.Bool.{Bool, true, false, not, ◌&&◌}
use mathlib.Core.Option.{some}
use mathlib.Core.List.{List, [], ◌∷◌, ◌++◌, map, map-append, append_assoc}
use Prim.Native.Nat.{ℕ, zero, suc, ◌+◌, ◌-◌, ◌^◌, ◌≤◌, ◌<◌}
use native.Mathlib.Omega.{arith}
use lib.ListN.{length, take, drop, length-append, drop_of_length-le}
use lib.Seq.{take_all}
use borrow.Author.Tests.{leb-true, eq-eqb, ne_eqb}
use Rattle.characters.proofs.Tests.{by_if, and_left, and_right}
use Rattle.std.specs.Prelude.{Result, Ok, Err, if◌then◌else◌}
use Rattle.fields.specs.Field.{raws_f, raws, read_all, all}
use Rattle.fields.specs.Answer.{Verdict, rendered, refuse_with, refused, give}
use Rattle.fields.specs.Refusal.{number}
use Rattle.fields.specs.declared.refusal.Refusal.{Refusal}
use Rattle.fields.specs.declared.refusal.Refusal.TheVariants.{NoBorderAbove}
use Rattle.fields.proofs.First.{is_some}
use Rattle.fields.proofs.Back.{Every}
use Rattle.rows.specs.declared.RenderOptions.{RenderOptions}
use Rattle.fields.specs.Spans.{Hole, RenderLine, border, Hanging, Sheet, sheet_of, Cell, read_name, read_hanging, wide, wide_hanging, lines_bytes, names_bytes, overhang_bytes}
use Rattle.rows.specs.SubRenderer.{padded, on_last, if_drawn}
use Rattle.rows.specs.Columns.{Slot, cell_slots, hung_slot, row_slots, row_total, column_of, columns_height, column_lines, lines_misfit, any_past, holes_of, cut_all, hangs_of, border_above, border_below, Column, row_misfit, columns_row, columns_added, columns_misfit, flat_columns, any_top}
use Rattle.rows.specs.Answer.{finished}
use Rattle.rows.specs.Named.{named_lines, names_left}
use Rattle.rows.proofs.Adding.{named_append, left_append}
use Rattle.rows.proofs.Reading.{Bytes}
use Rattle.seats.specs.Row.{RowIs, BeginsRow}
use Rattle.seats.specs.Survey.{PlainSlot, SurveyIs, Surveys}
use Rattle.seats.specs.declared.row.Row.{Row}
use Rattle.seats.specs.declared.survey.Surveyed.{Surveyed}
use Rattle.seats.proofs.PlainLaws.{plain_holes, plain_hangs, plain_fits}
use Rattle.row_fit.specs.Row.{any_hole, RowFit}
use Rattle.row_holes.specs.Row.{WideSeat}
use Rattle.row_lines.specs.Full.{AddsRow}
use Rattle.extend_lines.proofs.Growing.{or_first, or_second}
use Rattle.overhang.specs.Hang.{StartsIn, HangsAll}
use Rattle.extend_lines.specs.Emitted.{Emitted, InBounds, all_fit, TailReads, HandsOn, Closes}
use Rattle.extend_lines.specs.declared.line.Lines.{Lines}
use Rattle.extend_lines.proofs.Emitting.{refuses}
use Rattle.extend_lines.proofs.Naming.{names_back}
use Rattle.append_columns.specs.declared.sheet.OldSheet.{OldSheet}
use Rattle.append_columns.specs.Sheet.{joined}
use Rattle.append_columns.specs.Old.{AddsOld}
use Rattle.append_columns.specs.Below.{holes_below, NextOrSame, RowBelow, AddsBelow}
use Rattle.append_columns.specs.Lay.{row_refusal, RowAsked, Asks, waiting_on, HandsNames, full_total, InputsAre, RowGoes, AddsAll, Lays}
use Rattle.append_columns.proofs.SheetLaws.{joined_is}
use Rattle.append_columns.proofs.EveryLaws.{every_row}

-- ---- what is asked

module _ (o : RenderOptions) (joined collapse : Bool) (s : Surveyed) (xs : List Slot) (full : ℕ) (v : SurveyIs collapse s xs full) (six : Bool) (is : six ≡ (collapse && s.top && not joined)) where
  -- the row's columns, and its border below
  abbrev cols : List Column
  cols = map (column_of collapse) xs

  abbrev misfit : Bool
  misfit = row_misfit o s.total cols (border_below joined s.total xs cols)

  -- the test of refusal 6 over the row
  six_is : (collapse && any_top xs && not joined) ≡ six
  six_is = ap (λ (t : Bool). collapse && t && not joined) (sym v.top_is) ∙ sym is

  -- Refusal 6.
  pub asked_six : six ≡ true → RowAsked o joined collapse s.total s.height xs (Err NoBorderAbove)
  asked_six e = (rw (six_is ∙ e), refl)

  -- no refusal, whatever the holes
  no_refusal : (h : Bool) → six ≡ false → misfit ≡ false → h ≡ any_hole (holes_below o collapse s.height xs)
      → RowAsked o joined collapse s.total s.height xs (Ok h)
  no_refusal h e m k = (rw (six_is ∙ e, m), k)

  -- A plain row has none.
  pub asked_plain : six ≡ false → s.plain ≡ true → RowAsked o joined collapse s.total s.height xs (Ok false)
  asked_plain e p =
      let q : Every (PlainSlot collapse s.total) xs = rw v.total_is (v.plain_is p) in
      no_refusal false e (plain_fits o s.total collapse xs _ q) (sym (ap any_hole (plain_holes o s.height 0 s.total collapse xs q)))

  -- Refusal 10, or none.
  pub asked_fit : (r : Result Bool Refusal) → six ≡ false → RowFit o collapse joined s.total s.height xs r → RowAsked o joined collapse s.total s.height xs r
  asked_fit (Ok holes) e fit = no_refusal holes e fit.0 fit.1
  asked_fit (Err refusal) e fit = rw fit.1 (rw (six_is ∙ e, fit.0), refl)

-- ---- the numbers of lines

-- At most a line more stays in bounds.
pub below_bounds : (p r : Lines) → InBounds p → p.count ≤ 131071 → NextOrSame p r → InBounds r
below_bounds p r b few x = record { at = omega (arith, b.at, x.at, x.on, x.count); count = omega (arith, few, x.count) }

-- ---- the names that wait

-- Names that were read are F fields with no V field behind them.
tail_names : (bs : List ℕ) (ns : List (List ℕ)) → read_all read_name (raws bs) ≡ some ns → TailReads bs ns []
unfolding raws raws_f read_all
tail_names bs ns read =
    let all : length bs ≤ length bs = omega arith in
    let whole : take (length bs) bs ≡ bs = take_all (length bs) bs all in
    let none : drop (length bs) bs ≡ [] = drop_of_length-le bs all in
    record { seam = length bs; names = ap (λ (l : List ℕ). read_all read_name (raws l)) whole ∙ read; hung = ap (λ (l : List ℕ). read_all read_hanging (raws l)) none }

-- the place behind them
names_low : (names out out' st : List ℕ) (ls : List RenderLine) (ns : List (List ℕ)) (p r : Lines) → InBounds p → length (names_bytes ns) ≤ length names
    → Emitted st ls [] [] out p → Emitted st ls ns [] out' r → all_fit ls [] ≡ true → r.at ≤ 2 ^ 44 + length names
unfolding names_bytes overhang_bytes
names_low names out out' st ls ns p r b few e f ok =
    omega (
      arith,
      b.at,
      b.count,
      few,
      e.place ok,
      f.place ok,
      length-append (lines_bytes ls) [],
      length-append (lines_bytes ls) (names_bytes ns ++ []),
      length-append (names_bytes ns) [],
    )

-- They are handed on where the row has no line.
pub hands_all : (out out' : List ℕ) (p r : Lines) (names : List ℕ) (height : ℕ) → Bytes names → InBounds p → height ≡ 0 → HandsOn out p names out' r
    → HandsNames out p names height out' r
hands_all out out' p r names height k b none hands ns read st ls e =
    let f : Emitted st ls ns [] out' r = hands ns [] (tail_names names ns read) st ls e in
    let are : waiting_on height ns ≡ ns = ap (λ (t : Bool). if t then ns else []) (eq-eqb height 0 none) in
    record {
      emitted = rw are f;
      low = names_low names out out' st ls ns p r b (omega (arith, ap length (names_back names ns k read))) e f;
    }

-- None is where it has one.
pub hands_none : (out : List ℕ) (p : Lines) (names : List ℕ) (height : ℕ) → InBounds p → (height ≡ 0 → ⊥) → HandsNames out p names height out p
unfolding names_bytes
hands_none out p names height b some-line ns read st ls e =
    let are : waiting_on height ns ≡ [] = ap (λ (t : Bool). if t then ns else []) (ne_eqb height 0 some-line) in
    record { emitted = rw are e; low = names_low names out out st ls [] p p b (omega arith) e e }

-- a border takes none, and leaves them
border_named : (ns : List (List ℕ)) (s : RenderOptions) (a : ℕ) (segs : List ℕ) (hs : List Hole) → named_lines ns (if_drawn s (border a segs hs)) ≡ if_drawn s (border a segs hs)
unfolding named_lines
border_named ns s a segs hs = by_if (λ (ls : List RenderLine). named_lines ns ls ≡ ls) s.borders (λ _. refl) (λ _. refl)

border_leaves : (ns : List (List ℕ)) (s : RenderOptions) (a : ℕ) (segs : List ℕ) (hs : List Hole) → names_left ns (if_drawn s (border a segs hs)) ≡ ns
unfolding names_left
border_leaves ns s a segs hs = by_if (λ (ls : List RenderLine). names_left ns ls ≡ ns) s.borders (λ _. refl) (λ _. refl)

-- the first line of a row takes them all
lines_leave : (ns : List (List ℕ)) (s : RenderOptions) (n : ℕ) (cs : List Column) → names_left ns (column_lines s n cs) ≡ waiting_on n ns
unfolding names_left column_lines
lines_leave ns s zero cs = refl
lines_leave ns s (suc n) cs = rw (ne_eqb (suc n) 0 (λ e. omega (arith, e)))

-- A row with its border below: the names stand in the row's first line, or wait on.
row_named : (ns : List (List ℕ)) (s : RenderOptions) (n : ℕ) (cs : List Column) (a : ℕ) (segs : List ℕ) (hs : List Hole)
    → named_lines ns (column_lines s n cs ++ if_drawn s (border a segs hs)) ≡ named_lines ns (column_lines s n cs) ++ if_drawn s (border a segs hs)
row_named ns s n cs a segs hs =
    let b = column_lines s n cs in
    named_append ns b (if_drawn s (border a segs hs)) ∙ ap (λ (ls : List RenderLine). named_lines ns b ++ ls) (border_named (names_left ns b) s a segs hs)

row_leaves : (ns : List (List ℕ)) (s : RenderOptions) (n : ℕ) (cs : List Column) (a : ℕ) (segs : List ℕ) (hs : List Hole)
    → names_left ns (column_lines s n cs ++ if_drawn s (border a segs hs)) ≡ waiting_on n ns
row_leaves ns s n cs a segs hs =
    left_append ns (column_lines s n cs) (if_drawn s (border a segs hs)) ∙ border_leaves (names_left ns (column_lines s n cs)) s a segs hs ∙ lines_leave ns s n cs

-- ---- what is written

-- a cell that hangs on has a column
wide_cells : (pos : ℕ) (cs : List Cell) → all wide cs ≡ true → Every WideSeat (cell_slots pos cs)
unfolding all cell_slots
wide_cells pos [] e = tt
wide_cells pos (c ∷ cs) e =
    ((λ _. leb-true 1 c.width (and_left (wide c) (all wide cs) e)), wide_cells (pos + c.width + 1) cs (and_right (wide c) (all wide cs) e))

wide_hung : (vs : List Hanging) → all wide_hanging vs ≡ true → Every (λ (v : Hanging). WideSeat (hung_slot v)) vs
unfolding all
wide_hung [] e = tt
wide_hung (v ∷ vs) e =
    ((λ _. leb-true 1 v.width (and_left (wide_hanging v) (all wide_hanging vs) e)), wide_hung vs (and_right (wide_hanging v) (all wide_hanging vs) e))

row_wide : (vs : List Hanging) (cs : List Cell) → all wide cs ≡ true → all wide_hanging vs ≡ true → Every WideSeat (row_slots vs cs)
row_wide vs cs c v = every_row WideSeat (λ next w h. absurd (omega (arith, h))) vs cs (wide_hung vs v) (wide_cells 0 cs c)

module _ (o : RenderOptions) (old : OldSheet) (row : Row) (collapse : Bool) (s : Surveyed) (holes : Bool) (store : List ℕ) where
  -- all lines, and what hangs below them, in the order of the code
  abbrev all_lines : Sheet → List Slot → List RenderLine
  all_lines t xs =
      let cs = map (column_of collapse) xs in
      let hs = holes_below o collapse s.height xs in
      on_last (border_above collapse xs) t.lines ++ map (padded o) (named_lines t.names (column_lines o s.height cs))
      ++ map (padded o) (if_drawn o (border o.annotation (cut_all (border_below (joined old) s.total xs cs) hs) hs))

  abbrev all_hangs : List Slot → List Hanging
  all_hangs xs = hangs_of o s.height (map (column_of collapse) xs)

  module _ (cells : List ℕ) (t : Sheet) (cs : List Cell) (i : InputsAre old cells t cs) (r : RowGoes o (joined old) collapse row s holes (row_slots t.overhang cs) (full_total t.overhang cs)) where
    abbrev seats : List Slot
    seats = row_slots t.overhang cs

    -- the row fits
    lines_fit : lines_misfit s.total s.height (map (column_of collapse) seats) ≡ false
    unfolding row_misfit
    lines_fit =
        let cols = map (column_of collapse) seats in
        rw r.surveyed.height_is
        (or_first (lines_misfit s.total (columns_height cols) cols) (any_past (length (border_below (joined old) s.total seats cols)) (holes_of o (columns_height cols) 0 cols)) r.fits)

    holes_fit : any_past (length (border_below (joined old) s.total seats (map (column_of collapse) seats))) (holes_below o collapse s.height seats) ≡ false
    unfolding row_misfit
    holes_fit =
        let cols = map (column_of collapse) seats in
        rw r.surveyed.height_is
        (or_second (lines_misfit s.total (columns_height cols) cols) (any_past (length (border_below (joined old) s.total seats cols)) (holes_of o (columns_height cols) 0 cols)) r.fits)

    row_below : RowBelow o row (joined old) collapse s.total s.height holes seats
    row_below =
        record { full = full_total t.overhang cs; is = r.is; wide = row_wide t.overhang cs i.cells_wide i.hung_wide; holed = r.holed; within = holes_fit }

    -- the lines stand
    lines_stand : (o₁ o₂ o₃ : List ℕ) (p₁ p₂ p₃ : Lines) → AddsOld store old row collapse o₁ p₁ → AddsRow o₁ p₁ old.names.now o row collapse s.height o₂ p₂
        → AddsBelow o₂ p₂ o row (joined old) collapse s holes o₃ p₃ → Emitted store (all_lines t seats) [] [] o₃ p₃
    lines_stand o₁ o₂ o₃ p₁ p₂ p₃ olds rows below =
        let e₁ = olds seats _ r.is t.lines i.old_is.lines in
        let e₂ = rows t.names i.old_is.names seats _ r.is s.total lines_fit store _ e₁ in
        below seats row_below store _ e₂

    -- and they are those of the definition
    flat_is : sheet_of (all_lines t seats) (waiting_on s.height t.names) (all_hangs seats) ≡ flat_columns o t cs collapse
    unfolding flat_columns columns_added columns_row row_total
    flat_is =
        let h = r.surveyed.height_is in
        let w = r.surveyed.total_is in
        let k = joined_is old t.lines i.old_is.lines in
        let A = on_last (border_above collapse seats) t.lines in
        let cols = map (column_of collapse) seats in
        let B = named_lines t.names (column_lines o s.height cols) in
        let hs = holes_below o collapse s.height seats in
        let segs = cut_all (border_below (joined old) s.total seats cols) hs in
        let C = if_drawn o (border o.annotation segs hs) in
        ap₂ (λ (ls : List RenderLine) (ns : List (List ℕ)). sheet_of ls ns (all_hangs seats))
        (append_assoc A (map (padded o) B) (map (padded o) C)
        ∙ ap (λ (z : List RenderLine). A ++ z)
        (sym (map-append (padded o) B C) ∙ ap (map (padded o)) (sym (row_named t.names o s.height cols o.annotation segs hs))))
        (sym (row_leaves t.names o s.height cols o.annotation segs hs))
        ∙ rw (h, w, k)

    -- there is room for the V fields
    hangs_start : length old.names.now + length old.hanging.now < 2 ^ 63 → (ls : List RenderLine) (p : Lines)
        → (all_fit ls [] ≡ true → p.at ≤ 2 ^ 44 + length old.names.now) → StartsIn t.overhang ls p
    hangs_start near ls p low = record { near = λ ok. omega (arith, low ok, near, i.old_is.size) }

  -- Of a plain row nothing hangs on.
  pub adds_plain : (o₁ o₂ o₃ o₄ : List ℕ) (p₁ p₂ p₃ p₄ : Lines) (done : Result ℕ Refusal) (store' : List ℕ) → s.plain ≡ true
      → AddsOld store old row collapse o₁ p₁ → AddsRow o₁ p₁ old.names.now o row collapse s.height o₂ p₂
      → AddsBelow o₂ p₂ o row (joined old) collapse s holes o₃ p₃ → HandsNames o₃ p₃ old.names.now s.height o₄ p₄
      → Closes p₄ o₄ done store' → AddsAll o old row collapse s holes store done store'
  adds_plain o₁ o₂ o₃ o₄ p₁ p₂ p₃ p₄ done store' p olds rows below hands closes cells t cs i r =
      let none : all_hangs (row_slots t.overhang cs) ≡ [] = plain_hangs o s.height (full_total t.overhang cs - 1) collapse (row_slots t.overhang cs) (r.surveyed.plain_is p) in
      closes store _ _ [] (hands t.names i.old_is.names store _ (lines_stand cells t cs i r o₁ o₂ o₃ p₁ p₂ p₃ olds rows below)).emitted
      ∙ ap (λ (z : Sheet). give (finished z) store)
      (ap (sheet_of (all_lines t (row_slots t.overhang cs)) (waiting_on s.height t.names)) (sym none) ∙ flat_is cells t cs i r)

  -- What hangs on stands behind the lines and the names.
  pub adds_all : (o₁ o₂ o₃ o₄ o₅ : List ℕ) (p₁ p₂ p₃ p₄ p₅ : Lines) (done : Result ℕ Refusal) (store' : List ℕ)
      → length old.names.now + length old.hanging.now < 2 ^ 63 → AddsOld store old row collapse o₁ p₁ → AddsRow o₁ p₁ old.names.now o row collapse s.height o₂ p₂
      → AddsBelow o₂ p₂ o row (joined old) collapse s holes o₃ p₃ → HandsNames o₃ p₃ old.names.now s.height o₄ p₄
      → HangsAll o₄ p₄ o row collapse s.height o₅ p₅ → Closes p₅ o₅ done store' → AddsAll o old row collapse s holes store done store'
  adds_all o₁ o₂ o₃ o₄ o₅ p₁ p₂ p₃ p₄ p₅ done store' near olds rows below hands hangs closes cells t cs i r =
      let h = hands t.names i.old_is.names store _ (lines_stand cells t cs i r o₁ o₂ o₃ p₁ p₂ p₃ olds rows below) in
      closes store _ _ _ (hangs cs t.overhang _ i.few r.is store _ _ (hangs_start cells t cs i r near _ p₄ h.low) h.emitted)
      ∙ ap (λ (z : Sheet). give (finished z) store) (flat_is cells t cs i r)

-- ---- the row past refusals 1 to 3

-- 6 by one test, 10 by another, or what follows
abbrev pub judged : Bool → Bool → Verdict → Verdict
judged six misfit v = if six then refused 6 else if misfit then refused 10 else v

by_refusal : (six ten : Bool) (v : Verdict) (n : ℕ) → n ≡ (if six then 6 else if ten then 10 else 0) → (n ≡ 0 → ⊥) → refused n ≡ judged six ten v
by_refusal true ten v n e h = ap refused e
by_refusal false true v n e h = ap refused e
by_refusal false false v n e h = absurd (h e)

by_none : (six ten : Bool) (v : Verdict) → ◌≡◌ {A = ℕ} 0 (if six then 6 else if ten then 10 else 0) → (ten ≡ false) × (v ≡ judged six ten v)
by_none true ten v e = absurd (omega (arith, e))
by_none false true v e = absurd (omega (arith, e))
by_none false false v e = (refl, refl)

module _ (o : RenderOptions) (old : OldSheet) (cells : List ℕ) (collapse : Bool) (row : Row) (s : Surveyed) (begins : BeginsRow cells old.hanging.now row)
    (surveys : Surveys row collapse s) where
  module _ (t : Sheet) (cs : List Cell) (i : InputsAre old cells t cs) where
    -- the row and what is known of it
    abbrev row_of : List Slot
    row_of = row_slots t.overhang cs

    row_is : RowIs row row_of (full_total t.overhang cs)
    row_is = begins cs t.overhang i.cells_are i.few i.cells_readable i.old_is.hanging i.hung_readable

    surveyed : SurveyIs collapse s row_of (full_total t.overhang cs)
    surveyed = surveys row_of _ row_is

    -- the tests of the definition
    misfit_same : row_misfit o s.total (map (column_of collapse) row_of) (border_below (joined old) s.total row_of (map (column_of collapse) row_of)) ≡ columns_misfit o t cs collapse
    unfolding columns_misfit row_total
    misfit_same = rw (surveyed.total_is, joined_is old t.lines i.old_is.lines)

    refusal_same : row_refusal o (joined old) collapse s.total row_of ≡ (if collapse && any_top row_of && not (joined old) then 6 else if columns_misfit o t cs collapse then 10 else 0)
    refusal_same = ap (λ (b : Bool). if collapse && any_top row_of && not (joined old) then 6 else if b then 10 else 0) misfit_same

  -- Refusal 6 or 10.
  pub lays_refused : (e : Refusal) → Asks row (joined old) collapse s (Err e) → (done : Result ℕ Refusal) (store store' : List ℕ)
      → rendered done store' ≡ refuse_with e store → Lays o old cells collapse store done store'
  lays_refused e asks done store store' is t cs i =
      let (k, z) = asks o (row_of t cs i) _ (row_is t cs i) (surveyed t cs i) in
      is
      ∙ refuses e (number e) store refl z
      ∙ ap (λ (v : Verdict). give v store) (by_refusal (collapse && any_top (row_slots t.overhang cs) && not (joined old)) (columns_misfit o t cs collapse) (finished (flat_columns o t cs collapse)) (number e)
      (k ∙ refusal_same t cs i) (λ n. omega (arith, n, is_some e)))

  -- The row is laid.
  pub lays_row : (holes : Bool) → Asks row (joined old) collapse s (Ok holes) → (done : Result ℕ Refusal) (store store' : List ℕ)
      → AddsAll o old row collapse s holes store done store' → Lays o old cells collapse store done store'
  lays_row holes asks done store store' adds t cs i =
      let (z, h) = asks o (row_of t cs i) _ (row_is t cs i) (surveyed t cs i) in
      let n =
      by_none (collapse && any_top (row_slots t.overhang cs) && not (joined old)) (columns_misfit o t cs collapse) (finished (flat_columns o t cs collapse)) (z ∙ refusal_same t cs i) in
      adds cells t cs i
      (record { is = row_is t cs i; surveyed = surveyed t cs i; fits = misfit_same t cs i ∙ n.0; holed = h })
      ∙ ap (λ (v : Verdict). give v store) n.1
