-- Laws of the whole call: what passes refusals 1 to 3 is what the row is laid from, and the row's answer is the call's.
-- Assumes nothing.
use mathlib.Core.Path.{◌≡◌, refl, sym, ap, ap₂, ◌∙◌}
use mathlib.Core.Bool.{Bool, true, false, not, ◌&&◌}
use mathlib.Core.List.{List}
use Prim.Native.Nat.{ℕ}
use native.Mathlib.Omega.{arith}
use Rattle.std.specs.Prelude.{Result, if◌then◌else◌}
use Rattle.characters.proofs.Tests.{and_right}
use Rattle.fields.specs.Field.{all}
use Rattle.fields.specs.First.{first_of}
use Rattle.fields.specs.Answer.{Answer, Verdict, rendered, refuse_with, refused, give}
use Rattle.fields.specs.Refusal.{number}
use Rattle.fields.specs.declared.refusal.Refusal.{Refusal}
use Rattle.fields.proofs.First.{is_some}
use Rattle.extend_lines.proofs.Refusing.{sheet_low, cells_low, width_low, first_low, refuses_low}
use Rattle.rows.specs.Answer.{width_refusal, finished, or_misfit, columns_answer}
use Rattle.rows.specs.declared.RenderOptions.{RenderOptions}
use Rattle.fields.specs.Spans.{Sheet, Cell, read_cells, readable_lines, readable_names, readable_hanging}
use Rattle.fields.specs.SpanRefusals.{sheet_refusal, cells_refusal}
use Rattle.rows.specs.SubRenderer.{ends_in_border}
use Rattle.rows.specs.Columns.{row_slots, any_top, none_if, columns_misfit, flat_columns}
use Rattle.rows.proofs.Columns.{columns_flat, six_flat}
use Rattle.checks.proofs.Passing.{SheetPasses, sheet_passes, CellsPass, cells_pass}
use Rattle.checks.proofs.Verdicts.{columns_number, after_columns, columns_refused, columns_goes, first_none}
use Rattle.append_columns.specs.declared.sheet.OldSheet.{OldSheet}
use Rattle.append_columns.specs.Sheet.{OldIs, Splits, joined}
use Rattle.append_columns.specs.Lay.{InputsAre, Lays}
use Rattle.append_columns.proofs.SheetLaws.{joined_is}
use Rattle.append_columns.proofs.LayLaws.{judged}

-- ---- the inputs

-- 6 and 10 by their tests, and the flat form
after_flat : (s : RenderOptions) (old : Sheet) (cs : List Cell) (collapse joined : Bool) → joined ≡ ends_in_border old.lines
    → after_columns s collapse old cs
    ≡ judged (collapse && any_top (row_slots old.overhang cs) && not joined) (columns_misfit s old cs collapse) (finished (flat_columns s old cs collapse))
after_flat s old cs collapse joined kind =
    ap₂ (λ (six : Bool) (v : Verdict). if six then refused 6 else v)
    (six_flat s old cs collapse ∙ ap (λ (b : Bool). collapse && any_top (row_slots old.overhang cs) && not b) (sym kind))
    (ap or_misfit (columns_flat s old cs collapse) ∙ misfit_or (columns_misfit s old cs collapse) (flat_columns s old cs collapse))
  where
    misfit_or : (b : Bool) (t : Sheet) → or_misfit (none_if b t) ≡ (if b then refused 10 else finished t)
    misfit_or true t = refl
    misfit_or false t = refl

-- A refusal of 1 to 3.
pub call_refused : (e : Refusal) (a : Answer) (s : RenderOptions) (sheet cells : List ℕ) (collapse : Bool) (st : List ℕ) → number e ≡ columns_number s sheet cells
    → a ≡ refuse_with e st → a ≡ columns_answer s sheet cells collapse st
unfolding columns_answer
call_refused e a s sheet cells collapse st k is =
    let low = first_low _ _ (first_low _ _ (sheet_low sheet) (cells_low cells)) (width_low s.width) in
    is
    ∙ refuses_low e st (omega (arith, k, low))
    ∙ ap (λ (v : Verdict). give v st) (sym (columns_refused (number e) s sheet cells collapse k (λ z. omega (arith, z, is_some e))))

module _ (s : RenderOptions) (sheet cells : List ℕ) (passed : 0 ≡ columns_number s sheet cells) where
  -- Both inputs pass.
  pub none_of : (sheet_refusal sheet ≡ 0) × (cells_refusal cells ≡ 0)
  none_of =
      first_none (sheet_refusal sheet) (cells_refusal cells)
      (first_none (first_of (sheet_refusal sheet) (cells_refusal cells)) (width_refusal s.width) (sym passed)).0

  old_passes : SheetPasses sheet
  old_passes = sheet_passes sheet none_of.0

  cells_passes : CellsPass cells (read_cells cells)
  cells_passes = cells_pass cells none_of.1

  module _ (parts : OldSheet) (splits : Splits sheet parts) where
    old_is : OldIs parts old_passes.sheet
    old_is = splits old_passes.sheet old_passes.reads

    -- the inputs that the row is laid from
    inputs_are : InputsAre parts cells old_passes.sheet cells_passes.cells
    inputs_are =
        record {
          old_is = old_is;
          hung_readable = and_right (readable_lines old_passes.sheet.lines && readable_names old_passes.sheet.names) (all readable_hanging old_passes.sheet.overhang) old_passes.readable;
          hung_wide = old_passes.wide;
          cells_are = record { reads = cells_passes.there.reads };
          few = cells_passes.few;
          cells_readable = cells_passes.readable;
          cells_wide = cells_passes.wide;
        }

    -- The row's answer is the call's.
    pub call_laid : (collapse : Bool) (done : Result ℕ Refusal) (st st' : List ℕ) → Lays s parts cells collapse st done st' → rendered done st' ≡ columns_answer s sheet cells collapse st
    unfolding columns_answer
    call_laid collapse done st st' lays =
        let old = old_passes.sheet in
        let cs = cells_passes.cells in
        lays old cs inputs_are
        ∙ ap (λ (v : Verdict). give v st)
        (sym (columns_goes 0 s sheet cells collapse passed refl old cs old_passes.reads cells_passes.reads
        ∙ after_flat s old cs collapse (joined parts) (joined_is parts old.lines old_is.lines)))
