-- `sheet::OldSheet::of` meets its contract: the parts of a sheet that passed.
-- Assumes nothing.
use mathlib.Core.Path.{refl}
use native.Mathlib.Omega.{arith}
use Rattle.extend_lines.proofs.Handing.{bytes_known}
use Rattle.append_columns.proofs.SheetLaws.{lines_behind, few_lines, parts_are}
use Rattle.append_columns.proofs.sheet.OldSheet.of.Goals as goal

pub slice_bounds-lines-count : goal.slice_bounds-lines-count
slice_bounds-lines-count c = (lines_behind _ _ c.requires c.sheet_parts-at.ensures.finds_parts).0

pub slice_bounds-lines-start : goal.slice_bounds-lines-start
slice_bounds-lines-start c = let h = lines_behind _ _ c.requires c.sheet_parts-at.ensures.finds_parts in omega (arith, h.0, h.1)

pub invariant_of-result-clause-few : goal.invariant_of-result-clause-few
invariant_of-result-clause-few c = few_lines _ _ c.requires c.sheet_parts-at.ensures.finds_parts c.split_last.result.1 _ c.split_last.ensures

pub returns : goal.returns
returns c =
    parts_are _ c.sheet_parts-at.result _ (bytes_known c.args.sheet.now (λ i. omega (arith, c.type_inv.sheet i))) c.sheet_parts-at.ensures.finds_parts c.split_last.ensures refl refl
