-- `inputs::split_sheet` meets its contract: the parts of a sheet that passed.
-- Assumes nothing.
use Rattle.std.proofs.Common.{arith}
use Rattle.append_subrender.proofs.Calling.{sheet_at, splits}
use Rattle.append_subrender.proofs.inputs.split_sheet.Goals as goal

pub slice_bounds-result-count : goal.slice_bounds-result-count
slice_bounds-result-count c =
    let found = sheet_at _ _ c.sheet_parts-at.ensures.finds_parts c.requires in
    found.1.lines.order

pub slice_bounds-result-start : goal.slice_bounds-result-start
slice_bounds-result-start c =
    let found = sheet_at _ _ c.sheet_parts-at.ensures.finds_parts c.requires in
    omega (arith, found.1.lines.order, found.1.lines.inside)

pub returns-clause-few : goal.returns-clause-few
returns-clause-few c =
    let found = sheet_at _ _ c.sheet_parts-at.ensures.finds_parts c.requires in
    found.1.few

pub returns-clause-splits : goal.returns-clause-splits
returns-clause-splits c =
    splits _ _ c.sheet_parts-at.ensures.finds_parts
