-- `append_vert_row` meets its contract: the first of the inputs' refusals, or refusal 10, or the old lines, after them the cells' and a last
-- border, and the names that still wait on the old sheet and what hangs from it.
-- Assumes nothing.
use Rattle.std.proofs.Common.{arith}
use Rattle.append_subrender.proofs.Refusing.{sheet_alone_passes}
use Rattle.append_subrender.proofs.Calling.{none_bounds, passed_few, vert_row_refuses, vert_row_misfits, vert_row_gives}
use Rattle.append_subrender.proofs.append_vert_row.Goals as goal

pub returns-in-Err : goal.returns-in-Err
returns-in-Err c =
    vert_row_refuses _ _ _ _ _ _ (rw c.in-Err.is at c.check_vert_row.ensures) c.refuse.ensures

pub returns-then-cells_misfit : goal.returns-then-cells_misfit
returns-then-cells_misfit c =
    vert_row_misfits _ _ _ (rw c.in_default.is at c.check_vert_row.ensures) _ c.cells_misfit.result c.cells_misfit.ensures _ c.if-cells_misfit.true c.refuse-then-cells_misfit.ensures

pub split_sheet-ours-requires : goal.split_sheet-ours-requires
split_sheet-ours-requires c =
    sheet_alone_passes c.args.options _ _ (rw c.in_default.is at c.check_vert_row.ensures)

pub copy_lines-old-requires : goal.copy_lines-old-requires
copy_lines-old-requires c =
    let b = none_bounds _ c.new.ensures in
    (b.0, omega (arith, b.1, c.split_sheet-ours.ensures.few))

pub add_cells-stacked-requires : goal.add_cells-stacked-requires
add_cells-stacked-requires c =
    let old = c.copy_lines-old.ensures.in_bounds in
    let b = none_bounds _ c.new.ensures in
    (old.0, omega (arith, old.1, b.1, c.split_sheet-ours.ensures.few), passed_few c.args.options _ _ (rw c.in_default.is at c.check_vert_row.ensures))

pub add_rule_if-lines-requires : goal.add_rule_if-lines-requires
add_rule_if-lines-requires c =
    (c.add_cells-stacked.ensures.in_bounds.0, c.add_cells-stacked.ensures.in_bounds.2)

pub returns : goal.returns
returns c =
    vert_row_gives _ _ _ (rw c.in_default.is at c.check_vert_row.ensures) _ c.cells_misfit.result c.cells_misfit.ensures _ _ _ _ _ _ c.add_cells-stacked.result _ _ _ _ _ _ c.if-cells_misfit.false c.split_sheet-ours.ensures.splits c.new.ensures c.copy_lines-old.ensures.copies_lines c.add_cells-stacked.ensures.in_bounds.1 c.add_cells-stacked.ensures.adds_cells c.add_rule_if-lines.ensures.adds_rule_if c.hand_on-all.ensures.hands_on c.close.ensures
