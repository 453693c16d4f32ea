-- `cells::stack_cell` meets its contract: a border, if it is drawn, and the lines behind the width.
-- Assumes nothing.
use Rattle.std.proofs.Common.{arith}
use Rattle.append_subrender.proofs.Stacking.{cell_few, width_first, none_there, stacks, stacks_none}
use Rattle.append_subrender.proofs.cells.stack_cell.Goals as goal

pub add_cell-requires : goal.add_cell-requires
add_cell-requires c =
    let few = cell_few c.args.cell.content.now c.args.cell.short c.in-len1-up.len_at_least in
    let ruled = c.add_rule_if-lines.ensures.in_bounds in
    (ruled.0, c.requires.1, omega (arith, few, ruled.1, c.requires.2))

pub returns-in-len1-up-clause-in_bounds : goal.returns-in-len1-up-clause-in_bounds
returns-in-len1-up-clause-in_bounds c =
    let few = cell_few c.args.cell.content.now c.args.cell.short c.in-len1-up.len_at_least in
    let ruled = c.add_rule_if-lines.ensures.in_bounds in
    let all = c.add_cell.ensures.in_bounds in
    (all.0, all.1, omega (arith, few, ruled.1, all.2))

pub returns-in-len1-up-clause-stacks_cell : goal.returns-in-len1-up-clause-stacks_cell
returns-in-len1-up-clause-stacks_cell c =
    stacks _ _ _ _ _ _ _ _ _ _ _ _ _ (width_first _ c.in-len1-up.len_at_least) c.add_rule_if-lines.ensures.adds_rule_if c.add_cell.ensures.adds_cell

pub returns-in_default-clause-stacks_cell : goal.returns-in_default-clause-stacks_cell
returns-in_default-clause-stacks_cell c =
    stacks_none _ _ _ _ _ _ _ _ _ (none_there _ c.in_default.len_below)
