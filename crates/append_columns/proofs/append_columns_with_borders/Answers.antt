-- `append_columns_with_borders` meets its contract: the refusals 1 to 3, and the row past them. Assumes nothing.
use Rattle.append_columns.proofs.CallLaws.{call_refused, none_of, call_laid}
use Rattle.append_columns.proofs.append_columns_with_borders.Goals as goal

pub returns-in-Err : goal.returns-in-Err
returns-in-Err c =
    call_refused _ _ _ _ _ c.args.collapse _ (rw c.in-Err.is at c.check_inputs.ensures) c.refuse.ensures

pub of-old-requires : goal.of-old-requires
of-old-requires c =
    (none_of c.args.options c.args.sheet.now c.args.cells.now (rw c.in_default.is at c.check_inputs.ensures)).0

pub returns : goal.returns
returns c =
    call_laid c.args.options c.args.sheet.now c.args.cells.now (rw c.in_default.is at c.check_inputs.ensures) c.of-old.result c.of-old.ensures c.args.collapse c.lay.result c.args.store.now _ c.lay.ensures
