-- `lay::add_all` meets its contract: the old lines, the row's, the border below it, the names that wait on and what hangs on, one after the
-- other. Assumes nothing.
use Rattle.append_columns.proofs.LayLaws.{adds_plain, adds_all}
use Rattle.append_columns.proofs.lay.add_all.Goals as goal

pub returns-then-surveyed : goal.returns-then-surveyed
returns-then-surveyed c =
    adds_plain c.args.options c.args.old.now c.args.row.now c.args.collapse c.args.surveyed c.args.holes c.args.store.now _ _ _ _ _ _ _ _ c.close.result _ c.if-surveyed.true c.add_old-above.ensures.adds_old c.add_row-rows.ensures.adds_row (rw c.joined.ensures at c.add_below-lines.ensures.adds_below) c.hand_names-tail.ensures c.close.ensures

pub returns : goal.returns
returns c =
    adds_all c.args.options c.args.old.now c.args.row.now c.args.collapse c.args.surveyed c.args.holes c.args.store.now _ _ _ _ _ _ _ _ _ _ c.close-2.result _ c.args.old.now.near c.add_old-above.ensures.adds_old c.add_row-rows.ensures.adds_row (rw c.joined.ensures at c.add_below-lines.ensures.adds_below) c.hand_names-tail.ensures c.hang_on-all.ensures.hangs_all c.close-2.ensures
