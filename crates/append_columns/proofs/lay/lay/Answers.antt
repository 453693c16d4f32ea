-- `lay::lay` meets its contract: the row is made and asked, and refused or written. Assumes nothing.
use Rattle.append_columns.proofs.LayLaws.{lays_refused, lays_row}
use Rattle.append_columns.proofs.lay.lay.Goals as goal

pub returns-in-Err : goal.returns-in-Err
returns-in-Err c =
    let asks = rw c.in-Err.is at c.ask.ensures in
    lays_refused c.args.options c.args.old.now c.args.cells.now c.args.collapse c.new-row.result c.survey-surveyed.result c.new-row.ensures c.survey-surveyed.ensures.surveys c.in-Err.refusal (rw c.joined.ensures at asks) c.refuse.result c.args.store.now _ c.refuse.ensures

pub returns-in-Ok : goal.returns-in-Ok
returns-in-Ok c =
    let asks = rw c.in-Ok.is at c.ask.ensures in
    lays_row c.args.options c.args.old.now c.args.cells.now c.args.collapse c.new-row.result c.survey-surveyed.result c.new-row.ensures c.survey-surveyed.ensures.surveys c.in-Ok.holes (rw c.joined.ensures at asks) c.add_all.result c.args.store.now _ c.add_all.ensures
