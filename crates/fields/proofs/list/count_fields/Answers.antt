-- `fields::list::count_fields` meets its contract: there are no more fields than bytes.
-- Assumes nothing.
use Rattle.std.proofs.Common.{◌≤◌, arith, inl, length}
use Rattle.fields.specs.Field.{raws}
use Rattle.fields.proofs.Fields.{raws_few}
use Rattle.fields.proofs.list.count_fields.Goals as goal

pub count-requires-clause-fits : goal.count-requires-clause-fits
count-requires-clause-fits c =
    let few : length (raws c.new.result.rest.now) ≤ length c.args.bytes.now = rw c.new.ensures (raws_few c.args.bytes.now) in
    inl (omega arith)
