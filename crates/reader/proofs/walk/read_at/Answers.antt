-- `reader::walk::read_at` meets its contract: what the field at the place is.
-- Assumes nothing.
use mathlib.Core.Path.{sym}
use Rattle.std.proofs.Common.{rules}
use Rattle.reader.proofs.Places.{item_in, broken_in, rest_broken}
use Rattle.reader.proofs.walk.read_at.Goals as goal

pub returns-in-Ok-2 : goal.returns-in-Ok-2
returns-in-Ok-2 g c =
    let is =
    item_in g.T.FromField.read c.args.bytes.now c.args.at c.in-Ok.found (rw c.in-Ok.is at c.in_ok-found.ensures) (g.T.FromField.view c.in-Ok-2.item)
    (rw (c.in_ok-item-in-Ok.was, c.in-Ok-2.is) at (sym c.from_field.ensures)) in
    search rules

pub returns-in-Err-2 : goal.returns-in-Err-2
returns-in-Err-2 g c =
    broken_in g.T.FromField.read _ _ c.in-Ok.found (rw c.in-Ok.is at c.in_ok-found.ensures) _ (rw (c.in_ok-item-in-Ok.was, c.in-Err-2.is) at (sym c.from_field.ensures))

pub returns-in-Err : goal.returns-in-Err
returns-in-Err g c =
    rest_broken g.T.FromField.read c.args.bytes.now c.args.at (rw c.in-Err.is at c.in_ok-found.ensures)
