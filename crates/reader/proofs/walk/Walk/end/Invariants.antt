-- `reader::walk::Walk::end` meets its contract. The loop's invariant: the items from the place on end where those from the walk's place on do. The measure is
-- the number of items that are left.
-- Assumes nothing.
use mathlib.Core.Path.{◌≡◌}
use Prim.Native.Nat.{◌+◌}
use lib.ListN.{length, drop}
use Rattle.fields.specs.Field.{raws}
use Rattle.reader.specs.Reading.{items, items_size}
use Rattle.reader.proofs.walk.Walk.end.Given as goal

abbrev pub invariant-loop-next : goal.invariant-loop-next
invariant-loop-next g l =
    l.place + items_size g.T.FromField.read (raws (drop l.place l.self.bytes.now)) ≡ l.self.at + items_size g.T.FromField.read (raws (drop l.self.at l.self.bytes.now))

abbrev pub decreases-loop-next : goal.decreases-loop-next
decreases-loop-next g l = length (items g.T.FromField.read (raws (drop l.place l.self.bytes.now)))
