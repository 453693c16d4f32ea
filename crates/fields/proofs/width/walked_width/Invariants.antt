-- `width::walked_width` meets its contract: the columns so far and those of what is left are those of the whole.
-- Assumes nothing.
use Prim.Native.Nat.{◌-◌}
use lib.ListN.{length}
use Rattle.fields.proofs.Counting.{Counted}
use Rattle.fields.proofs.width.walked_width.Given as goal

abbrev pub invariant-loop-at : goal.invariant-loop-at
invariant-loop-at l = Counted l.text l.at l.cols

abbrev pub decreases-loop-at : goal.decreases-loop-at
decreases-loop-at l = length l.text - l.at
