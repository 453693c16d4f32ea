-- `hard_wrap` meets its contract: what is left of the word, from the block as it now stands, gives what the whole word gives. Assumes nothing.
use Prim.Native.Nat.{◌-◌}
use lib.ListN.{length}
use Rattle.hard_wrap.proofs.Words.{Passed}
use Rattle.hard_wrap.proofs.line.OpenLine.hard_wrap.Given as goal

abbrev pub invariant-loop-at : goal.invariant-loop-at
invariant-loop-at l = Passed l.initial.self l.bytes l.tags l.start l.self l.at

abbrev pub decreases-loop-at : goal.decreases-loop-at
decreases-loop-at l = length l.tags - l.at
