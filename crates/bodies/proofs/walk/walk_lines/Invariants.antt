-- `walk::walk_lines` meets its contract: the fields passed so far and those ahead are all.
-- Assumes nothing.
use Rattle.std.proofs.Common.{length}
use Rattle.bodies.proofs.WalkLaws.{Passed}
use Rattle.bodies.proofs.walk.walk_lines.Given as goal

abbrev pub invariant-loop-line : goal.invariant-loop-line
invariant-loop-line l = Passed l.lines l.rest l.walked

abbrev pub decreases-loop-line : goal.decreases-loop-line
decreases-loop-line l = length l.rest
