-- `left::lines_down` meets its contract: what is left goes on line by line.
-- Assumes nothing.
use Prim.Native.Nat.{◌≤◌}
use lib.ListN.{length}
use Rattle.row_lines.specs.Left.{FindsLeft}
use Rattle.row_lines.proofs.left.lines_down.Given as goal

abbrev pub invariant-loop : goal.invariant-loop
invariant-loop l = (length l.left ≤ length l.lines) × FindsLeft l.lines l.collapse l.counter l.left
