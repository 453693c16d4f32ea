-- `encode::put_pieces` meets its contract: what is left of the line from i, written at k, makes the whole line. Assumes nothing.
use mathlib.Core.Path.{◌≡◌}
use Prim.Native.Nat.{◌+◌, ◌-◌, ◌*◌, ◌≤◌}
use lib.ListN.{length}
use Rattle.lines.proofs.Pieces.{Makes}
use Rattle.lines.proofs.encode.put_pieces.Given as goal

abbrev pub invariant-loop-i : goal.invariant-loop-i
invariant-loop-i l = (l.i ≤ length l.tags) × (length l.out ≡ length l.initial.out) × (l.k + 5 * (length l.tags - l.i) ≤ l.at + 5 * length l.tags) × Makes l.bytes l.tags l.initial.out l.at l.i l.out l.k

abbrev pub decreases-loop-i : goal.decreases-loop-i
decreases-loop-i l = length l.tags - l.i
