-- `draw::put_stretch` meets its contract. Its loop has written the text of the first `i` Horiz; what stands past the store's end is dropped. Assumes nothing.
use mathlib.Core.Path.{◌≡◌}
use Prim.Native.Nat.{◌+◌, ◌*◌, ◌≤◌}
use lib.ListN.{length, replicate}
use Rattle.fields.specs.Store.{Wrote}
use Rattle.borders.specs.BorderSegHoriz.{Horiz}
use Rattle.borders.specs.BorderHoriz.{drawn}
use Rattle.borders.proofs.draw.put_stretch.Given as goal

abbrev pub invariant-loop-i : goal.invariant-loop-i
invariant-loop-i l = (length l.out ≡ length l.initial.out) × (l.to ≤ l.at + 3 * l.i) × Wrote l.initial.out l.at (drawn l.drawing (replicate l.i Horiz)) l.out l.to
