-- `draw::put_drawn` meets its contract. Its loop has written the text of the segments so far; what stands past the store's end is dropped. Assumes nothing.
use mathlib.Core.Path.{◌≡◌}
use Prim.Native.Nat.{◌+◌, ◌≤◌}
use lib.ListN.{length, take}
use Rattle.fields.specs.Store.{Wrote}
use Rattle.borders.specs.BorderHoriz.{drawn}
use Rattle.borders.proofs.draw.put_drawn.Given as goal

abbrev pub invariant-loop-byte : goal.invariant-loop-byte
invariant-loop-byte l = (length l.out ≡ length l.initial.out) × (l.to ≤ l.at + l.n) × Wrote l.initial.out l.at (drawn l.drawing (take l.byte-index l.segs)) l.out l.to
