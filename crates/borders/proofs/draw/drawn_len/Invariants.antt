-- `draw::drawn_len` meets its contract: its loop has counted the text of the segments so far. Assumes nothing.
use mathlib.Core.Path.{◌≡◌}
use Prim.Native.Nat.{◌*◌, ◌≤◌}
use lib.ListN.{length, take}
use Rattle.borders.specs.BorderHoriz.{drawn}
use Rattle.borders.proofs.draw.drawn_len.Given as goal

abbrev pub invariant-loop-byte : goal.invariant-loop-byte
invariant-loop-byte l = (l.n ≤ 3 * l.byte-index) × (l.n ≡ length (drawn l.drawing (take l.byte-index l.segs)))
