-- `glyph::width_of` meets its contract: at i, `used` is the columns of the characters before it. Assumes nothing.
use mathlib.Core.List.{List}
use mathlib.Core.Path.{◌≡◌}
use Prim.Native.Nat.{ℕ, ◌-◌, ◌*◌, ◌≤◌}
use lib.ListN.{length}
use Rattle.characters.specs.Utf8.{text_bytes}
use Rattle.characters.proofs.RoundTrip.{Scalars}
use Rattle.hard_wrap.specs.Walk.{Going}
use Rattle.hard_wrap.proofs.glyph.width_of.Given as goal

abbrev pub invariant-loop-i : goal.invariant-loop-i
invariant-loop-i l = (l.i ≤ length l.part) × (l.used ≤ 256 * l.i) × ((cs : List ℕ) → Scalars cs → l.part ≡ text_bytes cs → Going l.part cs l.i l.used)

abbrev pub decreases-loop-i : goal.decreases-loop-i
decreases-loop-i l = length l.part - l.i
