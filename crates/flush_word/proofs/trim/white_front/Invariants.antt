-- `white_front` meets its contract. The invariant: what is left of the word, trimmed, is the word, trimmed. Assumes nothing.
use mathlib.Core.Path.{◌≡◌}
use Prim.Native.Nat.{◌-◌, ◌≤◌}
use lib.ListN.{length, drop}
use Rattle.block.specs.Flat.{Line}
use Rattle.lines.specs.Bridge.{enc, Valid}
use Rattle.flush_word.proofs.Trimming.{Rest}
use Rattle.flush_word.proofs.trim.white_front.Given as goal

abbrev pub invariant-loop-i : goal.invariant-loop-i
invariant-loop-i l = (l.i ≤ length l.word.items) × ((w : Line) → Valid w → l.word.items ≡ enc w → Rest w (drop l.i l.word.items))

abbrev pub decreases-loop-i : goal.decreases-loop-i
decreases-loop-i l = length l.tags - l.i
