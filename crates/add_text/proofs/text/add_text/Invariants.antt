-- `add_text::text::add_text` meets its contract. The loop's invariant: what is left of the text, from the walk as it now stands, gives what
-- the whole text gives; the plain characters of a turn keep it, and so does the character after them. The measure is the bytes left.
-- Assumes nothing.
use Prim.Native.Nat.{◌-◌}
use lib.ListN.{length}
use Rattle.add_text.proofs.Walking.{Walking}
use Rattle.add_text.proofs.text.add_text.Given as goal

abbrev pub invariant-loop-first : goal.invariant-loop-first
invariant-loop-first l = Walking l.initial.block l.run l.text l.block l.ann l.at

abbrev pub decreases-loop-first : goal.decreases-loop-first
decreases-loop-first l = length l.text - l.at
