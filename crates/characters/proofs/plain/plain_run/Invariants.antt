-- `characters::plain::plain_run` meets its contract: the bytes that are passed over are a run of plain characters, and each turn adds one.
-- Assumes nothing.
use Prim.Native.Nat.{◌-◌, ◌≤◌}
use lib.ListN.{length}
use Rattle.characters.specs.Plain.{PlainRun}
use Rattle.characters.proofs.plain.plain_run.Given as goal

abbrev pub invariant-loop-at : goal.invariant-loop-at
invariant-loop-at l = (l.at ≤ length l.s) × (l.cols ≤ l.at) × PlainRun l.blanks l.s l.at l.cols

abbrev pub decreases-loop-at : goal.decreases-loop-at
decreases-loop-at l = length l.s - l.at
