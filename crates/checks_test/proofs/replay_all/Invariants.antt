use Rattle.std.proofs.Common.{◌≤◌}
use Rattle.checks_test.proofs.replay_all.Given as goal

abbrev pub invariant-loop-records : goal.invariant-loop-records
invariant-loop-records l = l.differences ≤ l.records
