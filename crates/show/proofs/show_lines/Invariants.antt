use Rattle.std.proofs.Common.{◌≤◌, ◌≡◌}
use Rattle.show.proofs.show_lines.Given as goal

abbrev pub invariant-loop : goal.invariant-loop
invariant-loop l = record { bytes : l.lines.bytes ≡ l.initial.lines.bytes; place : l.initial.lines.at ≤ l.lines.at }
