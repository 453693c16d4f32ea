use Rattle.std.proofs.Common.{◌≤◌, ◌≡◌, length}
use Rattle.reader.specs.Reading.{left, read_name}
use Rattle.show.proofs.show_names.Given as goal

abbrev pub invariant-loop-name : goal.invariant-loop-name
invariant-loop-name l = record { bytes : l.names.bytes ≡ l.initial.names.bytes; place : l.initial.names.at ≤ l.names.at }

abbrev pub decreases-loop-name : goal.decreases-loop-name
decreases-loop-name l = length (left read_name l.names)
