use Rattle.std.proofs.Common.{◌≤◌, ◌≡◌, length}
use Rattle.reader.specs.Reading.{left, read_hanging}
use Rattle.show.proofs.show_overhang.Given as goal

abbrev pub invariant-loop-cell : goal.invariant-loop-cell
invariant-loop-cell l = record { bytes : l.overhang.bytes ≡ l.initial.overhang.bytes; place : l.initial.overhang.at ≤ l.overhang.at }

abbrev pub decreases-loop-cell : goal.decreases-loop-cell
decreases-loop-cell l = length (left read_hanging l.overhang)
