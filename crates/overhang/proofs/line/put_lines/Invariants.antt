-- `line::put_lines` meets its contract: some lines stand, and the fields of the others are left.
-- Assumes nothing.
use Rattle.fields.specs.List.{left}
use Rattle.overhang.proofs.LinesLaws.{Laying}
use Rattle.overhang.proofs.line.put_lines.Given as goal

abbrev pub invariant-loop-line : goal.invariant-loop-line
invariant-loop-line l = Laying l.initial.out l.place l.options l.lines l.to l.out l.at (left l.line-iterator)
