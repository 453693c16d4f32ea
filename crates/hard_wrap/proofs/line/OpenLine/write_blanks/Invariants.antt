-- `write_blanks` meets its contract: so many blanks are written. Assumes nothing.
use Rattle.hard_wrap.specs.Hold.{Stays}
use Rattle.hard_wrap.specs.Steps.{Blanked, Writes}
use Rattle.hard_wrap.proofs.line.OpenLine.write_blanks.Given as goal

abbrev pub invariant-loop-written : goal.invariant-loop-written
invariant-loop-written l = record { stays : Stays l.initial.self l.self; blanked : Blanked l.initial.self l._written l.self; writes : Writes l.initial.self l._written l.tag l.self }
