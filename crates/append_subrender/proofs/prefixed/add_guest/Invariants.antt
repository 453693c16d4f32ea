-- `prefixed::add_guest` meets its contract: the pairs added so far, and those left, give the whole.
-- Assumes nothing.
use Rattle.fields.specs.List.{left}
use Rattle.append_subrender.proofs.Adding.{Walk}
use Rattle.append_subrender.proofs.prefixed.add_guest.Given as goal

abbrev pub invariant-loop-field : goal.invariant-loop-field
invariant-loop-field l =
    Walk l.initial.out l.fn.lines l.options l.names l.guest l.fn.prefixes l.repeats l.out l.next l.last (left l.coming) (left l.field-iterator)
