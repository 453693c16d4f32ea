-- `extend_lines::copy::copy_lines` meets its contract: what is copied so far, and the fields left, give the lines of the whole.
-- Assumes nothing.
use Rattle.fields.specs.Field.{raws}
use Rattle.fields.specs.List.{left}
use Rattle.extend_lines.proofs.Copying.{Walk}
use Rattle.extend_lines.proofs.copy.copy_lines.Given as goal

abbrev pub invariant-loop-field : goal.invariant-loop-field
invariant-loop-field l = Walk l.initial.out l.initial.next (raws l.body) l.out l.next (left l.field-iterator)
