-- `checks::sheet::split_fields` meets its contract: up to the place no field has the letter, and those that are left decide.
-- Assumes nothing.
use Rattle.fields.specs.List.{left}
use Rattle.checks.proofs.SplitLaws.{Passed}
use Rattle.checks.proofs.sheet.split_fields.Given as goal

abbrev pub invariant-loop-field : goal.invariant-loop-field
invariant-loop-field l = Passed l.letter l.body l.end l.count (left l.field-iterator)
