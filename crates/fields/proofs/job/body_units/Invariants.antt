-- `fields::job::body_units` meets its contract: the units so far and those of the fields left make up the whole number.
-- Assumes nothing.
use Rattle.std.proofs.Common.{◌≡◌, ◌+◌}
use Rattle.fields.specs.Field.{raws}
use Rattle.fields.specs.Job.{body_units}
use Rattle.fields.specs.List.{left}
use Rattle.fields.proofs.job.body_units.Given as goal

abbrev pub invariant-loop-field : goal.invariant-loop-field
invariant-loop-field l = l.units + body_units (left l.field-iterator) ≡ body_units (raws l.bytes)
