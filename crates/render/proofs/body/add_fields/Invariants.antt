-- `render::body::add_fields` meets its contract: the fields added so far, and those left, give the whole.
-- Assumes nothing.
use Rattle.fields.specs.List.{left}
use Rattle.flush_word.specs.Keep.{BlockStays}
use Rattle.render.proofs.Adding.{Added}
use Rattle.render.proofs.body.add_fields.Given as goal

abbrev pub invariant-loop-field : goal.invariant-loop-field
invariant-loop-field l = record { stays : BlockStays l.initial.block l.block; added : Added l.initial.block l.body l.block (left l.field-iterator) }
