-- `render::sheet::wrap_fields` meets its contract: the block is new.
-- Assumes nothing.
use Rattle.std.proofs.Common.{refl}
use Rattle.render.proofs.Finishing.{wraps_new}
use Rattle.render.proofs.sheet.wrap_fields.Goals as goal

pub returns-clause-wraps_up : goal.returns-clause-wraps_up
returns-clause-wraps_up c =
    wraps_new c.args.body.now c.args.frame _ _ _ c.requires.line.0 c.requires.word.0 refl refl c.new-block.result c.new-block.ensures c.wrap_body-end.result
    c.wrap_body-end.new.block c.wrap_body-end.ensures.wraps_body
