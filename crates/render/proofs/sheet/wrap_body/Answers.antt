-- `render::sheet::wrap_body` meets its contract: all fields, and then the end of the block.
-- Assumes nothing.
use Rattle.render.proofs.Finishing.{wraps_done, wraps_narrow}
use Rattle.render.proofs.sheet.wrap_body.Goals as goal

pub returns-in_err-add_fields-clause-wraps_body : goal.returns-in_err-add_fields-clause-wraps_body
returns-in_err-add_fields-clause-wraps_body c =
    wraps_narrow c.args.body.now c.args.block.now _ c.from_residual.result c.add_fields.new.block c.in_err-add_fields.ensures.adds_fields c.from_residual.ensures.0

pub returns-clause-wraps_body : goal.returns-clause-wraps_body
returns-clause-wraps_body c =
    wraps_done c.args.body.now c.args.block.now c.add_fields.new.block c.flush_wrapping.result c.flush_wrapping.new.block c.in_ok-add_fields.ensures.adds_fields
    c.in_ok-add_fields.ensures.stays c.flush_wrapping.ensures.flushes_wrapping
