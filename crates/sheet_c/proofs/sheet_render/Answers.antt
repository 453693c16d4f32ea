-- `sheet_c::sheet_render` meets its contract: what `render` says, told in two numbers.
-- Assumes nothing.
use mathlib.Core.Path.{◌∙◌}
use Rattle.sheet_c.proofs.sheet_render.Goals as goal

pub returns : goal.returns
returns c =
    c.tell.ensures _ ∙ c.render-said.ensures
