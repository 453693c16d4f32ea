-- `sheet_c::sheet_append_subrender` meets its contract: what `append_subrender` says, told in two numbers.
-- Assumes nothing.
use mathlib.Core.Path.{◌∙◌}
use Rattle.sheet_c.proofs.sheet_append_subrender.Goals as goal

pub returns : goal.returns
returns c =
    c.tell.ensures _ ∙ rw c.given-options.ensures at c.append_subrender-said.ensures
