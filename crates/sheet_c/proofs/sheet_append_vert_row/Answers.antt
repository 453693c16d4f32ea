-- `sheet_c::sheet_append_vert_row` meets its contract: what `append_vert_row` says, told in two numbers.
-- Assumes nothing.
use mathlib.Core.Path.{◌∙◌}
use Rattle.sheet_c.proofs.sheet_append_vert_row.Goals as goal

pub returns : goal.returns
returns c =
    c.tell.ensures _ ∙ rw c.given-options.ensures at c.append_vert_row-said.ensures
