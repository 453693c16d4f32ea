-- `sheet_c::sheet_append_columns_with_borders` meets its contract: what `append_columns_with_borders` says, told in two numbers.
-- Assumes nothing.
use mathlib.Core.Path.{◌∙◌}
use Rattle.sheet_c.proofs.sheet_append_columns_with_borders.Goals as goal

pub returns : goal.returns
returns c =
    c.tell.ensures _ ∙ rw c.given-options.ensures at c.append_columns_with_borders-said.ensures
