-- `checks::cells::check_cells` meets its contract: the refusal of each field is that of the list.
-- Assumes nothing.
use Rattle.std.proofs.Common.{◌∙◌}
use Rattle.fields.specs.SpanRefusals.{cell_refusal}
use Rattle.checks.proofs.LineLaws.{cell_crooked}
use Rattle.checks.proofs.SheetLaws.{few_cells}
use Rattle.checks.proofs.cells.check_cells.Goals as goal

pub returns : goal.returns
returns c =
    c.check_few.ensures cell_refusal (record { answers = λ f r p. p.1; crooked = cell_crooked }) ∙ few_cells _
