-- `checks::cells::check_plain_cells` meets its contract: the refusal of each field is that of the list.
-- Assumes nothing.
use Rattle.std.proofs.Common.{◌∙◌}
use Rattle.fields.specs.SpanRefusals.{plain_cell_refusal}
use Rattle.checks.proofs.LineLaws.{plain_crooked}
use Rattle.checks.proofs.SheetLaws.{few_plain}
use Rattle.checks.proofs.cells.check_plain_cells.Goals as goal

pub returns : goal.returns
returns c =
    c.check_few.ensures plain_cell_refusal (record { answers = λ f r p. p.1; crooked = plain_crooked }) ∙ few_plain _
