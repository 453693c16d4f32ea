-- `checks::line::check_lines` meets its contract: it is the walk over lines.
-- Assumes nothing.
use Rattle.fields.specs.SpanRefusals.{line_refusal, lines_refusal}
use Rattle.checks.proofs.LineLaws.{line_crooked}
use Rattle.checks.proofs.line.check_lines.Goals as goal

pub returns : goal.returns
unfolding lines_refusal
returns c =
    c.check_fields.ensures line_refusal (record { answers = λ f r p. p.1; crooked = line_crooked })
