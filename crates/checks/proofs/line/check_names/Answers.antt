-- `checks::line::check_names` meets its contract: it is the walk over F fields.
-- Assumes nothing.
use borrow.Author.Rules.{rules}
use Rattle.fields.specs.Walk.{name_refusal}
use Rattle.fields.specs.SpanRefusals.{names_refusal}
use Rattle.fields.proofs.Sheets.{name_crooked}
use Rattle.checks.proofs.line.check_names.Goals as goal

pub returns : goal.returns
unfolding names_refusal
returns c =
    c.check_fields.ensures name_refusal (record { answers = λ f r p. search rules; crooked = name_crooked })
