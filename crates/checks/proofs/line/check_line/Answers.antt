-- `checks::line::check_line` meets its contract, letter by letter.
-- Assumes nothing.
use borrow.Author.Rules.{rules}
use Rattle.std.proofs.Common.{◌∙◌}
use Rattle.fields.specs.Walk.{piece_refusal}
use Rattle.fields.proofs.Sheets.{piece_crooked}
use Rattle.checks.proofs.LineLaws.{text_line}
use Rattle.checks.proofs.line.check_line.Goals as goal

pub returns-in-76 : goal.returns-in-76
returns-in-76 c =
    c.check_fields.ensures piece_refusal (record { answers = λ f r p. search rules; crooked = piece_crooked }) ∙ text_line _ _ c.in-76.is
