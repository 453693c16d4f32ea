-- `checks::sheet::check_counted` meets its contract, case by case of its test.
-- Assumes nothing.
use Rattle.std.proofs.Common.{ap, ◌∙◌}
use Rattle.fields.specs.First.{first_of}
use Rattle.fields.specs.Refusal.{number_of}
use Rattle.fields.specs.SpanRefusals.{hanging_refusal}
use Rattle.checks.proofs.LineLaws.{hanging_crooked}
use Rattle.checks.proofs.SheetLaws.{right_count}
use Rattle.checks.proofs.sheet.check_counted.Goals as goal

pub returns : goal.returns
returns c =
    let hung = c.check_fields-hanging.ensures hanging_refusal (record { answers = λ f r p. p.1; crooked = hanging_crooked }) in
    c.first_of-2.ensures
    ∙ ap (first_of (number_of c.check_lines-lines.result)) c.first_of.ensures
    ∙ right_count _ _ c.body_parts-found.ensures _ _ _ _ c.if-found-count.false c.check_lines-lines.ensures c.check_names-names.ensures hung
