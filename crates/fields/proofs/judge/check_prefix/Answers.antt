-- `fields::judge::check_prefix` meets its contract, case by case of its test.
-- Assumes nothing.
use Rattle.std.proofs.Common.{◌∙◌}
use Rattle.fields.proofs.Sheets.{prefix, no_prefix_lem}
use Rattle.fields.proofs.judge.check_prefix.Goals as goal

pub returns-then-letter-ne80 : goal.returns-then-letter-ne80
returns-then-letter-ne80 c =
    no_prefix_lem _ _ c.if-letter-ne80.true

pub returns : goal.returns
returns c =
    c.check_text.ensures ∙ prefix _ _ c.if-letter-ne80.false
