-- `fields::judge::check_name` meets its contract, case by case of its test.
-- Assumes nothing.
use Rattle.std.proofs.Common.{◌∙◌}
use Rattle.fields.proofs.Sheets.{waiting, no_waiting}
use Rattle.fields.proofs.judge.check_name.Goals as goal

pub returns-then-letter-ne70 : goal.returns-then-letter-ne70
returns-then-letter-ne70 c =
    no_waiting _ _ c.if-letter-ne70.true

pub returns : goal.returns
returns c =
    c.check_text.ensures ∙ waiting _ _ c.if-letter-ne70.false
