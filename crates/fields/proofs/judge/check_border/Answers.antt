-- `fields::judge::check_border` meets its contract: an annotation and segments, or a byte that is none.
-- Assumes nothing.
use Rattle.std.proofs.Common.{true, false, sym, ◌∙◌}
use Rattle.fields.proofs.Sheets.{border_line, short_border}
use Rattle.fields.proofs.judge.check_border.Goals as goal

pub returns-in-len1-up : goal.returns-in-len1-up
returns-in-len1-up c =
    border_line _ true c.in-len1-up.len_at_least (sym c.all_segments.ensures ∙ c.if-all_segments.true)

pub returns-in_default : goal.returns-in_default
returns-in_default c =
    short_border _ c.in_default.len_below

pub returns-in_default-2 : goal.returns-in_default-2
returns-in_default-2 c =
    border_line _ false c.in-len1-up.len_at_least (sym c.all_segments.ensures ∙ c.if-all_segments.false)
