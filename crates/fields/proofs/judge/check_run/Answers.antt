-- `fields::judge::check_run` meets its contract: three bytes and text, of a mode that there is.
-- Assumes nothing.
use Rattle.std.proofs.Common.{refl, ◌∙◌}
use Rattle.fields.proofs.Jobs.{short_refusal, mode_refusal, text_refusal}
use Rattle.fields.proofs.judge.check_run.Goals as goal

pub returns-in-len3-up : goal.returns-in-len3-up
returns-in-len3-up c =
    c.check_text.ensures ∙ text_refusal _ _ refl c.in-len3-up.len_at_least c.if-mode-le-LAST_MODE.true

pub returns-in_default : goal.returns-in_default
returns-in_default c =
    short_refusal _ _ refl c.in_default.len_below

pub returns-in_default-2 : goal.returns-in_default-2
returns-in_default-2 c =
    mode_refusal _ _ refl c.if-mode-le-LAST_MODE.false
