-- `fields::job::run_units` meets its contract: three bytes and text, of a mode that there is.
-- Assumes nothing.
use Rattle.std.proofs.Common.{refl}
use Rattle.fields.proofs.Jobs.{short_units, mode_units, run_text}
use Rattle.fields.proofs.job.run_units.Goals as goal

pub returns-in-len3-up-clause-value : goal.returns-in-len3-up-clause-value
returns-in-len3-up-clause-value c =
    run_text _ c.in-len3-up.len_at_least c.if-mode-le-LAST_MODE.true

pub returns-in_default-clause-value : goal.returns-in_default-clause-value
returns-in_default-clause-value c =
    short_units _ _ refl c.in_default.len_below

pub returns-in_default-2-clause-value : goal.returns-in_default-2-clause-value
returns-in_default-2-clause-value c =
    mode_units _ _ refl c.if-mode-le-LAST_MODE.false
