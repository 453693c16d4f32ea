-- `fields::text::is_readable` meets its contract: each turn passes a run and a character, or meets one that does not pass.
-- Assumes nothing.
use Rattle.std.proofs.Common.{sym, refl, arith}
use Rattle.fields.proofs.Texts.{past_run, past_char, past_none, text_ended}
use Rattle.fields.proofs.text.is_readable.Goals as goal

pub loop-at-init : goal.loop-at-init
loop-at-init c =
    (omega arith, refl)

pub loop-at-preserved : goal.loop-at-preserved
loop-at-preserved c =
    let ran = past_run _ _ _ _ _ _ c.loop-at.invariant c.plain_run-at.ensures.len_in_bounds.0 c.plain_run-at.ensures.plain_run in
    (past_char _ _ _ _ ran c.in-Ok.ensures).1

pub returns-in-Err : goal.returns-in-Err
returns-in-Err c =
    let ran = past_run _ _ _ _ _ _ c.loop-at.invariant c.plain_run-at.ensures.len_in_bounds.0 c.plain_run-at.ensures.plain_run in
    sym (past_none _ _ _ _ ran c.in-Err.ensures).1

pub returns : goal.returns
returns c =
    text_ended _ _ _ c.loop-at.invariant c.loop-at-test.false
