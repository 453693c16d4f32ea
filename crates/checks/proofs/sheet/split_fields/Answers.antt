-- `checks::sheet::split_fields` meets its contract, field by field.
-- Assumes nothing.
use Rattle.checks.proofs.SplitLaws.{pass_start, pass_on, pass_letter, pass_end, pass_broken}
use Rattle.checks.proofs.sheet.split_fields.Goals as goal

pub loop-field-init : goal.loop-field-init
loop-field-init c =
    rw (c.into_iter-field-iterator.ensures.into_iter_gives, c.new-field-items.ensures) (pass_start _ _)

pub returns-in_default : goal.returns-in_default
returns-in_default c =
    pass_broken _ _ _ _ _ c.loop-field.invariant _ (rw c.in_default.is at c.in-Some.ensures.steps)

pub returns-then-field-letter : goal.returns-then-field-letter
returns-then-field-letter c =
    pass_letter _ _ _ _ _ c.loop-field.invariant _ _ _ (rw c.in-Ok.is at c.in-Some.ensures.steps) c.if-field-letter.true

pub loop-field-preserved : goal.loop-field-preserved
loop-field-preserved c =
    pass_on _ _ _ _ _ c.loop-field.invariant _ _ _ (rw c.in-Ok.is at c.in-Some.ensures.steps) c.if-field-letter.false

pub returns-in-None : goal.returns-in-None
returns-in-None c =
    pass_end _ _ _ _ _ c.loop-field.invariant c.in-None.ensures.steps.0
