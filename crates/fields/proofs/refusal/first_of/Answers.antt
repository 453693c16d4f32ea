-- `fields::refusal::first_of` meets its contract, case by case: the smaller number is given first.
-- Assumes nothing.
use Rattle.std.proofs.Common.{sym, arith}
use Rattle.fields.specs.First.{first_of}
use Rattle.fields.proofs.First.{first_zero, first_left, first_right, is_some}
use Rattle.fields.proofs.refusal.first_of.Goals as goal

pub returns-in-Ok-default : goal.returns-in-Ok-default
unfolding first_of
returns-in-Ok-default c =
    rw c.in-Ok-default.is-0

pub returns-in_default-Ok : goal.returns-in_default-Ok
returns-in_default-Ok c =
    rw c.in_default-Ok.is-1 (sym (first_zero _))

pub returns-then-number : goal.returns-then-number
returns-then-number c =
    rw (c.in-Err-Err.is-0, c.in-Err-Err.is-1) (sym (first_right _ _ (is_some _) (omega (arith, c.if-number.true, c.number.ensures, c.number-in-Err-Err.ensures))))

pub returns-else-number : goal.returns-else-number
returns-else-number c =
    rw (c.in-Err-Err.is-0, c.in-Err-Err.is-1) (sym (first_left _ _ (is_some _) (is_some _) (omega (arith, c.if-number.false, c.number.ensures, c.number-in-Err-Err.ensures))))
