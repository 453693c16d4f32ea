-- Assumes nothing.
use Rattle.std.proofs.Common.{arith}
use Rattle.fields.proofs.Jobs.{sum_on, sum_broken, sum_end, body_units_few}
use Rattle.fields.proofs.job.body_units.Goals as goal

pub loop-field-init : goal.loop-field-init
loop-field-init c =
    rw (c.into_iter-field-iterator.ensures.into_iter_gives, c.new-field-items.ensures) (omega arith)

pub overflow_add-units : goal.overflow_add-units
overflow_add-units c =
    let next = rw c.in-Ok.is at c.in-Some.ensures.steps in
    let few = body_units_few c.args.bytes.now in
    let on = sum_on _ _ _ _ _ _ c.loop-field.invariant next c.field_units-units.ensures.value in
    omega arith

pub loop-field-preserved-in-Ok : goal.loop-field-preserved-in-Ok
loop-field-preserved-in-Ok c =
    let next = rw c.in-Ok.is at c.in-Some.ensures.steps in
    sum_on _ _ _ _ _ _ c.loop-field.invariant next c.field_units-units.ensures.value

pub loop-field-preserved : goal.loop-field-preserved
loop-field-preserved c =
    let next = rw c.in_default.is at c.in-Some.ensures.steps in
    sum_broken _ _ _ _ c.loop-field.invariant next

pub returns : goal.returns
returns c =
    sum_end _ _ _ c.loop-field.invariant c.in-None.ensures.steps.0
