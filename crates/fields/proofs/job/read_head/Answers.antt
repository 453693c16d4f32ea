-- `fields::job::read_head` meets its contract: each answer is the definition's at the job's first field.
-- Assumes nothing.
use Rattle.std.proofs.Common.{sym, ◌∙◌, ap}
use Rattle.fields.specs.Field.{raws}
use Rattle.fields.proofs.Jobs.{head_nothing, head_first, head_crooked, head_at, head_other, head_setup}
use Rattle.fields.proofs.job.read_head.Goals as goal

pub returns-in_err-next : goal.returns-in_err-next
returns-in_err-next c =
    rw c.from_residual.ensures (head_nothing _ (rw c.new.ensures at c.in_err-next.ensures.steps.0))

pub returns-in_err-first : goal.returns-in_err-first
returns-in_err-first c =
    rw c.from_residual-in_err-first.ensures
    (head_crooked _ c.in_err-first.ensures.value ∙ sym (head_first _ _ _ (rw c.new.ensures at c.in_ok-next.ensures.steps)))

pub returns-then-first-ne87 : goal.returns-then-first-ne87
returns-then-first-ne87 c =
    head_other _ _ c.if-first-ne87.true
    ∙ head_at c.args.job.now _ _ _ _ c.in_ok-next.ensures.steps (ap raws c.new.ensures) c.in_ok-first.ensures.value

pub returns : goal.returns
returns c =
    c.read_setup.ensures ∙ head_setup _ _ c.if-first-ne87.false
    ∙ head_at c.args.job.now _ _ _ _ c.in_ok-next.ensures.steps (ap raws c.new.ensures) c.in_ok-first.ensures.value
