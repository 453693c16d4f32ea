-- `prefixed::next_prefix` meets its contract: a field found is the next prefix, and past the last the same comes again if it repeats.
-- Assumes nothing.
use Rattle.std.specs.Prelude.{None}
use Rattle.fields.specs.List.{left}
use Rattle.append_subrender.proofs.Pairing.{next_found, next_broken, last_out, last_again}
use Rattle.append_subrender.proofs.prefixed.next_prefix.Goals as goal

pub returns-in-Some-Ok : goal.returns-in-Some-Ok
returns-in-Some-Ok c =
    next_found _ _ _ _ _ _ (rw c.in-Some-Ok.field-0-is at c.in-Some-Ok.ensures.steps) c.text_width.ensures.value

pub returns-in-Some-Err : goal.returns-in-Some-Err
returns-in-Some-Err c =
    next_broken _ (left c.next.new.self) _ _ _ None (rw c.in-Some-Err.field-0-is at c.in-Some-Err.ensures.steps)

pub returns-then-repeats : goal.returns-then-repeats
returns-then-repeats c =
    last_again _ _ c.in-None.ensures.steps.0 c.in-None.ensures.steps.1 _ _ c.if-repeats.true

pub returns-else-repeats : goal.returns-else-repeats
returns-else-repeats c =
    last_out _ _ c.in-None.ensures.steps.0 c.in-None.ensures.steps.1 _ c.args.last c.if-repeats.false
