-- `fields::check::check_fields` meets its contract: the refusal so far and those of the fields left give that of the whole.
-- Assumes nothing.
use Rattle.std.proofs.Common.{◌∙◌}
use Rattle.fields.specs.First.{first_of}
use Rattle.fields.proofs.First.{first_zero, handed_on, over_on, over_broken, over_end}
use Rattle.fields.proofs.check.check_fields.Goals as goal

pub loop-field-init : goal.loop-field-init
unfolding first_of
loop-field-init g c =
    record { can = tt; ends = tt; so_far = λ judge j. rw (c.into_iter-field-iterator.ensures.into_iter_gives, c.new-field-items.ensures) }

pub returns-in_err-field : goal.returns-in_err-field
returns-in_err-field g c = λ judge j.
    let next = rw c.in_err-field.was at c.in-Some.ensures.steps in
    handed_on _ _ c.from_residual.ensures ∙ over_broken _ _ _ _ (c.loop-field.invariant.so_far judge j) _ next j.crooked

pub loop-field-preserved-in-Err : goal.loop-field-preserved-in-Err
loop-field-preserved-in-Err g c =
    let next = rw c.in_ok-field.was at c.in-Some.ensures.steps in
    record {
      can = tt;
      ends = tt;
      so_far = λ judge j. rw c.first_of-worst.ensures (over_on _ _ _ _ (c.loop-field.invariant.so_far judge j) _ _ _ next (j.answers _ _ c.in-Err.ensures));
    }

pub loop-field-preserved : goal.loop-field-preserved
loop-field-preserved g c =
    let next = rw c.in_ok-field.was at c.in-Some.ensures.steps in
    record {
      can = tt;
      ends = tt;
      so_far = λ judge j. rw first_zero at (over_on _ _ _ _ (c.loop-field.invariant.so_far judge j) _ _ 0 next (rw c.in_default.is at (j.answers _ _ c.call.ensures)));
    }

pub returns : goal.returns
returns g c = λ judge j.
    over_end _ _ _ _ (c.loop-field.invariant.so_far judge j) c.in-None.ensures.steps.0
