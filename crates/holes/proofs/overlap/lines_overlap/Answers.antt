-- `overlap::lines_overlap` meets its contract.
-- Assumes nothing.
use Rattle.std.proofs.Common.{ap, ◌∙◌}
use Rattle.fields.specs.Field.{raws}
use Rattle.fields.specs.List.{left}
use Rattle.holes.proofs.TellLaws.{tell_start, tell_on, tell_found, tell_broken, tell_end}
use Rattle.holes.proofs.overlap.lines_overlap.Goals as goal

pub loop-line-init : goal.loop-line-init
loop-line-init c =
    rw c.into_iter-line-iterator.ensures.into_iter_gives
    (tell_start _ c.args.most c.args.to _ _ c.take-line-items.ensures.count (ap left c.take-line-items.ensures.source ∙ ap raws c.new.ensures))

pub returns-in_default : goal.returns-in_default
returns-in_default c =
    let next = rw c.in_default.is at c.in-Some.ensures.steps.0 in
    tell_broken _ _ _ _ _ _ _ c.loop-line.invariant next

pub returns-then-line_overlaps : goal.returns-then-line_overlaps
returns-then-line_overlaps c =
    let next = rw c.in-Ok.is at c.in-Some.ensures.steps.0 in
    tell_found _ _ _ _ _ _ _ _ _ c.loop-line.invariant next c.in-Some.ensures.steps.1 c.if-line_overlaps.true c.line_overlaps.ensures

pub loop-line-preserved : goal.loop-line-preserved
loop-line-preserved c =
    let next = rw c.in-Ok.is at c.in-Some.ensures.steps.0 in
    tell_on _ _ _ _ _ _ _ _ _ c.loop-line.invariant next c.in-Some.ensures.steps.1 c.if-line_overlaps.false c.line_overlaps.ensures

pub returns : goal.returns
returns c = tell_end _ _ _ _ _ c.loop-line.invariant (λ some. (c.in-None.ensures.steps some).0)
