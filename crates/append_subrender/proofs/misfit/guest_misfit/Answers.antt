-- `misfit::guest_misfit` meets its contract: no prefix, one that repeats, or as many lines as prefixes.
-- Assumes nothing.
use Rattle.append_subrender.proofs.Telling.{guest_has_none, guest_repeats, guest_counts}
use Rattle.append_subrender.proofs.misfit.guest_misfit.Goals as goal

pub returns-then-count-eq0 : goal.returns-then-count-eq0
returns-then-count-eq0 c =
    guest_has_none _ _ _ _ c.count_fields-count.ensures c.if-count-eq0.true

pub returns-then-repeats : goal.returns-then-repeats
returns-then-repeats c =
    guest_repeats _ _ _ _ _ c.count_fields-count.ensures c.if-count-eq0.false c.if-repeats.true c.lines_overlap.ensures

pub returns : goal.returns
returns c =
    guest_counts _ _ _ _ _ c.count_fields-count.ensures c.if-repeats.false c.lines_overlap-2.ensures
