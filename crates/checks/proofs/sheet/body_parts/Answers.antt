-- `checks::sheet::body_parts` meets its contract: the first split is at the first V, and the second, of what stands before it, at the first F.
-- Assumes nothing.
use Rattle.checks.proofs.SplitLaws.{two_splits}
use Rattle.checks.proofs.sheet.body_parts.Goals as goal

pub returns : goal.returns
returns c =
    two_splits _ _ _ c.split_fields-all.ensures c.split_fields-lines.ensures
