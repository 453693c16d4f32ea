-- `chop_before` meets its contract: past every border a place and the one before it are past the buffer. Assumes nothing.
use Rattle.std.proofs.Common.{rules}
use Rattle.borders.specs.BorderSegHoriz.{chop_right}
use Rattle.borders.proofs.Segments.{chop_right_same}
use Rattle.long_borders.proofs.Laws.{before_there}
use Rattle.long_borders.proofs.border.BorderHoriz.chop_before.Goals as goal

pub returns-then-pos-gt0-clause-chops_before : goal.returns-then-pos-gt0-clause-chops_before
returns-then-pos-gt0-clause-chops_before c =
    before_there c.args.self.now _ c.args.pos c.if-pos-gt0.true
    (c.change_at.ensures.changes_by chop_right record { segments = λ s r p. search rules; others = chop_right_same })
