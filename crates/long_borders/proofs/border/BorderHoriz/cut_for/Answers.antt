-- `cut_for` meets its contract: stretched, chopped before the hole, chopped behind it. Assumes nothing.
use Rattle.std.proofs.Common.{rules}
use Rattle.borders.specs.BorderSegHoriz.{chop_left}
use Rattle.borders.proofs.Segments.{chop_left_same}
use Rattle.long_borders.proofs.Laws.{cut}
use Rattle.long_borders.proofs.border.BorderHoriz.cut_for.Goals as goal

pub returns-clause-cuts : goal.returns-clause-cuts
returns-clause-cuts c =
    cut c.args.self.now _ _ _ c.args.pos c.args.rpos c.stretch_to.ensures.stretches c.chop_before.ensures.chops_before
    (c.change_at.ensures.changes_by chop_left record { segments = λ s r p. search rules; others = chop_left_same })
