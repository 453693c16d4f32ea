-- `join_on` meets its contract: the border reaches the place, and the segment there is joined, if the buffer has it. Assumes nothing.
use Rattle.std.proofs.Common.{rules}
use Rattle.borders.specs.BorderHoriz.{joined_on}
use Rattle.borders.proofs.Segments.{joined_same}
use Rattle.long_borders.proofs.Laws.{joined_at}
use Rattle.long_borders.proofs.border.BorderHoriz.join_on.Goals as goal

pub returns-clause-joins_on : goal.returns-clause-joins_on
returns-clause-joins_on c =
    joined_at c.args.side c.args.self.now _ _ c.args.x c.stretch_to.ensures.stretches
    (c.change_at.ensures.changes_by (joined_on c.args.side) record { segments = λ s r p. search rules; others = joined_same c.args.side })
