-- `stretch_to` meets its contract: Horiz from the border's end up to the width or the buffer's end, or nothing. Assumes nothing.
use Rattle.std.proofs.Common.{rules, ap}
use Rattle.long_borders.specs.declared.border.BorderHoriz.{BorderHoriz}
use Rattle.long_borders.proofs.Laws.{stretched_up, stretched_none}
use Rattle.long_borders.proofs.border.BorderHoriz.stretch_to.Goals as goal
use Rattle.long_borders.proofs.border.BorderHoriz.stretch_to.Goals.{then-self-end, else-self-end}

pub returns-clause-stretches : goal.returns-clause-stretches
returns-clause-stretches c =
    elim c.if-self-end.branch [
      | then-self-end w ↦ stretched_up c.args.self.now _ w.fill.new.self c.args.width c.min-end.result c.min-end.ensures w.if-self-end.true (ap (λ (z : BorderHoriz). z.buffer.now) w.self-is) (w.fill.ensures.after (λ y h. h)) (search rules) (search rules)
      | else-self-end w ↦ stretched_none c.args.self.now _ c.args.width c.min-end.result c.min-end.ensures w.if-self-end.false (cc) (search rules)
    ]
