-- `new` meets its contract: the buffer is filled up to the width or its end. Assumes nothing.
use Rattle.std.proofs.Common.{refl}
use Rattle.long_borders.proofs.Laws.{filled_whole, filled_up}
use Rattle.long_borders.proofs.border.BorderHoriz.new.Goals as goal

pub returns-clause-holds : goal.returns-clause-holds
returns-clause-holds c =
    filled_whole _ c.args.buffer.now _ _ c.args.width c.args.segment c.min-end.ensures (c.fill.ensures.after (λ y h. h)) refl

pub returns-clause-fills : goal.returns-clause-fills
returns-clause-fills c =
    filled_up _ c.args.buffer.now _ _ c.args.width c.args.segment c.min-end.ensures (c.fill.ensures.after (λ y h. h)) refl refl
