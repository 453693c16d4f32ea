-- `fields::answer::finish` meets its contract: the head in front of the lines, or the store zeroed.
-- Assumes nothing.
use Rattle.fields.proofs.Finishing.{finishes_sheet, finishes_short}
use Rattle.fields.proofs.answer.finish.Goals as goal

pub returns-then-store-place : goal.returns-then-store-place
returns-then-store-place c =
    finishes_short _ _ _ _ _ c.if-store-place.true c.refuse.ensures

pub returns : goal.returns
returns c =
    finishes_sheet _ _ _ _ _ _ _ c.if-store-place.false c.put_head-number.ensures c.put_two.ensures
