-- `lay::ask` meets its contract: refusal 6, or what is known of a plain row, or what the walk over the row finds. Assumes nothing.
use Rattle.append_columns.proofs.LayLaws.{asked_six, asked_plain, asked_fit}
use Rattle.append_columns.proofs.lay.ask.Goals as goal

pub returns-then-no_border_above : goal.returns-then-no_border_above
returns-then-no_border_above c =
    λ o xs full l v. asked_six o _ _ _ xs full v _ c.no_border_above.ensures c.if-no_border_above.true

pub returns-then-surveyed : goal.returns-then-surveyed
returns-then-surveyed c =
    λ o xs full l v. asked_plain o _ _ _ xs full v _ c.no_border_above.ensures c.if-no_border_above.false c.if-surveyed.true

pub returns : goal.returns
returns c =
    λ o xs full l v. asked_fit o _ _ _ xs full v _ c.no_border_above.ensures _ c.if-no_border_above.false (c.row_fit.ensures o xs full l v.height_is)
