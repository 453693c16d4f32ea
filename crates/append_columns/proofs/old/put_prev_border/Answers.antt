-- `old::put_prev_border` meets its contract: the border is made in the buffer, and put from there if it fits.
-- Assumes nothing.
use mathlib.Core.Path.{◌∙◌}
use Rattle.append_columns.proofs.OldLaws.{part_few, prev_long, prev_joined}
use Rattle.append_columns.proofs.old.put_prev_border.Goals as goal

pub returns-in_default-clause-puts_prev : goal.returns-in_default-clause-puts_prev
returns-in_default-clause-puts_prev c =
    prev_long _ _ c.args.last c.args.row.now _ c.from_segments-border.result c.prev_border.new.border c.from_segments-border.ensures.copies (c.from_segments-border.ensures.room ∙ c.requires.1) c.prev_border.ensures.room c.prev_border.ensures.borders_above
    _ c.in_default.ensures c.too_long.ensures.0.count c.too_long.ensures.1

pub put_joined-requires : goal.put_joined-requires
put_joined-requires c =
    (c.requires.0, part_few _ _ _ c.in-Some.ensures.0 c.in-Some.ensures.1 (c.prev_border.ensures.room ∙ c.from_segments-border.ensures.room ∙ c.requires.1))

pub returns-clause-puts_prev : goal.returns-clause-puts_prev
returns-clause-puts_prev c =
    prev_joined _ _ c.args.last c.args.row.now _ c.from_segments-border.result c.prev_border.new.border c.from_segments-border.ensures.copies (c.from_segments-border.ensures.room ∙ c.requires.1) c.prev_border.ensures.room c.prev_border.ensures.borders_above
    _ _ _ c.in-Some.ensures.0 c.in-Some.ensures.1 c.put_joined.ensures.puts_joined
