-- `below::add_drawn` meets its contract: the text is added, or only counted where it is too long.
-- Assumes nothing.
use mathlib.Core.Path.{sym, ◌∙◌}
use Rattle.append_columns.proofs.BelowLaws.{drawn_added, drawn_counted}
use Rattle.append_columns.proofs.below.add_drawn.Goals as goal

pub returns-then-is_long-clause-draws_holed : goal.returns-then-is_long-clause-draws_holed
returns-then-is_long-clause-draws_holed c =
    drawn_counted c.args.out.now _ c.args.lines c.args.options c.args.segments.now c.args.row.now c.args.collapse c.args.height c.push_holes-line.result c.push_holes-line.ensures.pushes_holes c.push_holes-line.ensures.out_len_unchanged.0 _ (sym c.is_long.ensures ∙ c.if-is_long.true) c.too_long.ensures.0.count c.too_long.ensures.1

pub returns-clause-draws_holed : goal.returns-clause-draws_holed
returns-clause-draws_holed c =
    drawn_added c.args.out.now _ c.args.lines c.args.options c.args.segments.now c.args.row.now c.args.collapse c.args.height c.push_holes-line.result c.push_holes-line.ensures.pushes_holes c.push_holes-line.ensures.out_len_unchanged.0 _ _ (sym c.is_long.ensures ∙ c.if-is_long.false) c.add_text_line.ensures.adds_text_line
