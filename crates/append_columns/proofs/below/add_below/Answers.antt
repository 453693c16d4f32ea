-- `below::add_below` meets its contract: the border is made, and added with its holes or without.
-- Assumes nothing.
use mathlib.Core.Path.{refl, ◌∙◌}
use borrow.Author.Tests.{not-false}
use Rattle.append_columns.proofs.BelowLaws.{below_holed, below_plain, below_long}
use Rattle.append_columns.proofs.below.add_below.Goals as goal

pub returns-then-holes-clause-adds_below : goal.returns-then-holes-clause-adds_below
returns-then-holes-clause-adds_below c =
    below_holed _ _ c.args.options c.args.row.now _ _ c.args.surveyed _ c.new-border.result c.next_border.new.border _ _ (not-false _ c.if-not-options.false) c.new-border.ensures.fills (c.new-border.ensures.room ∙ c.requires.1) c.next_border.ensures.room c.next_border.ensures.borders_below
    c.if-holes.true c.add_holed.ensures.adds_holed

pub returns-in_default-clause-adds_below : goal.returns-in_default-clause-adds_below
returns-in_default-clause-adds_below c =
    below_long _ _ c.args.options c.args.row.now _ _ c.args.surveyed _ c.new-border.result c.next_border.new.border _ _ (not-false _ c.if-not-options.false) c.new-border.ensures.fills (c.new-border.ensures.room ∙ c.requires.1) c.next_border.ensures.room c.next_border.ensures.borders_below
    c.if-holes.false c.in_default.ensures refl c.too_long.ensures.0.count c.too_long.ensures.1

pub returns-clause-adds_below : goal.returns-clause-adds_below
returns-clause-adds_below c =
    below_plain _ _ c.args.options c.args.row.now _ _ c.args.surveyed _ c.new-border.result c.next_border.new.border _ _ (not-false _ c.if-not-options.false) c.new-border.ensures.fills (c.new-border.ensures.room ∙ c.requires.1) c.next_border.ensures.room c.next_border.ensures.borders_below
    _ c.if-holes.false c.in-Some.ensures.0 c.in-Some.ensures.1 c.add_border.ensures.adds_border
