-- `below::add_holed` meets its contract: the border is cut, and its segments are drawn with the holes or put with them.
-- Assumes nothing.
use mathlib.Core.Path.{refl}
use native.Mathlib.Omega.{arith}
use borrow.Author.Rules.{rules}
use Rattle.append_columns.proofs.BelowLaws.{holed_past, holed_drawn, holed_field}
use Rattle.append_columns.proofs.below.add_holed.Goals as goal

pub returns-in_default-clause-adds_holed : goal.returns-in_default-clause-adds_holed
returns-in_default-clause-adds_holed c =
    holed_past _ _ c.args.options c.args.border.now c.args.row.now _ c.args.height c.requires.1 _ _ refl (omega (arith, c.in_default.ensures, c.cut_holes.ensures.room.0)) c.too_long.ensures.0.count c.too_long.ensures.1

pub returns-then-options-clause-adds_holed : goal.returns-then-options-clause-adds_holed
returns-then-options-clause-adds_holed c =
    holed_drawn _ _ c.args.options c.args.border.now c.args.row.now _ c.args.height c.requires.1 c.cut_holes.new.border _ c.in-Some.segments.now _ c.in-Some.ensures.0 c.in-Some.ensures.1 c.cut_holes.ensures.room.0 _ (search rules) c.cut_holes.ensures.cuts_holes c.if-options.true c.add_drawn.ensures.draws_holed

pub returns-clause-adds_holed : goal.returns-clause-adds_holed
returns-clause-adds_holed c =
    holed_field _ _ c.args.options c.args.border.now c.args.row.now _ c.args.height c.requires.1 c.cut_holes.new.border _ c.in-Some.segments.now _ c.in-Some.ensures.0 c.in-Some.ensures.1 c.cut_holes.ensures.room.0 _ (search rules) c.cut_holes.ensures.cuts_holes c.if-options.false c.put_holed.ensures.puts_holed
