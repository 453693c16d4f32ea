-- `walk::without_top` meets its contract.
-- Assumes nothing.
use Rattle.std.proofs.Common.{◌∙◌, ap, ℕ, drop, arith, rules}
use Rattle.bodies.proofs.WalkLaws.{top_border, top_text, top_none, only_border, only_text, only_none}
use Rattle.bodies.proofs.walk.without_top.Goals as goal

pub returns-in-Some-clause-passes_top : goal.returns-in-Some-clause-passes_top
returns-in-Some-clause-passes_top c = top_border _ _ c.in-Some.first c.in-Some.ensures.splits_off (search rules)

pub returns-in_default-clause-passes_top : goal.returns-in_default-clause-passes_top
returns-in_default-clause-passes_top c = top_text _ _ c.in-Some.first c.in-Some.ensures.splits_off (search rules)

pub returns-in_default-2-clause-passes_top : goal.returns-in_default-2-clause-passes_top
returns-in_default-2-clause-passes_top c = top_none _ (rw c.in_default.is at c.split_field.ensures.splits_off)

pub returns-in-Some-clause-passes_only_top : goal.returns-in-Some-clause-passes_only_top
returns-in-Some-clause-passes_only_top c =
    only_border _ _ c.in-Some.first c.in-Some.ensures.splits_off (search rules) (omega (arith, c.in-Some.ensures.size))

pub returns-in_default-clause-passes_only_top : goal.returns-in_default-clause-passes_only_top
returns-in_default-clause-passes_only_top c = only_text _ _ c.in-Some.first c.in-Some.ensures.splits_off (search rules)

pub returns-in_default-2-clause-passes_only_top : goal.returns-in_default-2-clause-passes_only_top
returns-in_default-2-clause-passes_only_top c = only_none _ (rw c.in_default.is at c.split_field.ensures.splits_off)

pub returns-in-Some-clause-behind : goal.returns-in-Some-clause-behind
returns-in-Some-clause-behind c =
    c.in-Some.ensures.behind ∙ ap (λ (n : ℕ). drop n c.args.lines.now) (omega (arith, c.in-Some.ensures.size))
