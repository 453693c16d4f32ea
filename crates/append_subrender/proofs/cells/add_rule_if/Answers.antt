-- `cells::add_rule_if` meets its contract, by the two cases of its test.
-- Assumes nothing.
use native.Mathlib.Omega.{arith}
use Rattle.append_subrender.proofs.Adding.{next_bounds}
use Rattle.append_subrender.proofs.Stacking.{rule_drawn, rule_none}
use Rattle.append_subrender.proofs.cells.add_rule_if.Goals as goal

pub returns-then-drawn : goal.returns-then-drawn
returns-then-drawn c =
    record { in_bounds = (next_bounds _ _ c.requires.0 c.add_rule.ensures.one_line_more (omega (arith, c.requires.1)), omega (arith, c.add_rule.ensures.one_line_more.count)); adds_rule_if = rule_drawn _ _ _ _ _ _ _ c.if-drawn.true c.add_rule.ensures.adds_rule }

pub returns : goal.returns
returns c =
    record { in_bounds = (c.requires.0, omega arith); adds_rule_if = rule_none _ _ _ _ _ c.if-drawn.false }
