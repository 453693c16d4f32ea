-- `cells::add_rule` meets its contract: the border is a part of one that is as wide as any sheet.
-- Assumes nothing.
use Rattle.std.proofs.Common.{arith}
use Rattle.append_subrender.proofs.Stacking.{adds_rule}
use Rattle.append_subrender.proofs.cells.add_rule.Goals as goal

pub returns-clause-adds_rule : goal.returns-clause-adds_rule
returns-clause-adds_rule c =
    adds_rule _ _ _ _ _ _ 256 _ (omega arith) c.from.ensures c.add_border.ensures.adds_border
