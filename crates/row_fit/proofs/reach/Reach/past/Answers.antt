-- `reach::Reach::past` meets its contract.
-- Assumes nothing.
use Rattle.std.proofs.Common.{rules}
use Rattle.row_fit.proofs.reach.Reach.past.Goals as goal

pub returns : goal.returns
returns c x b h q =
    record {
      border_is = search rules;
      holes_is = search rules;
      over_is = search rules;
      any_is = search rules;
    }
