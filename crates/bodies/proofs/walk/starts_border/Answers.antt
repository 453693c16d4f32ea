-- `walk::starts_border` meets its contract.
-- Assumes nothing.
use Rattle.std.proofs.Common.{rules}
use Rattle.bodies.proofs.WalkLaws.{tells_by}
use Rattle.bodies.proofs.walk.starts_border.Goals as goal

pub returns : goal.returns
returns c = tells_by _ _ (λ h. search rules) (λ h. search rules)
