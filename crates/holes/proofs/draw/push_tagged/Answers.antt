-- `draw::push_tagged` meets its contract.
-- Assumes nothing.
use Rattle.holes.proofs.DrawLaws.{pushed_tagged}
use Rattle.holes.proofs.draw.push_tagged.Goals as goal

pub returns-clause-pushes_tagged : goal.returns-clause-pushes_tagged
returns-clause-pushes_tagged c =
    pushed_tagged _ _ _ _ c.args.border _ c.push_holes.ensures.draws_holes
