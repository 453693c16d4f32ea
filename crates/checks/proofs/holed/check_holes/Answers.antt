-- `checks::holed::check_holes` meets its contract, hole by hole.
-- Assumes nothing.
use Rattle.std.proofs.Common.{rules}
use Rattle.checks.proofs.HoleLaws.{holes_start, holes_on, holes_torn, holes_end}
use Rattle.checks.proofs.holed.check_holes.Goals as goal

pub loop-hole-init : goal.loop-hole-init
loop-hole-init c = holes_start _ _ _ (search rules)

pub returns-in_default : goal.returns-in_default
returns-in_default c = holes_torn _ _ _ _ c.loop-hole.invariant _ (rw c.in_default.is at c.in-Some.ensures.steps)

pub loop-hole-preserved : goal.loop-hole-preserved
loop-hole-preserved c =
    rw c.first_of-worst.ensures
    (holes_on _ _ _ _ c.loop-hole.invariant _ _ _ (rw c.in-Ok.is at c.in-Some.ensures.steps) c.check_hole.ensures)

pub returns : goal.returns
returns c = holes_end _ _ _ _ c.loop-hole.invariant c.in-None.ensures.steps.0
