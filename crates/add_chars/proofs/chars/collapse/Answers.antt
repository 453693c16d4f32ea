-- `add_chars::chars::collapse` meets its contract: a blank pends where the line has columns and none pends yet.
-- Assumes nothing.
use native.Mathlib.Omega.{arith}
use Rattle.add_chars.proofs.Wording.{collapses_start, collapses_pending, collapses_one}
use Rattle.add_chars.proofs.chars.collapse.Goals as goal
use Rattle.add_chars.proofs.chars.collapse.Goals.{then-block-eq0-via-then-block-eq0, then-block-eq0-via-else-block-eq0+then-block-ne0}

pub returns-then-block-eq0-clause-collapses : goal.returns-then-block-eq0-clause-collapses
returns-then-block-eq0-clause-collapses c =
    elim c.then-block-eq0.branch [
      | then-block-eq0-via-then-block-eq0 w ↦ collapses_start c.args.block.now c.args.tag w.if-block-eq0.true
      | then-block-eq0-via-else-block-eq0+then-block-ne0 w ↦ collapses_pending c.args.block.now c.args.tag w.if-block-ne0.true
    ]

pub returns-clause-collapses : goal.returns-clause-collapses
returns-clause-collapses c =
    collapses_one c.args.block.now c.args.tag _ (omega (arith, c.if-block-eq0.false)) (omega (arith, c.if-block-ne0.false))
