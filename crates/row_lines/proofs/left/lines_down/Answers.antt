-- Assumes nothing.
use mathlib.Core.Path.{subst}
use Prim.Native.Nat.{ℕ}
use native.Mathlib.Omega.{arith}
use Rattle.row_lines.specs.Left.{FindsLeft}
use Rattle.row_lines.proofs.LeftLaws.{left_on}
use Rattle.row_lines.proofs.left.lines_down.Goals as goal

pub loop-init : goal.loop-init
loop-init c = (c.first_lines-left.ensures.shorter, c.first_lines-left.ensures.finds_first)

pub loop-preserved : goal.loop-preserved
loop-preserved c =
    (omega (arith, c.next_lines-left.ensures.shorter, c.loop.invariant.0), left_on _ _ _ _ _ c.loop.invariant.1 c.next_lines-left.ensures.moves_on)

pub returns-clause-shorter : goal.returns-clause-shorter
returns-clause-shorter c = c.loop.invariant.0

pub returns-clause-finds_left : goal.returns-clause-finds_left
returns-clause-finds_left c =
    subst (λ (n : ℕ). FindsLeft c.args.lines.now c.args.collapse n c.loop.left.now) (omega (arith, c.loop.auto.counter-end, c.loop-test.false)) c.loop.invariant.1
