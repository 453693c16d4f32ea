-- `walk::skip_lines` meets its contract.
-- Assumes nothing.
use Rattle.std.proofs.Common.{arith}
use Rattle.bodies.proofs.WalkLaws.{behind_on, skip_on, skip_all}
use Rattle.bodies.proofs.walk.skip_lines.Goals as goal

pub returns-in_default-clause-behind : goal.returns-in_default-clause-behind
returns-in_default-clause-behind c = c.loop.invariant.behind

pub returns-in_default-clause-skips : goal.returns-in_default-clause-skips
returns-in_default-clause-skips c = skip_all _ _ c.loop.counter c.args.n c.loop.invariant.skips (omega arith) c.in_default.ensures.splits_off

pub loop-preserved : goal.loop-preserved
loop-preserved c =
    record {
      shorter = omega (arith, c.loop.invariant.shorter, c.in-Some.ensures.size);
      behind = behind_on _ _ _ _ c.loop.invariant.shorter c.loop.invariant.behind c.in-Some.ensures.behind c.in-Some.ensures.size;
      skips = skip_on _ _ _ c.in-Some.field-0-0 c.loop.counter c.loop.invariant.skips c.in-Some.ensures.splits_off;
    }
