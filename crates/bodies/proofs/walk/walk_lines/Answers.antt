-- `walk::walk_lines` meets its contract.
-- Assumes nothing.
use Rattle.std.proofs.Common.{refl, arith, rules, ◌≡◌, ◌||◌}
use lib.Dec.{eqb}
use Rattle.bodies.proofs.WalkLaws.{passed_start, passed_on, passed_end, passed_broken, passed_numbers, passed_nothing}
use Rattle.bodies.proofs.walk.walk_lines.Goals as goal
use Rattle.bodies.proofs.walk.walk_lines.Goals.{then-walked, else-walked}

pub loop-line-init : goal.loop-line-init
loop-line-init c = passed_start _ _ refl refl refl refl

pub loop-line-preserved : goal.loop-line-preserved
loop-line-preserved c =
    let joined : c.if-walked.walked ≡ (c.loop-line.walked.holed || eqb c.in-Some.line.letter 0x47) =
    elim c.if-walked.branch [ then-walked w ↦ search rules | else-walked w ↦ search rules ]
    in
    passed_on _ _ _ c.in-Some.line _ _ c.loop-line.invariant c.in-Some.ensures.splits_off c.in-Some.ensures.behind c.in-Some.line.short c.in-Some.ensures.size refl refl refl joined

pub returns-then-is_empty : goal.returns-then-is_empty
returns-then-is_empty c =
    record {
      walked_in = passed_numbers _ _ _ c.loop-line.invariant (search rules);
      walks = passed_end _ _ _ c.loop-line.invariant (search rules);
    }

pub returns : goal.returns
returns c =
    record {
      walked_in = passed_nothing _ _ refl refl (omega (arith, c.loop-line.invariant.few));
      walks = passed_broken _ _ _ _ c.loop-line.invariant (search rules) c.in_default.ensures.splits_off;
    }
