-- `survey::survey`: what is found of the seats so far, and those that are left.
-- Assumes nothing.
use Rattle.std.proofs.Common.{◌≤◌}
use Rattle.seats.proofs.SurveyLaws.{SoFar}
use Rattle.seats.proofs.survey.survey.Given as goal

abbrev pub invariant-loop-seat : goal.invariant-loop-seat
invariant-loop-seat l = (l.seen.height ≤ 65535) × SoFar l.row l.collapse l.seen l.seats
