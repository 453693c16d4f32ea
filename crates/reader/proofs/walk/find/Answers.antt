-- `reader::walk::find` meets its contract: behind the last byte no field is left.
-- Assumes nothing.
use Rattle.std.proofs.Common.{◌≡◌, ◌≤◌, length, arith}
use Rattle.std.proofs.lemmas.Bool.Decides.{nat_tests}
use mathlib.Core.Logic.{⊎_elim}
use Rattle.reader.proofs.Places.{nothing_left}
use Rattle.reader.proofs.walk.find.Goals as goal

pub returns-in_err-rest : goal.returns-in_err-rest
returns-in_err-rest c =
    let past : length c.args.bytes.now ≤ c.args.at = ⊎_elim (λ h. omega arith) (λ h. absurd (omega arith)) c.in_err-rest.ensures.lookup.0 in
    rw c.from_residual.ensures (nothing_left c.args.bytes.now c.args.at past)

pub returns-then-is_empty : goal.returns-then-is_empty
returns-then-is_empty c =
    let none : length c.in_ok-rest.rest.now ≡ 0 = grind (arith, nat_tests) in
    nothing_left c.args.bytes.now c.args.at (omega (arith, none, c.in_ok-rest.ensures.lookup.0))
