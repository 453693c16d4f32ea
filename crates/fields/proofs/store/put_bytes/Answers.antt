-- `fields::store::put_bytes` meets its contract: what has room is copied at once.
-- Assumes nothing.
use Rattle.std.proofs.Common.{◌≡◌, ◌-◌, ◌≤◌, ◌<◌, length, min, arith}
use Rattle.fields.proofs.Sets.{sets_none, sets_mid}
use Rattle.fields.proofs.store.put_bytes.Goals as goal

pub returns-then-n-eq0 : goal.returns-then-n-eq0
returns-then-n-eq0 c =
    let none : min (length c.args.bytes.now) (length c.args.out.now - c.args.at) ≤ 0 = omega (arith, c.min-n.ensures, c.saturating_sub.ensures, c.if-n-eq0.true) in
    record { place = omega arith; store = sets_none _ _ _ none }

pub returns : goal.returns
returns c =
    let room : c.min-n.result ≡ min (length c.args.bytes.now) (length c.args.out.now - c.args.at) = omega (arith, c.min-n.ensures, c.saturating_sub.ensures) in
    let some : 0 < c.min-n.result = omega (arith, c.if-n-eq0.false) in
    record { place = omega arith; store = sets_mid _ _ _ _ _ room some c.copy_slice.ensures.after }
