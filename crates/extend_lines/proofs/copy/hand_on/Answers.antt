-- `extend_lines::copy::hand_on` meets its contract: the V fields' bytes behind the lines.
-- Assumes nothing.
use mathlib.Core.Path.{refl}
use native.Mathlib.Omega.{arith}
use Rattle.extend_lines.proofs.Handing.{bytes_known}
use Rattle.extend_lines.proofs.Emitting.{hands_on}
use Rattle.extend_lines.proofs.copy.hand_on.Goals as goal

pub put_bytes-at-requires : goal.put_bytes-at-requires
put_bytes-at-requires c =
    omega (arith, c.requires.at, c.requires.count)

pub returns : goal.returns
returns c =
    record { count_value = refl; hands_on = hands_on _ _ _ _ _ (bytes_known c.args.fields.now (λ i. omega (arith, c.type_inv.fields i))) refl refl c.put_bytes-at.ensures }
