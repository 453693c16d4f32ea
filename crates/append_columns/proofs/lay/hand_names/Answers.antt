-- `lay::hand_names` meets its contract. Assumes nothing.
use native.Mathlib.Omega.{arith}
use Rattle.extend_lines.proofs.Handing.{bytes_known}
use Rattle.append_columns.proofs.LayLaws.{hands_all, hands_none}
use Rattle.append_columns.proofs.lay.hand_names.Goals as goal

pub returns-then-height-eq0 : goal.returns-then-height-eq0
returns-then-height-eq0 c =
    hands_all _ _ _ _ _ _ (bytes_known c.args.names.now (λ i. omega (arith, c.type_inv.names i))) c.requires c.if-height-eq0.true c.hand_on.ensures.hands_on

pub returns : goal.returns
returns c = hands_none _ _ _ _ c.requires c.if-height-eq0.false
