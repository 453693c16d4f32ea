-- `hang::put_hanging` meets its contract: the field stands in the part of the store behind the others.
-- Assumes nothing.
use mathlib.Core.Logic.{inl, inr}
use mathlib.Core.Path.{refl}
use native.Mathlib.Omega.{arith}
use Rattle.overhang.proofs.HangLaws.{hangs_on}
use Rattle.overhang.proofs.hang.put_hanging.Goals as goal
use Rattle.overhang.proofs.hang.put_hanging.Goals.{then-lines, else-lines}

pub returns-clause-hangs_on : goal.returns-clause-hangs_on
returns-clause-hangs_on c =
    hangs_on _ c.put_field-n.new.out _ _ _ c.args.options c.args.cell c.args.to _ _ c.min-place.ensures c.put_field-n.ensures.puts_hanging c.put_field-n.auto.out refl refl
    (λ low. omega (arith, low, c.saturating_add.ensures, c.put_field-n.ensures.upper_bound))
    (elim c.if-lines.branch [ then-lines y ↦ inl (y.if-lines.true, y.long-is) | else-lines y ↦ inr (y.if-lines.false, y.long-is) ])
