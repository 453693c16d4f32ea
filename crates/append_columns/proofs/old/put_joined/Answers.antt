-- `old::put_joined` meets its contract.
-- Assumes nothing.
use mathlib.Core.Path.{refl}
use mathlib.Core.Logic.{inl, inr}
use borrow.Author.Rules.{rules}
use Rattle.append_columns.proofs.OldLaws.{joined_put}
use Rattle.append_columns.proofs.old.put_joined.Goals as goal
use Rattle.append_columns.proofs.old.put_joined.Goals.{then-lines, else-lines}

pub returns-clause-puts_joined : goal.returns-clause-puts_joined
returns-clause-puts_joined c =
    joined_put _ _ _ _ c.args.border _ _ (search rules) c.put_border-end.ensures.puts_border refl refl
    (elim c.if-lines.branch [ then-lines y ↦ inl (y.if-lines.true, y.long-is) | else-lines y ↦ inr (y.if-lines.false, y.long-is) ])
