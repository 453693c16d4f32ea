-- `filled::Filled::taken` meets its contract. Assumes nothing.
use Rattle.std.proofs.Common.{sym, ◌∙◌}
use Rattle.row_holes.proofs.FilledLaws.{takes_not_last, takes_name, takes_own, takes_other}
use Rattle.row_holes.proofs.filled.Filled.taken.Goals as goal
use Rattle.row_holes.proofs.filled.Filled.taken.Goals.{else-last-via-then-last+then-field-eq83+else-starts_with, else-last-via-then-last+else-field-eq83, else-last-via-else-last}

pub returns-then-starts_with-clause-takes_spaces : goal.returns-then-starts_with-clause-takes_spaces
returns-then-starts_with-clause-takes_spaces c = takes_own _ _ _ _ _ c.if-last.true c.if-field-eq83.true (sym c.starts_with.ensures.value ∙ c.if-starts_with.true)

pub returns-else-last-clause-takes_spaces : goal.returns-else-last-clause-takes_spaces
returns-else-last-clause-takes_spaces c =
    elim c.else-last.branch [
      | else-last-via-then-last+then-field-eq83+else-starts_with w ↦ takes_other _ _ _ _ _ w.if-last.true w.if-field-eq83.true (sym w.starts_with.ensures.value ∙ w.if-starts_with.false)
      | else-last-via-then-last+else-field-eq83 w ↦ takes_name _ _ _ _ _ w.if-field-eq83.false
      | else-last-via-else-last w ↦ takes_not_last _ _ _ _ _ w.if-last.false
    ]
