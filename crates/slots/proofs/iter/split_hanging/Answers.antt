-- `iter::split_hanging` meets its contract: the first of the V fields, as a seat.
-- Assumes nothing.
use Rattle.slots.proofs.CellLaws.{no_hanging_first, not_hanging_first, first_hanging}
use Rattle.slots.proofs.iter.split_hanging.Goals as goal

pub returns-in_err-field-clause-splits_hanging : goal.returns-in_err-field-clause-splits_hanging
returns-in_err-field-clause-splits_hanging c =
    rw c.from_residual.ensures (λ vs i h. no_hanging_first _ vs c.in_err-field.ensures.splits_off i)

pub returns-in_err-cell-clause-splits_hanging : goal.returns-in_err-cell-clause-splits_hanging
returns-in_err-cell-clause-splits_hanging c =
    rw c.from_residual-in_err-cell.ensures (λ vs i h. not_hanging_first _ _ _ c.in_ok-field.ensures.splits_off c.in_err-cell.ensures vs i)

pub returns-clause-splits_hanging : goal.returns-clause-splits_hanging
returns-clause-splits_hanging c = first_hanging _ _ _ c.in_ok-cell.cell _ c.in_ok-field.ensures.splits_off c.in_ok-cell.ensures c.of_hanging-seat.ensures
