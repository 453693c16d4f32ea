-- `sheet_c::tell` meets its contract, for a sheet and for a refusal.
-- Assumes nothing.
use Rattle.sheet_c.proofs.tell.Goals as goal

pub returns-in-Ok : goal.returns-in-Ok
returns-in-Ok c =
    λ store. rw c.in-Ok.is

pub returns-in-Err : goal.returns-in-Err
returns-in-Err c =
    λ store. rw (c.in-Err.is, ← c.number.ensures, ← c.needed.ensures)
