-- `copy_slice` meets its contract. The invariant: the lists are as long as each other, and the same up to i. Assumes nothing.
use Rattle.std.proofs.Common.{◌≡◌, length, take}
use Rattle.fields.proofs.store.copy_slice.Given as goal

abbrev pub invariant-loop-i : goal.invariant-loop-i
invariant-loop-i g l = (length l.to ≡ length l.from) × (take l.i l.to ≡ take l.i l.from)
