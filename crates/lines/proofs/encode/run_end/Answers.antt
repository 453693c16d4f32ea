-- `encode::run_end` meets its contract: the run is entries of one tag and then of a name, or of a name alone. Assumes nothing.
use native.Mathlib.Omega.{arith}
use Prim.Native.Nat.{◌+◌}
use borrow.Author.Rules.{rules}
use lib.ListN.{drop, get_or}
use Rattle.lines.proofs.Pieces.{run_of_mark, run_at}
use Rattle.lines.proofs.encode.run_end.Goals as goal

pub returns-then-t-eq-MARK : goal.returns-then-t-eq-MARK
returns-then-t-eq-MARK c =
    let r = run_of_mark (drop (c.args.i + 1) c.args.tags.now) in
    record { lower_bound = (search rules, search rules); value = rw c.if-t-eq-MARK.true (omega (arith, r, c.same_end.ensures)) }

pub returns : goal.returns
returns c =
    let r = run_at c.args.tags.now (get_or c.args.tags.now c.args.i 0) (c.args.i + 1) c.same_end-text.result c.if-t-eq-MARK.false c.same_end-text.ensures.value in
    record { lower_bound = (search rules, search rules); value = omega (arith, r, c.same_end-2.ensures) }
