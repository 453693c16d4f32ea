-- `below::put_holed` meets its contract: a G field after the lines, or a line that is counted.
-- Assumes nothing.
use mathlib.Core.Path.{refl}
use native.Mathlib.Omega.{arith}
use borrow.Author.Rules.{rules}
use Rattle.append_columns.proofs.BelowLaws.{holed_long, holed_put}
use Rattle.append_columns.proofs.below.put_holed.Goals as goal

pub returns-in_default-clause-puts_holed : goal.returns-in_default-clause-puts_holed
returns-in_default-clause-puts_holed c =
    holed_long _ c.put_bytes-place.new.out _ _ _ _ c.args.segments.now c.args.row.now _ _ _ _ _ (omega (arith, c.put_byte-count.ensures.place, c.put_two-start.ensures.place, c.put_bytes-place.ensures.place)) (omega (arith, c.requires.2)) c.in_default.ensures.puts_holes (search rules) c.too_long.ensures.0.count c.too_long.ensures.1

pub returns-clause-puts_holed : goal.returns-clause-puts_holed
returns-clause-puts_holed c =
    holed_put _ _ _ _ _ _ _ _ _ c.args.segments.now c.args.row.now _ _ _ _ _ _ _ _ c.in-Some.end refl c.put_byte-count.ensures c.put_two-start.ensures c.put_bytes-place.ensures (omega (arith, c.requires.2)) c.in-Some.ensures.puts_holes c.in-Some.ensures.out_len_unchanged.2 c.in-Some.ensures.out_len_unchanged.0 c.put_head.ensures refl refl refl
