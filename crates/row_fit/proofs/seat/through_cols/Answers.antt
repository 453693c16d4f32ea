-- `seat::through_cols` meets its contract.
-- Assumes nothing.
use Rattle.std.proofs.Common.{rules}
use Rattle.row_fit.proofs.SeatLaws.{through_ends, through_none, through_line, through_broken}
use Rattle.row_fit.proofs.seat.through_cols.Goals as goal

pub returns-then-seat-le1-clause-counts_through : goal.returns-then-seat-le1-clause-counts_through
returns-then-seat-le1-clause-counts_through c = through_ends _ c.args.seat c.args.height c.if-seat-le1.true

pub returns-then-is_empty-clause-counts_through : goal.returns-then-is_empty-clause-counts_through
returns-then-is_empty-clause-counts_through c = through_none _ _ c.args.seat c.args.height c.if-seat-le1.false c.skip_lines-rest.ensures.skips (search rules)

pub returns-in_err-line-clause-counts_through : goal.returns-in_err-line-clause-counts_through
returns-in_err-line-clause-counts_through c =
    through_broken _ _ c.args.seat c.args.height _ c.skip_lines-rest.ensures.skips (search rules) c.in_err-line.ensures.splits_off

pub returns-clause-counts_through : goal.returns-clause-counts_through
returns-clause-counts_through c =
    through_line _ _ _ c.in_ok-line.line c.args.seat c.args.height _ c.if-seat-le1.false c.skip_lines-rest.ensures.skips c.in_ok-line.ensures.splits_off c.line_cols.ensures.counts_line
