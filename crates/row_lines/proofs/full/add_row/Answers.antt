-- Assumes nothing.
use mathlib.Core.Path.{refl}
use native.Mathlib.Omega.{arith}
use borrow.Author.Rules.{rules}
use Rattle.row_lines.proofs.FullLaws.{lines_start, lines_on, lines_long, lines_end}
use Rattle.row_lines.proofs.full.add_row.Goals as goal

pub loop-above-init : goal.loop-above-init
loop-above-init c = lines_start _ _ _ c.args.options _ _ _ _ c.requires.0 c.start_marks.ensures

pub returns-then-next-clause-in_bounds : goal.returns-then-next-clause-in_bounds
returns-then-next-clause-in_bounds c =
    let w = c.loop-above.invariant in
    (record { at = omega (arith, w.bounds.at); count = omega (arith, w.count, c.requires.1, c.loop-above-test.true) }, omega (arith, w.count, c.loop-above-test.true))

pub returns-then-next-clause-adds_row : goal.returns-then-next-clause-adds_row
returns-then-next-clause-adds_row c =
    lines_long _ _ _ _ _ _ _ _ _ _ _ _ c.loop-above.invariant _ c.if-next.true c.if-next.true refl

pub loop-above-preserved : goal.loop-above-preserved
loop-above-preserved c =
    lines_on _ _ _ _ _ _ _ _ _ _ _ _ c.loop-above.invariant _ _ _ c.loop-above-test.true c.requires.1 c.if-next.false (search rules) c.add-next.ensures.one_line_more
    c.add-next.ensures.adds_line

pub returns-clause-in_bounds : goal.returns-clause-in_bounds
returns-clause-in_bounds c =
    let w = c.loop-above.invariant in
    (w.bounds, omega (arith, w.count, c.loop-above.auto.above-end, c.loop-above-test.false))

pub returns-clause-adds_row : goal.returns-clause-adds_row
returns-clause-adds_row c = lines_end _ _ _ _ _ _ _ _ _ _ _ _ c.loop-above.invariant c.loop-above-test.false
