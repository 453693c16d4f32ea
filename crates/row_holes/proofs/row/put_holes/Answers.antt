-- Assumes nothing.
use Rattle.row_holes.proofs.RowLaws.{put_start, put_on, put_past, put_end}
use Rattle.row_holes.proofs.row.put_holes.Goals as goal

pub loop-seat-init : goal.loop-seat-init
loop-seat-init c = put_start _ _ _ _ _ _ _ _ c.requires.1

pub loop-seat-preserved : goal.loop-seat-preserved
loop-seat-preserved c =
    let e = c.in_ok-at.ensures in
    put_on _ _ _ _ _ _ _ _ _ _ _ _ _ c.in-Some.seat _ _ _ _ _ c.loop-seat.invariant c.in-Some.ensures.steps
    e.out_len_unchanged.0 e.out_len_unchanged.1 e.out_len_unchanged.2 e.puts_one c.advance-pos.ensures.upper_bound c.advance-pos.ensures.advances

pub returns-in_err-at-clause-puts_holes : goal.returns-in_err-at-clause-puts_holes
returns-in_err-at-clause-puts_holes c =
    let begins = rw (← c.into_iter-seat-iterator.ensures.into_iter_gives) at c.iter-seat-items.ensures in
    put_past _ _ _ _ _ _ _ _ _ _ _ _ _ c.in-Some.seat _ _ c.args.row.now _ c.loop-seat.invariant c.in-Some.ensures.steps c.in_err-at.ensures.puts_one begins c.from_residual.ensures

pub returns-clause-puts_holes : goal.returns-clause-puts_holes
returns-clause-puts_holes c =
    let begins = rw (← c.into_iter-seat-iterator.ensures.into_iter_gives) at c.iter-seat-items.ensures in
    put_end _ _ _ _ _ _ _ _ _ _ _ _ _ c.next.new.self c.args.row.now c.loop-seat.invariant c.in-None.ensures.steps begins _ c.then_some.ensures
