-- Assumes nothing.
use borrow.Author.Rules.{rules}
use Rattle.overhang.proofs.LinesLaws.{lay_start, lay_low, lay_on, lay_broken, lay_end, lay_in}
use Rattle.overhang.proofs.line.put_lines.Goals as goal

pub loop-line-init : goal.loop-line-init
loop-line-init c = rw (c.into_iter-line-iterator.ensures.into_iter_gives, c.new-line-items.ensures) (lay_start _ _ _ _ _)

pub put_filled-at-requires : goal.put_filled-at-requires
put_filled-at-requires c = (lay_low _ _ _ _ _ _ _ _ c.loop-line.invariant c.requires.0 c.requires.1, c.requires.2)

pub loop-line-preserved-in-Ok : goal.loop-line-preserved-in-Ok
loop-line-preserved-in-Ok c =
    let next = rw c.in-Ok.is at c.in-Some.ensures.steps in
    lay_on _ _ _ _ _ _ _ _ c.loop-line.invariant c.in-Ok.line _ _ _ c.requires.2 next (search rules) c.put_filled-at.ensures.line_in c.put_filled-at.ensures.puts_filled

pub loop-line-preserved : goal.loop-line-preserved
loop-line-preserved c =
    let next = rw c.in_default.is at c.in-Some.ensures.steps in
    lay_broken _ _ _ _ _ _ _ _ c.loop-line.invariant _ next

pub shape_of-out : goal.shape_of-out
shape_of-out c = c.loop-line.invariant.size

pub returns : goal.returns
returns c =
    let w = c.loop-line.invariant in
    record { lower_bound = lay_in _ _ _ _ _ _ _ _ w c.requires.1; puts_lines = lay_end _ _ _ _ _ _ _ _ w c.in-None.ensures.steps.0 }
