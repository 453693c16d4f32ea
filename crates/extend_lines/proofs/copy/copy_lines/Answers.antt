-- Assumes nothing.
use Rattle.std.proofs.Common.{refl, rules, arith}
use Rattle.extend_lines.proofs.Handing.{bytes_known}
use Rattle.extend_lines.proofs.Copying.{fields_known, walk_start, walk_on, walk_broken, walk_end}
use Rattle.extend_lines.proofs.copy.copy_lines.Goals as goal

pub loop-field-init : goal.loop-field-init
loop-field-init c =
    rw (c.into_iter-field-iterator.ensures.into_iter_gives, c.new-field-items.ensures) (walk_start _ _ _ _ c.requires.0 (fields_known _ (bytes_known c.args.body.now (λ i. omega (arith, c.type_inv.body i)))) refl)

pub copy_line-next-requires : goal.copy_line-next-requires
copy_line-next-requires c =
    c.loop-field.invariant.bounds

pub loop-field-preserved-in-Ok : goal.loop-field-preserved-in-Ok
loop-field-preserved-in-Ok c =
    let next = rw c.in-Ok.is at c.in-Some.ensures.steps in
    walk_on _ _ _ _ _ _ _ _ _ _ c.loop-field.invariant c.requires.1 next c.copy_line-next.ensures.one_line_more (search rules) c.copy_line-next.ensures.copies_line

pub loop-field-preserved : goal.loop-field-preserved
loop-field-preserved c =
    let next = rw c.in_default.is at c.in-Some.ensures.steps in
    walk_broken _ _ _ _ _ _ _ c.loop-field.invariant next

pub shape_of-out : goal.shape_of-out
shape_of-out c =
    c.loop-field.invariant.size

pub returns : goal.returns
returns c =
    record { in_bounds = (c.loop-field.invariant.bounds, omega (arith, c.loop-field.invariant.count)); copies_lines = walk_end _ _ _ _ _ _ c.loop-field.invariant c.in-None.ensures.steps.0 }
