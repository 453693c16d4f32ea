-- Assumes nothing.
use Rattle.std.proofs.Common.{refl, ap}
use Rattle.std.specs.Prelude.{Some}
use borrow.Author.Rules.{rules}
use Rattle.fields.specs.Field.{raws}
use Rattle.append_subrender.proofs.Adding.{walk_start, walk_on, walk_out, walk_end, walk_broken}
use Rattle.append_subrender.proofs.prefixed.add_guest.Goals as goal

pub loop-field-init : goal.loop-field-init
loop-field-init c =
    rw c.into_iter-field-iterator.ensures.into_iter_gives
    (walk_start _ _ _ _ _ _ _ _ _ c.requires.0 (ap raws c.new-coming.ensures) (ap raws c.new-field-items.ensures))

pub returns-in_default : goal.returns-in_default
returns-in_default c =
    let w = c.loop-field.invariant in
    record { in_bounds = (w.bounds, w.waiting); adds_guest = walk_out _ _ _ _ _ _ _ _ _ _ _ _ w _ _ c.next_prefix.ensures c.in_default.is }

pub returns-in_default-field : goal.returns-in_default-field
returns-in_default-field c =
    let w = c.loop-field.invariant in
    let next = rw c.in_default-field.is at c.in-Some.ensures.steps in
    record { in_bounds = (w.bounds, w.waiting); adds_guest = walk_broken _ _ _ _ _ _ _ _ _ _ _ _ w _ next }

pub slice_bounds-waiting-count : goal.slice_bounds-waiting-count
slice_bounds-waiting-count c =
    c.loop-field.invariant.waiting

pub add_prefixed-requires : goal.add_prefixed-requires
add_prefixed-requires c =
    c.loop-field.invariant.bounds

pub loop-field-preserved : goal.loop-field-preserved
loop-field-preserved c =
    let next = rw c.in-Ok.is at c.in-Some.ensures.steps in
    let prefix = c.in-Some-next_prefix.prefix in
    walk_on _ _ _ _ _ _ _ _ _ _ _ _ c.loop-field.invariant _ _ _ _ _ (Some prefix) prefix c.requires.1 next c.in-Some-next_prefix.ensures refl c.add_prefixed.ensures.one_line_more (search rules) c.add_prefixed.ensures.adds_prefixed

pub shape_of-out : goal.shape_of-out
shape_of-out c =
    c.loop-field.invariant.size

pub returns : goal.returns
returns c =
    let w = c.loop-field.invariant in
    record { in_bounds = (w.bounds, w.waiting); adds_guest = walk_end _ _ _ _ _ _ _ _ _ _ _ _ w c.in-None.ensures.steps.0 }
