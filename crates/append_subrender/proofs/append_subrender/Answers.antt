-- `append_subrender` meets its contract: the first of the inputs' refusals, or refusal 10, or the old lines, after them the pairs, and the
-- names that still wait on the old sheet and what hangs from it.
-- Assumes nothing.
use Rattle.std.proofs.Common.{arith}
use Rattle.append_subrender.proofs.Refusing.{sheets_pass}
use Rattle.append_subrender.proofs.Calling.{none_bounds, subrender_refuses, subrender_misfits, subrender_gives}
use Rattle.append_subrender.proofs.append_subrender.Goals as goal

pub returns-in-Err : goal.returns-in-Err
returns-in-Err c =
    subrender_refuses _ _ _ _ _ _ _ _ (rw c.in-Err.is at c.check_subrender.ensures) c.refuse.ensures

pub split_sheet-theirs-requires : goal.split_sheet-theirs-requires
split_sheet-theirs-requires c =
    (sheets_pass c.args.options _ _ _ (rw c.in_default.is at c.check_subrender.ensures)).1

pub returns-then-guest_misfit : goal.returns-then-guest_misfit
returns-then-guest_misfit c =
    subrender_misfits _ _ _ _ _ (rw c.in_default.is at c.check_subrender.ensures) _ _ _ _ c.split_sheet-theirs.ensures.splits c.guest_misfit.result c.guest_misfit.ensures _ c.if-guest_misfit.true c.refuse-then-guest_misfit.ensures

pub split_sheet-ours-requires : goal.split_sheet-ours-requires
split_sheet-ours-requires c =
    (sheets_pass c.args.options _ _ _ (rw c.in_default.is at c.check_subrender.ensures)).0

pub copy_lines-old-requires : goal.copy_lines-old-requires
copy_lines-old-requires c =
    let b = none_bounds _ c.new.ensures in
    (b.0, omega (arith, b.1, c.split_sheet-ours.ensures.few))

pub add_guest-new-requires : goal.add_guest-new-requires
add_guest-new-requires c =
    let old = c.copy_lines-old.ensures.in_bounds in
    let b = none_bounds _ c.new.ensures in
    (old.0, omega (arith, old.1, b.1, c.split_sheet-ours.ensures.few, c.split_sheet-theirs.ensures.few))

pub returns : goal.returns
returns c =
    subrender_gives _ _ _ _ _ (rw c.in_default.is at c.check_subrender.ensures) _ _ _ _ c.split_sheet-theirs.ensures.splits c.guest_misfit.result c.guest_misfit.ensures _ _ _ _ _ c.add_guest-new.result _ _ _ _ _ c.if-guest_misfit.false c.split_sheet-ours.ensures.splits c.new.ensures c.copy_lines-old.ensures.copies_lines c.add_guest-new.ensures.in_bounds.1 c.add_guest-new.ensures.adds_guest c.hand_on-all.ensures.hands_on c.close.ensures
