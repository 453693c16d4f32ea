-- `old::add_old` meets its contract: the lines are copied, and a last border is put as the row makes it.
-- Assumes nothing.
use native.Mathlib.Omega.{arith}
use Rattle.append_columns.proofs.OldLaws.{bounds_none, bounds_next, old_joined, old_plain}
use Rattle.append_columns.proofs.old.add_old.Goals as goal

pub copy_lines-lines-requires : goal.copy_lines-lines-requires
copy_lines-lines-requires c =
    let b = bounds_none _ c.new.ensures in (b.0, omega (arith, b.1, c.args.old.now.few))

pub returns-in-Some : goal.returns-in-Some
returns-in-Some c =
    let b = bounds_none _ c.new.ensures in
    record {
      in_bounds = bounds_next _ _ c.copy_lines-lines.ensures.in_bounds.0 (omega (arith, b.1, c.copy_lines-lines.ensures.in_bounds.1, c.args.old.now.few)) c.put_prev_border.ensures.one_line_more;
      adds_old = old_joined _ _ _ c.args.old.now c.args.row.now _ _ _ _ c.in-Some.last c.in-Some.is c.new.ensures c.copy_lines-lines.ensures.copies_lines c.put_prev_border.ensures.puts_prev;
    }

pub returns-in-None : goal.returns-in-None
returns-in-None c =
    let b = bounds_none _ c.new.ensures in
    record {
      in_bounds = (c.copy_lines-lines.ensures.in_bounds.0, omega (arith, b.1, c.copy_lines-lines.ensures.in_bounds.1, c.args.old.now.few));
      adds_old = old_plain _ _ c.args.old.now c.args.row.now _ _ _ c.in-None.is c.new.ensures c.copy_lines-lines.ensures.copies_lines;
    }
