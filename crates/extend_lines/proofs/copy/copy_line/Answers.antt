-- `extend_lines::copy::copy_line` meets its contract: a line's field as it stands.
-- Assumes nothing.
use mathlib.Core.Path.{refl}
use native.Mathlib.Omega.{arith}
use Rattle.extend_lines.proofs.Copying.{copies_line, field_most}
use Rattle.extend_lines.proofs.copy.copy_line.Goals as goal

pub returns : goal.returns
returns c =
    let short = c.args.field.short in
    let n = field_most _ _ _ _ _ _ c.put_field.ensures in
    record { one_line_more = record { count = refl; on = omega (arith, n); at = omega (arith, n, short) }; copies_line = copies_line _ _ _ _ _ _ short refl refl c.put_field.ensures }
