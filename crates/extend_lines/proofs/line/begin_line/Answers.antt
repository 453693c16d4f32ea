-- `extend_lines::line::begin_line` meets its contract: the names' bytes where the content of a new line begins.
-- Assumes nothing.
use mathlib.Core.Path.{refl}
use native.Mathlib.Omega.{arith}
use Rattle.extend_lines.proofs.Handing.{bytes_known}
use Rattle.extend_lines.proofs.Naming.{begins}
use Rattle.extend_lines.proofs.line.begin_line.Goals as goal

pub overflow_add-base : goal.overflow_add-base
overflow_add-base c =
    omega (arith, c.requires.0.at, c.requires.0.count)

pub put_bytes-at-requires : goal.put_bytes-at-requires
put_bytes-at-requires c =
    omega (arith, c.requires.0.at, c.requires.0.count)

pub returns : goal.returns
returns c =
    record { line_begun = (record { base = refl; on = omega (arith, c.put_bytes-at.ensures.place); piece = omega arith; at = omega (arith, c.put_bytes-at.ensures.place, c.requires.1); cols = omega arith }, refl); begins_line = begins _ _ c.args.names.now _ (bytes_known c.args.names.now (λ i. omega (arith, c.type_inv.names i))) refl refl c.put_bytes-at.ensures }
