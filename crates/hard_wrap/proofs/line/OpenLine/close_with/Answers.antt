-- `close_with` meets its contract: text goes on the line, and that is closed. Assumes nothing.
use mathlib.Core.List.{◌++◌}
use Rattle.block.specs.Flat.{with_line, flat_force_flush_line}
use Rattle.lines.specs.Bridge.{text}
use Rattle.hard_wrap.specs.Hold.{setup, Holds}
use Rattle.hard_wrap.proofs.line.OpenLine.close_with.Goals as goal

pub returns-clause-closes_with : goal.returns-clause-closes_with
returns-clause-closes_with c =
    λ d₀ base b t cs g ta h v p w.
    let z : Holds d₀ base (flat_force_flush_line (setup c.put_text.new.self.frame) (with_line (b.line ++ text t cs) b)) c.force_flush_line.new.self =
    c.force_flush_line.ensures.force_flushes d₀ base (with_line (b.line ++ text t cs) b) (c.put_text.ensures.puts_text d₀ base b t cs g ta h v p w) in
    rw c.put_text.ensures.stays.frame at z
