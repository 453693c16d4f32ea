-- `flush_line` meets its contract: a line without entries is empty, and one with entries has text. Assumes nothing.
use mathlib.Core.Path.{refl}
use Rattle.hard_wrap.proofs.Blanks.{flushes_none, flushes_some}
use Rattle.hard_wrap.proofs.line.OpenLine.flush_line.Goals as goal

pub returns-then-is_empty-clause-flushes : goal.returns-then-is_empty-clause-flushes
returns-then-is_empty-clause-flushes c =
    λ d₀ base b g h. flushes_none c.args.self.now d₀ base b g (c.if-is_empty.ensures.0 refl)

pub returns-clause-flushes : goal.returns-clause-flushes
returns-clause-flushes c =
    λ d₀ base b g h. flushes_some c.args.self.now c.force_flush_line.new.self d₀ base b g (λ e. absurd (let f = c.if-is_empty.ensures.1 e in cc)) h c.force_flush_line.ensures.force_flushes
