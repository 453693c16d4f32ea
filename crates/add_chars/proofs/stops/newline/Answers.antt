-- `add_chars::stops::newline` meets its contract: LF closes the line, and the blanks and the flag are gone.
-- Assumes nothing.
use Rattle.hard_wrap.specs.Hold.{setup}
use Rattle.add_chars.proofs.Stopping.{newline_keeps}
use Rattle.add_chars.proofs.stops.newline.Goals as goal

pub returns-clause-newlines : goal.returns-clause-newlines
returns-clause-newlines c =
    λ d₀ base b k.
    newline_keeps (setup c.args.block.now.line.frame) d₀ base b c.args.block.now c.force_flush_line.new.self _ k (c.force_flush_line.ensures.force_flushes d₀ base b k.line)
