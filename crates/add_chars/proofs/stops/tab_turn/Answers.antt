-- `add_chars::stops::tab_turn` meets its contract: at the block's edge the line is closed, and before it a space is written.
-- Assumes nothing.
use Rattle.block.specs.Flat.{on_line, flat_flush_line}
use Rattle.block.proofs.NonSpaces.{texted, trims_flush, trims_space}
use Rattle.hard_wrap.specs.Hold.{setup}
use Rattle.hard_wrap.proofs.Blanks.{blank_on}
use Rattle.add_chars.proofs.Stopping.{turn_edge, turn_blank}
use Rattle.add_chars.proofs.stops.tab_turn.Goals as goal

pub returns-then-line-at-clause-turns : goal.returns-then-line-at-clause-turns
returns-then-line-at-clause-turns c =
    λ d₀ base b t o k ta ann.
    record {
      next = flat_flush_line (setup c.args.line.now.frame) b;
      holds = c.flush_line.ensures.flushes d₀ base b o (texted b.line k.line);
      trims = trims_flush (setup c.args.line.now.frame) b k;
      same = λ fuel e. turn_edge (setup c.args.line.now.frame) t fuel _ _ b c.if-line-at.true e;
    }

pub returns-clause-turns : goal.returns-clause-turns
returns-clause-turns c =
    λ d₀ base b t o k ta ann.
    record {
      next = on_line 0x20 t b;
      holds = blank_on c.args.line.now c.push.new.self c.args.tag c.push.ensures.items d₀ base b t o ta ann;
      trims = trims_space t b k;
      same = λ fuel e. turn_blank (setup c.args.line.now.frame) t fuel _ _ b c.if-line-at.false e;
    }
