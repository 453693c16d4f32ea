-- `force_flush_line` meets its contract: the padded line is written behind the closed ones. Assumes nothing.
use mathlib.Core.Path.{refl}
use Rattle.hard_wrap.proofs.Closing.{closes}
use Rattle.hard_wrap.proofs.line.OpenLine.force_flush_line.Goals as goal

pub returns-clause-force_flushes : goal.returns-clause-force_flushes
returns-clause-force_flushes c =
    λ d₀ base b g. closes c.args.self.now c.pad_to.new.self _ d₀ base b c.requires.default c.pad_to.ensures.padded c.push.ensures.wrote c.clear.ensures.items refl c.push.ensures.lines g
