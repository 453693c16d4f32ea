-- `add_chars::stops::tab` meets its contract: a tab changes only the lines, from the position over line, word and blanks.
-- Assumes nothing.
use Rattle.hard_wrap.specs.Hold.{setup}
use Rattle.add_chars.proofs.Stopping.{tab_keeps}
use Rattle.add_chars.proofs.stops.tab.Goals as goal

pub returns-clause-tabbing : goal.returns-clause-tabbing
returns-clause-tabbing c =
    λ d₀ base b t k ta ann.
    tab_keeps (setup c.args.block.now.line.frame) t d₀ base b c.args.block.now c.tab_line.new.line _ k (c.tab_line.ensures.tabs d₀ base b t k.line k.trims ta ann)
