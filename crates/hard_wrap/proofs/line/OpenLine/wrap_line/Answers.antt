-- `wrap_line` meets its contract: each return is one case of the flat hard wrap: what fits, a character alone, or TooNarrow. Assumes nothing.
use Prim.Native.Nat.{◌+◌, ◌<◌}
use native.Mathlib.Omega.{arith}
use borrow.Author.Rules.{rules}
use Rattle.hard_wrap.proofs.Turns.{step_on, step_over, step_stuck}
use Rattle.hard_wrap.proofs.line.OpenLine.wrap_line.Goals as goal

pub returns-then-self-clause-wraps_line : goal.returns-then-self-clause-wraps_line
returns-then-self-clause-wraps_line c =
    λ d₀ base b t cs g ta ann sc e w s.
    step_over c.args.self.now c.close_with.new.self c.args.rest.now d₀ base c.args.tag b t cs g ta ann sc e w c.requires.cols_le_width.0
    c.args.split c.args.used s c.if-split-eq0.true (omega arith) c.glyph-g.result.len c.glyph-g.result.cols c.glyph-g.ensures.shows c.if-self.true c.close_with.ensures.closes_with

pub returns-then-self-eq0-clause-wraps_line : goal.returns-then-self-eq0-clause-wraps_line
returns-then-self-eq0-clause-wraps_line c =
    λ d₀ base b t cs g ta ann sc e w s.
    step_stuck c.args.self.now c.args.self.now c.args.rest.now d₀ base c.args.tag b t cs g ta ann sc e w c.requires.cols_le_width.0
    c.args.split c.args.used s c.if-split-eq0.true (omega arith) c.if-self.false

pub returns-clause-wraps_line : goal.returns-clause-wraps_line
returns-clause-wraps_line c =
    let m : 0 < c.args.split + c.args.self.now.cols = search rules in
    λ d₀ base b t cs g ta ann sc e w s.
    step_on c.args.self.now c.close_with-2.new.self c.args.rest.now d₀ base c.args.tag b t cs g ta ann sc e w c.requires.cols_le_width.0
    c.args.split c.args.used s c.requires.cols_le_width.3 m c.close_with-2.ensures.closes_with
