-- `flush_word` meets its contract, case by case. Assumes nothing.
use mathlib.Core.Logic.{inl, inr}
use mathlib.Core.Path.{refl}
use native.Mathlib.Omega.{arith}
use Rattle.flush_word.proofs.Wrapping.{flushes_nothing, flushes_fits, flushes_wraps}
use Rattle.flush_word.proofs.state.WrappedBlock.flush_word.Goals as goal

pub returns-then-not-self-clause-word_stands : goal.returns-then-not-self-clause-word_stands
returns-then-not-self-clause-word_stands c = inl refl

pub returns-then-not-self-clause-flushes_word : goal.returns-then-not-self-clause-flushes_word
returns-then-not-self-clause-flushes_word c = flushes_nothing c.args.self.now c.if-not-self.true

pub returns-then-self-clause-word_stands : goal.returns-then-self-clause-word_stands
returns-then-self-clause-word_stands c = inr c.put_word.ensures.emptied

pub returns-then-self-clause-flushes_word : goal.returns-then-self-clause-flushes_word
returns-then-self-clause-flushes_word c = flushes_fits c.args.self.now c.put_word.new.self c.if-not-self.false (omega (arith, c.if-self.true)) c.put_word.ensures.puts_word

pub returns-clause-flushes_word : goal.returns-clause-flushes_word
returns-clause-flushes_word c = flushes_wraps c.args.self.now c.wrap_word.new.self c.wrap_word.result c.if-not-self.false (omega (arith, c.if-self.false)) c.wrap_word.ensures.wraps_word
