-- `wrap_word` meets its contract: the part of the word that is hard-wrapped is what the flat block has left of it. Assumes nothing.
use mathlib.Core.Logic.{inr}
use Rattle.std.proofs.lemmas.Result.{MatchResult-from_err}
use Rattle.flush_word.proofs.Wrapping.{wrap_narrow, wrap_done}
use Rattle.flush_word.proofs.state.WrappedBlock.wrap_word.Goals as goal

pub returns-in_err-hard_wrap-clause-word_stands : goal.returns-in_err-hard_wrap-clause-word_stands
returns-in_err-hard_wrap-clause-word_stands c = MatchResult-from_err _ _ _ c.from_residual.ensures.0 (λ _. c.next_line.ensures.opened.word)

pub returns-in_err-hard_wrap-clause-wraps_word : goal.returns-in_err-hard_wrap-clause-wraps_word
returns-in_err-hard_wrap-clause-wraps_word c =
    λ d₀ base b o h.
    MatchResult-from_err _ _ _ c.from_residual.ensures.0
    (λ n. wrap_narrow c.args.self.now c.word_start-start.result c.next_line.new.self c.word_start-start.ensures.starts_at c.next_line.ensures.opens_line c.next_line.ensures.stays c.next_line.ensures.opened n c.hard_wrap.new.self
    c.in_err-hard_wrap.ensures.wraps d₀ base b o)

pub returns-clause-word_stands : goal.returns-clause-word_stands
returns-clause-word_stands c = inr c.clear.ensures.items

pub returns-clause-wraps_word : goal.returns-clause-wraps_word
returns-clause-wraps_word c =
    λ d₀ base b o h.
    wrap_done c.args.self.now c.word_start-start.result c.next_line.new.self c.word_start-start.ensures.starts_at c.next_line.ensures.opens_line c.next_line.ensures.stays c.next_line.ensures.opened c.hard_wrap.new.self
    c.in_ok-hard_wrap.ensures.wraps c.clear.new.self (record { items = c.clear.ensures.items; cols = c.clear.ensures.cols; text = c.clear.ensures.has_text }) c.starts_pre-pre.result c.next_line.new.self.used c.starts_pre-pre.ensures d₀ base b o
