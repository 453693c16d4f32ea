-- `add_text::walk::break_word` meets its contract: a word is flushed at a break point, but not without columns and not in Pre.
-- Assumes nothing.
use mathlib.Core.Path.{sym, ◌∙◌}
use Rattle.add_text.proofs.Breaking.{pre_is, breaks_empty, breaks_pre, breaks_no, breaks_flush}
use Rattle.add_text.proofs.walk.break_word.Goals as goal
use Rattle.add_text.proofs.walk.break_word.Goals.{then-block-eq0-via-then-block-eq0, then-block-eq0-via-else-block-eq0+then-eq}

pub returns-then-block-eq0-clause-breaks_word : goal.returns-then-block-eq0-clause-breaks_word
returns-then-block-eq0-clause-breaks_word c =
    elim c.then-block-eq0.branch [
      | then-block-eq0-via-then-block-eq0 w ↦ breaks_empty c.args.block.now c.args.mode c.args.code w.if-block-eq0.true
      | then-block-eq0-via-else-block-eq0+then-eq w ↦ breaks_pre c.args.block.now c.args.mode c.args.code (pre_is c.args.mode w.eq.ensures w.if-eq.true)
    ]

pub returns-then-is_wordbreak_point-clause-breaks_word : goal.returns-then-is_wordbreak_point-clause-breaks_word
returns-then-is_wordbreak_point-clause-breaks_word c =
    breaks_flush c.args.block.now c.args.mode c.args.code c.flush_word.result c.flush_word.new.self (sym c.is_wordbreak_point.ensures ∙ c.if-is_wordbreak_point.true)
    c.if-block-eq0.false (pre_is c.args.mode c.eq.ensures c.if-eq.false) c.flush_word.ensures.flushes_word

pub returns-clause-breaks_word : goal.returns-clause-breaks_word
returns-clause-breaks_word c =
    breaks_no c.args.block.now c.args.mode c.args.code (sym c.is_wordbreak_point.ensures ∙ c.if-is_wordbreak_point.false)
