-- `render::sheet::flush_wrapping` meets its contract: the last word, a line with text, and the names left in the word.
-- Assumes nothing.
use Rattle.render.proofs.Finishing.{flushes_done, flushes_narrow}
use Rattle.render.proofs.sheet.flush_wrapping.Goals as goal

pub returns-in_err-flush_word-clause-flushes_wrapping : goal.returns-in_err-flush_word-clause-flushes_wrapping
returns-in_err-flush_word-clause-flushes_wrapping c =
    flushes_narrow c.args.block.now _ _ c.flush_word.new.self c.in_err-flush_word.ensures.flushes_word c.from_residual.ensures.0

pub returns-clause-flushes_wrapping : goal.returns-clause-flushes_wrapping
returns-clause-flushes_wrapping c =
    flushes_done c.args.block.now c.flush_word.new.self c.flush_line.new.self _ _ c.in_ok-flush_word.ensures.flushes_word c.in_ok-flush_word.ensures.stays.line
    c.flush_line.ensures.flushes c.put_word.ensures.wrote c.put_word.ensures.lines
