-- `put_word` meets its contract: the line's entries, the blanks' and the word's stand in a row, and nothing is pending. Assumes nothing.
use Rattle.flush_word.proofs.Flushing.{puts_word}
use Rattle.flush_word.proofs.state.WrappedBlock.put_word.Goals as goal

pub returns-clause-puts_word : goal.returns-clause-puts_word
returns-clause-puts_word c =
    puts_word c.args.self.now c.push_ws.new.self c.consume.new.self c.push_ws.ensures.items c.consume.ensures.items c.clear.new.self
    (record { items = c.clear.ensures.items; cols = c.clear.ensures.cols; text = c.clear.ensures.has_text })
