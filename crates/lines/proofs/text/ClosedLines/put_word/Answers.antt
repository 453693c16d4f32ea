-- `put_word` meets its contract: the bytes and the tags of the word's entries are its items. Assumes nothing.
use Rattle.lines.proofs.Buffers.{zip_copies}
use Rattle.lines.proofs.text.ClosedLines.put_word.Goals as goal

pub returns-clause-wrote : goal.returns-clause-wrote
returns-clause-wrote c = rw (zip_copies c.args.word.now.items _ _ c.bytes.ensures c.tags.ensures) at c.put_pieces-self.ensures.wrote
