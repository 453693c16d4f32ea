-- `push` meets its contract: the bytes and the tags of the line's entries are its items. Assumes nothing.
use Rattle.lines.proofs.Buffers.{zip_copies}
use Rattle.lines.proofs.text.ClosedLines.push.Goals as goal

pub returns-clause-wrote : goal.returns-clause-wrote
returns-clause-wrote c = rw (zip_copies c.args.line.now.items _ _ c.bytes.ensures c.tags.ensures) at c.put_line-self.ensures.wrote
