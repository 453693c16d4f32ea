-- `write_blank` meets its contract: the space is on the line, and that is closed where it is full. Assumes nothing.
use Rattle.hard_wrap.proofs.Blanks.{blank_full, blank_open}
use Rattle.hard_wrap.proofs.line.OpenLine.write_blank.Goals as goal

pub returns-then-self-clause-writes : goal.returns-then-self-clause-writes
returns-then-self-clause-writes c =
    blank_full c.args.self.now c.push.new.self c.args.tag c.push.ensures.items c.force_flush_line.new.self c.if-self.true c.force_flush_line.ensures.force_flushes

pub returns-else-self-clause-writes : goal.returns-else-self-clause-writes
returns-else-self-clause-writes c =
    blank_open c.args.self.now c.push.new.self c.args.tag c.push.ensures.items c.if-self.false
