-- `next_line` meets its contract: a line with entries has text (`TrimsLeaveText`) once its blanks are dropped, so it is closed, and the blanks that are left are written.
-- Assumes nothing.
use Rattle.flush_word.proofs.Wrapping.{opens}
use Rattle.flush_word.proofs.state.WrappedBlock.next_line.Goals as goal

pub returns-clause-opens_line : goal.returns-clause-opens_line
returns-clause-opens_line c =
    opens c.args.self.now c.drop_blanks.new.self c.flush_line.new.self c.write_blanks.new.self c.drop_blanks.ensures.stays.line c.flush_line.ensures.stays
    c.drop_blanks.ensures.drops c.flush_line.ensures.flushes c.write_blanks.ensures.writes
