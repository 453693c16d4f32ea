-- `keep_pre` meets its contract: the flat block's test is the code's, since the columns are those of the line. Assumes nothing.
use native.Mathlib.Omega.{arith}
use Rattle.flush_word.proofs.Flushing.{pre_kept, pre_written}
use Rattle.flush_word.proofs.state.WrappedBlock.keep_pre.Goals as goal

pub returns-then-left-blanks-clause-keeps_pre : goal.returns-then-left-blanks-clause-keeps_pre
returns-then-left-blanks-clause-keeps_pre c = pre_kept c.args.self.now (omega (arith, c.if-left-blanks.true))

pub returns-clause-keeps_pre : goal.returns-clause-keeps_pre
returns-clause-keeps_pre c = pre_written c.args.self.now c.push_ws.new.self c.push_ws.ensures.items (omega (arith, c.if-left-blanks.false))
