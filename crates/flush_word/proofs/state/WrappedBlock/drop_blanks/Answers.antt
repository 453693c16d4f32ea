-- `drop_blanks` meets its contract: the mode in the tag of pending blanks is the flat block's. Assumes nothing.
use borrow.Author.Rules.{rules}
use Rattle.flush_word.proofs.Flushing.{drop_nothing, drop_pre, drop_normal, drop_wrap}
use Rattle.flush_word.proofs.state.WrappedBlock.drop_blanks.Goals as goal

pub returns-then-self-eq0-clause-drops : goal.returns-then-self-eq0-clause-drops
returns-then-self-eq0-clause-drops c = drop_nothing c.args.self.now c.if-self-eq0.true

pub returns-in-Normal-clause-drops : goal.returns-in-Normal-clause-drops
returns-in-Normal-clause-drops c = drop_normal c.args.self.now c.if-self-eq0.false c.in-Normal.ensures

pub returns-in-Pre-clause-drops : goal.returns-in-Pre-clause-drops
returns-in-Pre-clause-drops c = drop_pre c.args.self.now _ c.if-self-eq0.false c.in-Pre.ensures (search rules)

pub returns-in-PreWrap-clause-drops : goal.returns-in-PreWrap-clause-drops
returns-in-PreWrap-clause-drops c = drop_wrap c.args.self.now _ c.if-self-eq0.false c.in-PreWrap.ensures (search rules)
