-- `word_start` meets its contract: of the three modes only PreWrap trims the word. Assumes nothing.
use Rattle.flush_word.proofs.Trimming.{starts_none, starts_kept, starts_trimmed}
use Rattle.flush_word.proofs.state.WrappedBlock.word_start.Goals as goal

pub returns-then-self-eq0-clause-starts_at : goal.returns-then-self-eq0-clause-starts_at
returns-then-self-eq0-clause-starts_at c = starts_none c.args.self.now.blanks c.args.self.now.word.entries.items c.if-self-eq0.true

pub returns-in-PreWrap-clause-starts_at : goal.returns-in-PreWrap-clause-starts_at
returns-in-PreWrap-clause-starts_at c =
    starts_trimmed c.args.self.now.blanks c.args.self.now.word.entries.items c.if-self-eq0.false c.in-PreWrap.ensures c.white_front.result c.white_front.ensures.trims_front

pub returns-in_default-clause-starts_at : goal.returns-in_default-clause-starts_at
returns-in_default-clause-starts_at c =
    starts_kept c.args.self.now.blanks c.args.self.now.word.entries.items c.of_tag.result c.of_tag.ensures c.in_default.not-PreWrap
