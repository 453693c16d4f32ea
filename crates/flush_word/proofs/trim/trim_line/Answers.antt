-- `trim_line` meets its contract: each entry that `trimmed_end` takes off is a column. Assumes nothing.
use borrow.Author.Rules.{rules}
use Rattle.flush_word.proofs.Trimming.{line_trimmed}
use Rattle.flush_word.proofs.trim.trim_line.Goals as goal

pub returns-clause-trims_line : goal.returns-clause-trims_line
returns-clause-trims_line c =
    line_trimmed c.args.line.now _ c.trimmed_end-n.result c.truncate.ensures.items (search rules) (search rules) c.trimmed_end-n.ensures.trims_back
