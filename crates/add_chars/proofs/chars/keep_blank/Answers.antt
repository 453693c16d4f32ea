-- `add_chars::chars::keep_blank` meets its contract: a blank joins a word with text, and pends else.
-- Assumes nothing.
use Rattle.add_chars.proofs.Wording.{keeps_joins, keeps_pends}
use Rattle.add_chars.proofs.chars.keep_blank.Goals as goal

pub returns-then-block-clause-keeps_blank : goal.returns-then-block-clause-keeps_blank
returns-then-block-clause-keeps_blank c =
    keeps_joins c.args.block.now c.args.part.now c.args.cols c.args.tag c.push_word.new.block c.if-block.true c.push_word.ensures.pushes_word

pub returns-clause-keeps_blank : goal.returns-clause-keeps_blank
returns-clause-keeps_blank c =
    keeps_pends c.args.block.now c.args.part.now c.args.cols c.args.tag _ c.if-block.false
