-- `add_chars::chars::push_word` meets its contract: one character is put as characters are.
-- Assumes nothing.
use Rattle.add_chars.proofs.Wording.{pushes_one}
use Rattle.add_chars.proofs.chars.push_word.Goals as goal

pub returns-clause-pushes_word : goal.returns-clause-pushes_word
returns-clause-pushes_word c =
    pushes_one c.args.block.now c.push_chars.new.block c.args.part.now c.args.cols c.args.tag c.push_chars.ensures.pushes_chars
