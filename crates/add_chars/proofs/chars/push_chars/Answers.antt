-- `add_chars::chars::push_chars` meets its contract: the bytes of the characters stand after those of the word.
-- Assumes nothing.
use Rattle.add_chars.proofs.Wording.{pushes}
use Rattle.add_chars.proofs.chars.push_chars.Goals as goal

pub returns-clause-pushes_chars : goal.returns-clause-pushes_chars
returns-clause-pushes_chars c =
    pushes c.args.block.now c.push_str.new.self c.args.part.now c.args.cols c.args.tag c.args.wrapped _ c.requires.among_units.some c.push_str.ensures.items
