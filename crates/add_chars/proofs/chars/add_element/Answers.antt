-- `add_chars::chars::add_element` meets its contract: a mark and the bytes of the name stand after those of the word.
-- Assumes nothing.
use Rattle.add_chars.proofs.Wording.{adds_name}
use Rattle.add_chars.proofs.chars.add_element.Goals as goal

pub returns-clause-adds_element : goal.returns-clause-adds_element
returns-clause-adds_element c =
    adds_name c.args.block.now c.push_str.new.self c.push.new.self c.args.name.now _ c.push.ensures.items c.push_str.ensures.items
