-- `line::put_text` meets its contract: the pieces as they stand, spaces up to the width, and the head in front of them.
-- Assumes nothing.
use Rattle.overhang.proofs.FillLaws.{text_base, puts_text}
use Rattle.overhang.proofs.line.put_text.Goals as goal

pub returns-clause-puts_text : goal.returns-clause-puts_text
returns-clause-puts_text c =
    puts_text _ _ _ _ _ c.args.options _ _ _ _ _ _ c.new.ensures (text_base _ _ _ _ _ _ c.new.ensures c.add_pieces-laid.ensures.line_grown c.pad_to-filled.ensures.line_grown) c.add_pieces-laid.ensures.adds_pieces c.pad_to-filled.ensures.pads c.put_head.ensures
