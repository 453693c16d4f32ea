-- `add_text::walk::add_char` meets its contract: the character is put once the break point before it is dealt with.
-- Assumes nothing.
use Rattle.add_text.proofs.Walking.{adds_char, adds_narrow}
use Rattle.add_text.proofs.walk.add_char.Goals as goal

pub returns-in_err-break_word-clause-adds_char : goal.returns-in_err-break_word-clause-adds_char
returns-in_err-break_word-clause-adds_char c =
    adds_narrow c.args.block.now c.args.run c.args.ann c.args.code c.break_word.new.block _ c.from_residual.result c.in_err-break_word.ensures.breaks_word c.from_residual.ensures.0

pub returns-clause-adds_char : goal.returns-clause-adds_char
returns-clause-adds_char c =
    adds_char c.args.block.now c.args.run c.args.ann c.args.code c.break_word.new.block c.put_char.result c.put_char.new.block c.break_word.ensures.stays
    c.in_ok-break_word.ensures.breaks_word c.put_char.ensures.puts_char
