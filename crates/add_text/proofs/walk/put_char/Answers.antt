-- `add_text::walk::put_char` meets its contract: U+200B is dropped, and what takes no space always is white space.
-- Assumes nothing.
use mathlib.Core.Path.{sym, ◌∙◌}
use native.Mathlib.Omega.{arith}
use Rattle.add_text.proofs.Walking.{puts_none, puts_word_char, puts_blank}
use Rattle.add_text.proofs.walk.put_char.Goals as goal

pub returns-then-code-eq8203-clause-puts_char : goal.returns-then-code-eq8203-clause-puts_char
returns-then-code-eq8203-clause-puts_char c = puts_none c.args.block.now c.args.run c.args.ann c.args.code (omega arith)

pub returns-then-always_takes_space-clause-puts_char : goal.returns-then-always_takes_space-clause-puts_char
returns-then-always_takes_space-clause-puts_char c =
    puts_word_char c.args.block.now c.args.run c.args.ann c.args.code c.add_word_char.result c.add_word_char.new.block c.if-code-eq8203.false
    (sym c.always_takes_space.ensures ∙ c.if-always_takes_space.true) c.add_word_char.ensures.adds_word_char

pub returns-clause-puts_char : goal.returns-clause-puts_char
returns-clause-puts_char c =
    puts_blank c.args.block.now c.args.run c.args.ann c.args.code c.add_blank.result c.add_blank.new.block c.if-code-eq8203.false
    (sym c.always_takes_space.ensures ∙ c.if-always_takes_space.false) c.add_blank.ensures.adds_blank
