-- `add_text::walk::add_cols` meets its contract: a character of a word goes after the others, and past the width, in Pre, the flag is set.
-- Assumes nothing.
use mathlib.Core.Logic.{inl, inr}
use native.Mathlib.Omega.{arith}
use Rattle.add_text.proofs.Breaking.{pre_is}
use Rattle.add_text.proofs.WordChars.{word_char_adds, word_char_wrapped}
use Rattle.add_text.proofs.walk.add_cols.Goals as goal
use Rattle.add_text.proofs.walk.add_cols.Goals.{then-eq+else-block-reached, else-eq}

pub returns-then-block-reached-clause-adds_word_char : goal.returns-then-block-reached-clause-adds_word_char
returns-then-block-reached-clause-adds_word_char c =
    word_char_wrapped c.args.block.now c.args.run c.args.ann c.args.part.now c.args.code c.args.cols c.tag.result c.push_word.new.block c.requires.char_is.0
    c.push_word.ensures.pushes_word c.requires.char_is.1.wrap c.tag.ensures (pre_is c.args.run.mode c.eq.ensures c.if-eq.true) (omega arith)

pub returns-clause-adds_word_char : goal.returns-clause-adds_word_char
returns-clause-adds_word_char c =
    word_char_adds c.args.block.now c.args.run c.args.ann c.args.part.now c.args.code c.args.cols c.tag-2.result c.push_word-2.new.block c.requires.char_is.0
    c.push_word-2.ensures.pushes_word c.requires.ready.ann c.tag-2.ensures
    (elim c.if-eq.branch [ then-eq+else-block-reached w ↦ inr (omega arith) | else-eq w ↦ inl (pre_is c.args.run.mode c.eq.ensures w.if-eq.false) ])
